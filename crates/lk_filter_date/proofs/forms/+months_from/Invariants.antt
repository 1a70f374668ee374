use Rattle.lk_filter_date.proofs.forms.+months_from.Given as goal

abbrev pub decreases-months_from : goal.decreases-months_from
decreases-months_from l = l.count
