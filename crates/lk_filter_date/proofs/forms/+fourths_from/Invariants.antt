use Rattle.lk_filter_date.proofs.forms.+fourths_from.Given as goal

abbrev pub decreases-fourths_from : goal.decreases-fourths_from
decreases-fourths_from l = l.count
