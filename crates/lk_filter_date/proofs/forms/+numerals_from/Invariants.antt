use Rattle.lk_filter_date.proofs.forms.+numerals_from.Given as goal

abbrev pub decreases-numerals_from : goal.decreases-numerals_from
decreases-numerals_from l = l.count
