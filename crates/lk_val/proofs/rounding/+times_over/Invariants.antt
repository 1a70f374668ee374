use Rattle.lk_val.proofs.rounding.+times_over.Given as goal

abbrev pub decreases-times_over : goal.decreases-times_over
decreases-times_over l = l.k
