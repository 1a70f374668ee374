use Rattle.std.proofs.Common.{◌≡◌, length}
use Rattle.lk_include.specs.Fitting.{names_fit}
use Rattle.lk_include.proofs.patterns.names_fit.Given as goal

-- what is left of the pattern fits what is left as the whole fits the whole
abbrev pub invariant-loop-piece : goal.invariant-loop-piece
invariant-loop-piece l = names_fit l.left l.rest ≡ names_fit l.pattern l.names

abbrev pub decreases-loop-piece : goal.decreases-loop-piece
decreases-loop-piece l = length l.left
