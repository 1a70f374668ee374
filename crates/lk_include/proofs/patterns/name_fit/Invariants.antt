use Rattle.std.proofs.Common.{◌≡◌, length}
use Rattle.lk_include.specs.Fitting.{name_fit}
use Rattle.lk_include.proofs.patterns.name_fit.Given as goal

-- what is left of the pattern fits what is left as the whole fits the whole
abbrev pub invariant-loop-piece : goal.invariant-loop-piece
invariant-loop-piece l = name_fit l.left l.rest ≡ name_fit l.pattern l.name

abbrev pub decreases-loop-piece : goal.decreases-loop-piece
decreases-loop-piece l = length l.left
