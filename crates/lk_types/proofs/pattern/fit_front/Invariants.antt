use Rattle.std.proofs.Common.{◌≡◌, length}
use Rattle.lk_types.specs.Fitting.{fit_front}
use Rattle.lk_types.proofs.pattern.fit_front.Given as goal

-- what is left of the pattern fits what is left of the text as the whole fits the whole
abbrev pub invariant-loop-piece : goal.invariant-loop-piece
invariant-loop-piece l = fit_front l.left l.rest ≡ fit_front l.pieces l.text

abbrev pub decreases-loop-piece : goal.decreases-loop-piece
decreases-loop-piece l = length l.left
