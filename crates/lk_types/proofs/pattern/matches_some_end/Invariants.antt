use Rattle.std.proofs.Common.{◌≡◌, ◌+◌, length}
use Rattle.lk_types.specs.Expressions.{some_end, matches}
use Rattle.lk_types.proofs.pattern.matches_some_end.Given as goal

-- what is left of the pattern covers some end of what is left as the whole covers some end of the whole
abbrev pub invariant-loop-further : goal.invariant-loop-further
invariant-loop-further l = some_end (matches l.left) l.rest ≡ some_end (matches l.pieces) l.text

abbrev pub decreases-loop-further : goal.decreases-loop-further
decreases-loop-further l = length l.left + length l.rest
