use Rattle.std.proofs.Common.{◌≡◌, ◌++◌, length}
use Rattle.lk_eval.specs.Patterns.{pattern_of}
use Rattle.lk_eval.proofs.like.read_pattern.Given as goal

-- the pieces so far, and those of what is left, are all pieces
abbrev pub invariant-loop-byte : goal.invariant-loop-byte
invariant-loop-byte l = l.pieces ++ pattern_of l.rest ≡ pattern_of l.text

abbrev pub decreases-loop-byte : goal.decreases-loop-byte
decreases-loop-byte l = length l.rest
