use Rattle.std.proofs.Common.{◌≡◌, ◌+◌, length}
use Rattle.std.specs.Prelude.{nat_eq}
use Rattle.lk_include.specs.Patterns.{is_star}
use Rattle.lk_include.specs.Patterns.{some_end, covers}
use Rattle.lk_include.proofs.patterns.matches_end_of_name.Given as goal

-- what is left of the pattern covers some end of what is left as the whole covers some end of the whole
abbrev pub invariant-loop-further : goal.invariant-loop-further
invariant-loop-further l =
    some_end (covers is_star nat_eq l.left) l.rest ≡ some_end (covers is_star nat_eq l.pattern) l.name

abbrev pub decreases-loop-further : goal.decreases-loop-further
decreases-loop-further l = length l.left + length l.rest
