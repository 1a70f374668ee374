use Rattle.std.proofs.Common.{◌≡◌}
use Rattle.lk_semantics.specs.Joins.{numbers_below}
use Rattle.lk_keeps.proofs.numbers.numbers_below.Given as goal

abbrev pub invariant-loop-place : goal.invariant-loop-place
invariant-loop-place l = l.numbers ≡ numbers_below l.place
