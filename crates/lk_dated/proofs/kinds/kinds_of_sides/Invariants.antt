use Rattle.std.proofs.Common.{◌≡◌, ◌++◌, drop, map}
use Rattle.lk_dated.proofs.kinds.kinds_of_sides.Given as goal

abbrev pub invariant-loop-side : goal.invariant-loop-side
invariant-loop-side l = l.kinds ++ map (λ s. s.kinds) (drop l.side-index l.sides) ≡ map (λ s. s.kinds) l.sides
