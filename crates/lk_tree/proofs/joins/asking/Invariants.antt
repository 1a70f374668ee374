use Rattle.std.proofs.Common.{◌≡◌, length, map}
use Rattle.lk_semantics.specs.Joins.{numbers_below}
use Rattle.lk_tree.specs.Asking.{does_ask}
use Rattle.lk_tree.proofs.joins.asking.Given as goal

abbrev pub invariant-loop-i : goal.invariant-loop-i
invariant-loop-i l = l.asking ≡ map (λ i. map (does_ask l.x i) (numbers_below (length l.x.joins))) (numbers_below l.i)
