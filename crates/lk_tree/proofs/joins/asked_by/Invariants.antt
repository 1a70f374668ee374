use Rattle.std.proofs.Common.{◌≡◌, map}
use Rattle.lk_semantics.specs.Joins.{numbers_below}
use Rattle.lk_tree.specs.Asking.{does_ask}
use Rattle.lk_tree.proofs.joins.asked_by.Given as goal

abbrev pub invariant-loop-j : goal.invariant-loop-j
invariant-loop-j l = l.asked ≡ map (does_ask l.x l.i) (numbers_below l.j)
