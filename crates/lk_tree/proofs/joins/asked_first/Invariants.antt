use Rattle.std.proofs.Common.{◌≡◌, map}
use Rattle.lk_semantics.specs.Derived.{asked_parts}
use Rattle.lk_semantics.specs.Joins.{numbers_below}
use Rattle.lk_tree.specs.Asking.{is_asked_first}
use Rattle.lk_tree.proofs.joins.asked_first.Given as goal

abbrev pub invariant-loop-j : goal.invariant-loop-j
invariant-loop-j l = l.asked ≡ map (is_asked_first l.x (asked_parts l.x l.fields l.measures)) (numbers_below l.j)
