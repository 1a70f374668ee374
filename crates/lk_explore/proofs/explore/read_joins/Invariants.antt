use Rattle.std.proofs.Common.{List, ◌++◌, drop}
use Rattle.lk_objects.specs.declared.explore.DeclaredJoin.{DeclaredJoin}
use Rattle.lk_explore.specs.Explores.{AreJoins, joins_in}
use Rattle.lk_explore.proofs.explore.read_joins.Given as goal

abbrev pub invariant-loop-item : goal.invariant-loop-item
invariant-loop-item l =
    (more : List DeclaredJoin) → AreJoins (joins_in (drop l.item-index l.items)) more → AreJoins (joins_in l.items) (l.joins ++ more)
