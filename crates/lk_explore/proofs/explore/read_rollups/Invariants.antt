use Rattle.std.proofs.Common.{List, ◌++◌, drop}
use Rattle.lk_objects.specs.declared.explore.AggregateTable.{AggregateTable}
use Rattle.lk_explore.specs.Explores.{AreRollups, rollups_in}
use Rattle.lk_explore.proofs.explore.read_rollups.Given as goal

abbrev pub invariant-loop-item : goal.invariant-loop-item
invariant-loop-item l =
    (more : List AggregateTable) → AreRollups (rollups_in (drop l.item-index l.items)) more → AreRollups (rollups_in l.items) (l.tables ++ more)
