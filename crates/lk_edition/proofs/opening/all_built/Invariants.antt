use Rattle.std.proofs.Common.{◌≡◌, map, take}
use Rattle.lk_table.specs.Contents.{rows_of_each}
use Rattle.lk_trigger.specs.Builds.{built_at}
use Rattle.lk_edition.proofs.opening.all_built.Given as goal

abbrev pub invariant-loop-datagroup : goal.invariant-loop-datagroup
invariant-loop-datagroup l =
    l.builds ≡ map (built_at (rows_of_each l.tables) l.number l.now) (take l.datagroup-index l.datagroups)
