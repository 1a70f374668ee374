use Rattle.std.proofs.Common.{◌≡◌, ◌+◌, map}
use Rattle.std.specs.Prelude.{if◌then◌else◌}
use Rattle.lk_types.specs.Expressions.{has_number}
use Rattle.lk_semantics.specs.Joins.{numbers_below}
use Rattle.lk_table.specs.Contents.{rows_of_each}
use Rattle.lk_trigger.specs.Builds.{build_at, built_at, datagroup_at}
use Rattle.lk_edition.proofs.checking.rebuilt.Given as goal

abbrev pub invariant-loop-group : goal.invariant-loop-group
invariant-loop-group l =
    l.builds ≡ map (λ g. if has_number g l.groups
    then built_at (rows_of_each l.edition.state.tables) (l.edition.state.number + 1) l.now (datagroup_at l.edition.model.datagroups g)
    else build_at l.edition.builds g) (numbers_below l.group)
