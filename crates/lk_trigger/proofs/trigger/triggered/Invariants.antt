use Rattle.std.proofs.Common.{◌≡◌}
use Rattle.std.specs.Prelude.{filter}
use Rattle.lk_semantics.specs.Joins.{numbers_below}
use Rattle.lk_table.specs.Contents.{rows_of_each}
use Rattle.lk_trigger.specs.Builds.{build_at, datagroup_at, does_trigger}
use Rattle.lk_trigger.proofs.trigger.triggered.Given as goal

-- the datagroups that trigger, so far
abbrev pub invariant-loop-number : goal.invariant-loop-number
invariant-loop-number l = l.numbers
    ≡ filter (λ g. does_trigger (rows_of_each l.tables) l.now (build_at l.builds g) (datagroup_at l.datagroups g)) (numbers_below l.number)
