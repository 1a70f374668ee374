use Rattle.std.proofs.Common.{◌≡◌, ◌+◌, drop, map}
use Rattle.std.specs.Prelude.{flat_map}
use Rattle.lk_semantics.specs.Joins.{part_at}
use Rattle.lk_semantics.specs.Reading.{derived_in}
use Rattle.lk_fill.specs.Reached.{first_reached}
use Rattle.lk_fill.specs.Reads.{tables_read}
use Rattle.lk_fill.proofs.reached.first_reached.Given as goal

abbrev pub invariant-loop-join : goal.invariant-loop-join
invariant-loop-join l =
    first_reached l.groups (flat_map derived_in (map (λ j. (part_at l.x (j + 1)).origin) (drop l.join-index l.joins))) ≡ first_reached l.groups (tables_read l.x l.joins)
