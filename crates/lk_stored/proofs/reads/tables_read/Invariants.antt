use Rattle.std.proofs.Common.{◌≡◌, ◌+◌, ◌++◌, drop, map}
use Rattle.std.specs.Prelude.{flat_map}
use Rattle.lk_semantics.specs.Joins.{part_at}
use Rattle.lk_semantics.specs.Reading.{derived_in}
use Rattle.lk_stored.specs.Reads.{tables_read}
use Rattle.lk_stored.proofs.reads.tables_read.Given as goal

abbrev pub invariant-loop-j : goal.invariant-loop-j
invariant-loop-j l = l.tables ++ flat_map derived_in (map (λ j. (part_at l.x (j + 1)).origin) (drop l.j-index l.j-items)) ≡ tables_read l.x l.table
