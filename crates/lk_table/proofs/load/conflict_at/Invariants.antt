use Rattle.std.proofs.Common.{◌≡◌, ◌<◌, ℕ, false}
use Rattle.std.specs.Prelude.{slice_index_or}
use Rattle.lk_val.specs.declared.value.Value.TheVariants as value
use Rattle.lk_table.specs.Contents.{keys_at}
use Rattle.lk_table.specs.Loads.{is_conflict}
use Rattle.lk_table.specs.Versions.{rows_of}
use Rattle.lk_table.proofs.load.conflict_at.Given as goal

abbrev pub invariant-loop-row : goal.invariant-loop-row
invariant-loop-row l = (k : ℕ) → k < l.row
    → is_conflict (keys_at l.column (rows_of l.parts)) (keys_at l.column l.part.rows) (slice_index_or (keys_at l.column l.part.rows) k value.Null) ≡ false
