use Rattle.std.proofs.Common.{◌≡◌, ◌++◌, ℕ, List, drop}
use Rattle.lk_schema.specs.Schemas.{rows_in}
use Rattle.lk_schema.specs.ByTable.{rows_at}
use Rattle.lk_schema.proofs.tables.by_table.Given as goal

abbrev pub invariant-loop-row : goal.invariant-loop-row
invariant-loop-row l = (table : List ℕ) → rows_at l.by_table table ++ rows_in table (drop l.row-index l.rows) ≡ rows_in table l.rows
