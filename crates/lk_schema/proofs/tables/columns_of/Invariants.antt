use Rattle.std.proofs.Common.{◌≡◌, ◌++◌, drop}
use Rattle.std.specs.Prelude.{map}
use Rattle.lk_schema.specs.Schemas.{column_of}
use Rattle.lk_schema.proofs.tables.columns_of.Given as goal

abbrev pub invariant-loop-row : goal.invariant-loop-row
invariant-loop-row l = l.columns ++ map column_of (map (λ row. row.now) (drop l.row-index l.rows)) ≡ map column_of (map (λ row. row.now) l.rows)
