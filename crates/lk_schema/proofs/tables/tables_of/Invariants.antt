use Rattle.std.proofs.Common.{◌≡◌, ◌++◌, drop}
use Rattle.std.specs.Prelude.{map}
use Rattle.lk_schema.specs.Schemas.{rows_in, table_of}
use Rattle.lk_schema.proofs.tables.tables_of.Given as goal

abbrev pub invariant-loop-name : goal.invariant-loop-name
invariant-loop-name l = l.tables ++ map (λ table. table_of table (rows_in table l.rows)) (drop l.name-index l.name-items)
    ≡ map (λ table. table_of table (rows_in table l.rows)) l.name-items
