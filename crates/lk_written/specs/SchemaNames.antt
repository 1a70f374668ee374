-- Which table and column of the schema a name means. (lookd)
use Rattle.std.specs.Prelude.{ℕ, List, Option, slice_get}
use Rattle.std.specs.List.{position}
use Rattle.std.specs.Option.{option_and_then}
use Rattle.lk_val.specs.Texts.{is_same_text}
use Rattle.lk_types.specs.declared.schema.Schema.{Schema}

-- the number of a table
abbrev pub table_number : Schema → List ℕ → Option ℕ
table_number schema name = position (λ table. is_same_text table.name name) schema.tables

-- the number of a column of a table
abbrev pub column_number : Schema → ℕ → List ℕ → Option ℕ
column_number schema number name =
    option_and_then (λ table. position (λ column. is_same_text column.name name) table.columns) (slice_get schema.tables number)
