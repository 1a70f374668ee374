-- The tables that the text of a schema declares, or its first fault. (lookd)
use Rattle.std.specs.Prelude.{ℕ, Bool, true, false, ◌&&◌, if◌then◌else◌, List, [], ◌∷◌, ◌++◌, map, Option, Some, None, Result, Ok, Err, codes}
use Rattle.std.specs.List.{filter, list_any, position}
use Rattle.std.specs.Option.{option_or}
use Rattle.lk_val.specs.Texts.{is_same_text, text_of}
use Rattle.lk_val.specs.declared.fault.FaultLine.{FaultLine}
use Rattle.lk_val.specs.declared.fault.ModelFault.{ModelFault}
use Rattle.lk_val.specs.declared.fault.ModelFault.TheVariants.{Fault}
use Rattle.lk_types.specs.declared.schema.Kind.{Kind}
use Rattle.lk_types.specs.declared.schema.Kind.TheVariants as kind
use Rattle.lk_types.specs.declared.schema.Schema.{Schema}
use Rattle.lk_types.specs.declared.schema.TableDef.{TableDef}
use Rattle.lk_types.specs.declared.schema.ColumnDef.{ColumnDef}
use Rattle.lk_csv.specs.Records.{records_of}
use Rattle.lk_schema.specs.declared.schema.Declared.{Declared}
use Rattle.lk_schema.specs.Rows.{Fields, row_line, rows_of, first_again}

-- ---- rows

-- `table,column,kind,key`
abbrev pub is_header : Fields → Bool
is_header (table ∷ column ∷ k ∷ key ∷ []) =
    is_same_text table (codes "table") && is_same_text column (codes "column")
    && is_same_text k (codes "kind") && is_same_text key (codes "key")
is_header fields = false

-- the kind of a column's values that a word names
abbrev pub kind_of : List ℕ → Option Kind
kind_of word =
    if is_same_text word (codes "text") then Some kind.Text
    else if is_same_text word (codes "number") then Some kind.Number
    else if is_same_text word (codes "yesno") then Some kind.Truth
    else if is_same_text word (codes "day") then Some kind.Day
    else if is_same_text word (codes "moment") then Some kind.Moment
    else None

-- `yes` marks a key, and nothing marks another column
abbrev pub key_mark : List ℕ → Option Bool
key_mark [] = Some false
key_mark (c ∷ cs) = if is_same_text (c ∷ cs) (codes "yes") then Some true else None

-- the column of the parts, if there are all
abbrev pub declared_as : Option (List ℕ) → Option (List ℕ) → Option Kind → Option Bool → Option Declared
declared_as (Some table) (Some column) (Some k) (Some is_key) =
    Some (record { table = table; column = column; kind = k; is_key = is_key })
declared_as table column k is_key = None

-- a record declares a column: a table, a column, a kind, and whether it is the key, in UTF-8
abbrev pub declared_of : Fields → Option Declared
declared_of (table ∷ column ∷ k ∷ key ∷ []) =
    declared_as (text_of table) (text_of column) (kind_of k) (key_mark key)
declared_of fields = None

-- ---- faults

abbrev pub column_line : List ℕ → ℕ → Declared → FaultLine
column_line code number row = row_line code (codes "schema.csv") number row.table row.column

abbrev pub is_same_column : List ℕ × List ℕ → List ℕ × List ℕ → Bool
is_same_column a b = is_same_text a.0 b.0 && is_same_text a.1 b.1

-- a table has each of its columns once
abbrev pub second_column : List Declared → Option FaultLine
second_column rows =
    first_again is_same_column (λ row. Some (row.table, row.column)) (column_line (codes "C2")) [] rows

-- the table of which a row is the key
abbrev pub table_of_key : Declared → Option (List ℕ)
table_of_key row = if row.is_key then Some row.table else None

-- a table has at most one key
abbrev pub second_key : List Declared → Option FaultLine
second_key rows = first_again is_same_text table_of_key (column_line (codes "C3")) [] rows

-- a column twice goes before a second key
abbrev pub fault_in : List Declared → Option FaultLine
fault_in rows = option_or (second_column rows) (second_key rows)

-- ---- tables

-- the tables of the rows, each where it first stands, given the rows before them
abbrev pub tables_in : List Declared → List Declared → List (List ℕ)
tables_in before [] = []
tables_in before (row ∷ rows) =
    if list_any (λ other. is_same_text other.table row.table) before then tables_in (before ++ row ∷ []) rows
    else row.table ∷ tables_in (before ++ row ∷ []) rows

-- the rows of a table
abbrev pub rows_in : List ℕ → List Declared → List Declared
rows_in table rows = filter (λ row. is_same_text row.table table) rows

abbrev pub column_of : Declared → ColumnDef
column_of row = record { name = row.column; kind = row.kind }

-- a table's columns in order, and the number of its key
abbrev pub table_of : List ℕ → List Declared → TableDef
table_of table rows =
    record { name = table; columns = map column_of rows; key = position (λ row. row.is_key) rows }

abbrev pub tables_of : List Declared → List TableDef
tables_of rows = map (λ table. table_of table (rows_in table rows)) (tables_in [] rows)

-- ---- the schema

-- the schema, unless there is a fault
abbrev pub schema_unless : Option FaultLine → List Declared → Result Schema ModelFault
schema_unless (Some line) rows = Err (Fault line)
schema_unless None rows = Ok (record { tables = tables_of rows })

-- a row of another shape goes before all else
abbrev pub schema_with : Result (List Declared) ModelFault → Result Schema ModelFault
schema_with (Err fault) = Err fault
schema_with (Ok rows) = schema_unless (fault_in rows) rows

-- the schema of the records
abbrev pub schema_from : List Fields → Result Schema ModelFault
schema_from records = schema_with (rows_of (codes "C1") (codes "schema.csv") is_header declared_of records)

-- the schema that a text declares, or its first fault (lookd)
abbrev pub schema_of : List ℕ → Result Schema ModelFault
schema_of text = schema_from (records_of text)
