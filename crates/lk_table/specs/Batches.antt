-- The rows that a text of comma-separated fields holds for a table, or its first fault. (lookd)
use Rattle.std.specs.Prelude.{ℕ, ◌+◌, ◌==◌, if◌then◌else◌, List, [], ◌∷◌, ◌++◌, map, length, slice_index_or, Option, Some, None, Result, Ok, Err}
use Rattle.std.specs.List.{list_any, position, range_with_len}
use Rattle.std.specs.Str.{is_utf8}
use Rattle.lk_val.specs.Texts.{is_same_text}
use Rattle.lk_val.specs.declared.value.Value.{Value}
use Rattle.lk_val.specs.declared.value.Value.TheVariants as value
use Rattle.lk_types.specs.Tables.{Cells, Rows}
use Rattle.lk_types.specs.declared.schema.Kind.TheVariants as kind
use Rattle.lk_types.specs.declared.schema.ColumnDef.{ColumnDef}
use Rattle.lk_types.specs.declared.schema.TableDef.{TableDef}
use Rattle.lk_cell.specs.CellValues.{cell_value}
use Rattle.lk_csv.specs.Records.{records_of}
use Rattle.lk_table.specs.Contents.{Content, cell_at, content_of, lacks_key}
use Rattle.lk_table.specs.declared.fault.BatchFault.{BatchFault}
use Rattle.lk_table.specs.declared.fault.BatchFault.TheVariants.{L3, L5}

-- a record, as its fields
abbrev pub Fields : Type 0
Fields = List (List ℕ)

-- what is made of a value, or the error
abbrev pub and_then : {A B E : Type 0} → Result A E → (A → Result B E) → Result B E
and_then (Err fault) next = Err fault
and_then (Ok value) next = next value

-- items in front of those that follow, or the error
abbrev pub in_front : {A E : Type 0} → List A → Result (List A) E → Result (List A) E
in_front front (Err fault) = Err fault
in_front front (Ok items) = Ok (front ++ items)

-- ---- the header

-- the number of the column of this name
abbrev pub place_named : List ColumnDef → List ℕ → Option ℕ
place_named columns name = position (λ column. is_same_text column.name name) columns

-- a name as a fault carries it: bytes that are not text are carried as the empty name
abbrev pub carried : List ℕ → List ℕ
carried name = if is_utf8 name then name else []

-- the place, unless there is none or it stands among some
abbrev pub unless_among : List ℕ → Option ℕ → Option ℕ
unless_among places None = None
unless_among places (Some place) = if list_any (λ other. other == place) places then None else Some place

-- the place, or else the name
abbrev pub or_name : List ℕ → Option ℕ → Result ℕ (List ℕ)
or_name name None = Err (carried name)
or_name name (Some place) = Ok place

-- the numbers of the columns that the names name, behind those of the names before them; or the first name that is
-- no column's, or that stands twice
abbrev pub places_of : List ColumnDef → List ℕ → List (List ℕ) → Result (List ℕ) (List ℕ)
places_of columns places [] = Ok places
places_of columns places (name ∷ names) =
    and_then (or_name name (unless_among places (place_named columns name))) (λ place. places_of columns (places ++ place ∷ []) names)

-- ---- a record

abbrev pub no_column : ColumnDef
no_column = record { name = []; kind = kind.Text }

abbrev pub column_at : List ColumnDef → ℕ → ColumnDef
column_at columns place = slice_index_or columns place no_column

-- a value in front of others, where it reads; or else the name of its column
abbrev pub value_then : List ℕ → Option Value → Result Cells (List ℕ) → Result Cells (List ℕ)
value_then name None rest = Err name
value_then name (Some v) rest = in_front (v ∷ []) rest

-- the values of a record's fields, or the name of the first column whose field doesn't read
abbrev pub values_of : List ColumnDef → Fields → Result Cells (List ℕ)
values_of (column ∷ columns) (field ∷ fields) =
    value_then column.name (cell_value column.kind field) (values_of columns fields)
values_of columns fields = Ok []

-- the same of a record as long as the header; one of another length has the empty name
abbrev pub record_values : List ColumnDef → Fields → Result Cells (List ℕ)
record_values named fields = if length fields == length named then values_of named fields else Err []

-- the place in a record of each column of a table, by the columns that the header names
abbrev pub sources_of : ℕ → List ℕ → List (Option ℕ)
sources_of width places = map (λ column. position (λ place. place == column) places) (range_with_len 0 width)

-- the value at a place of a record; null where the header doesn't name the column
abbrev pub value_from : Cells → Option ℕ → Value
value_from values None = value.Null
value_from values (Some place) = cell_at values place

-- a record's values by the table's columns
abbrev pub row_from : List (Option ℕ) → Cells → Cells
row_from sources values = map (value_from values) sources

-- ---- the rows

-- a fault of the row of this number, by the name of a column
abbrev pub or_wrong : {A : Type 0} → ℕ → Result A (List ℕ) → Result A BatchFault
or_wrong row (Err name) = Err (L3 row name)
or_wrong row (Ok value) = Ok value

-- given: the columns in the header's order, and where each column of the table stands there
module _ (named : List ColumnDef) (sources : List (Option ℕ)) where
  -- the rows that records are, of which the first has this number; or the first fault
  abbrev pub rows_from : ℕ → List Fields → Result Rows BatchFault
  rows_from number [] = Ok []
  rows_from number (fields ∷ records) =
      and_then (or_wrong number (record_values named fields))
      (λ values. in_front (row_from sources values ∷ []) (rows_from (number + 1) records))

-- the rows behind a header that names these columns
abbrev pub rows_behind : List ColumnDef → List Fields → List ℕ → Result Rows BatchFault
rows_behind columns records places =
    rows_from (map (column_at columns) places) (sources_of (length columns) places) 1 records

-- ---- the batch

-- the content, unless a row lacks its key, by the place of the first such row
abbrev pub unless_null : Content → Option ℕ → Result Content BatchFault
unless_null content (Some place) = Err (L5 (place + 1))
unless_null content None = Ok content

abbrev pub with_keys : Content → Result Content BatchFault
with_keys content = unless_null content (position (lacks_key content.key) content.rows)

-- the content of the rows, or their fault
abbrev pub content_from : TableDef → Result Rows BatchFault → Result Content BatchFault
content_from def rows = and_then rows (λ those. Ok (content_of def those))

-- the batch of the records, of which the first is the header
abbrev pub batch_from : TableDef → List Fields → Result Content BatchFault
batch_from def [] = Err (L3 0 [])
batch_from def (header ∷ records) =
    and_then (or_wrong 0 (places_of def.columns [] header))
    (λ places. and_then (content_from def (rows_behind def.columns records places)) with_keys)

-- the rows that a text holds for a table, or its first fault: a header or a row that doesn't read (L3), and only then
-- a key that is null (L5). Rows count from 1, and the header is row 0.
abbrev pub batch_of : TableDef → List ℕ → Result Content BatchFault
batch_of def text = batch_from def (records_of text)
