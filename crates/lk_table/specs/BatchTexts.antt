-- The canonical text of a batch: the names of all columns in order, and then its rows. (lookd; RFC 4180)
use Rattle.std.specs.Prelude.{◌≡◌, ◌≢◌, ℕ, nat_eq, true, if◌then◌else◌, List, [], ◌∷◌, ◌++◌, map}
use Rattle.std.specs.List.{starts_with}
use Rattle.lk_csv.specs.Records.{records_text}
use Rattle.lk_val.specs.Texts.{are_different}
use Rattle.lk_types.specs.Printing.{value_text}
use Rattle.lk_types.specs.Tables.{Cells, Rows}
use Rattle.lk_types.specs.declared.schema.ColumnDef.{ColumnDef}
use Rattle.lk_types.specs.declared.schema.TableDef.{TableDef}
use Rattle.lk_table.specs.Batches.{Fields}
use Rattle.lk_table.specs.Contents.{Content}

-- U+FEFF in UTF-8
abbrev pub byte_order_mark : List ℕ
byte_order_mark = 0xEF ∷ 0xBB ∷ 0xBF ∷ []

-- a text that begins with the mark has one more, since a reader skips one
abbrev pub marked : List ℕ → List ℕ
marked text = if starts_with nat_eq text byte_order_mark then byte_order_mark ++ text else text

abbrev pub names_of : List ColumnDef → Fields
names_of columns = map (λ column. column.name) columns

-- the fields of a row, each as its cell prints
abbrev pub fields_of_row : Cells → Fields
fields_of_row row = map value_text row

-- the header and the rows
abbrev pub text_records : TableDef → Rows → List Fields
text_records def rows = names_of def.columns ∷ map fields_of_row rows

abbrev pub batch_text : TableDef → Content → List ℕ
batch_text def content = marked (records_text (text_records def content.rows))

-- a table has a column, and no two of one name
abbrev pub HasNamedColumns : TableDef → Type 0
HasNamedColumns def = (def.columns ≢ []) × (are_different (names_of def.columns) ≡ true)
