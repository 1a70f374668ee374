-- What a batch and a table hold: the kinds of their columns, the number of the key column, and rows of cells by column.
use Rattle.std.specs.Prelude.{ℕ, ◌*◌, Bool, false, List, [], map, length, slice_index_or, Option, None, Some}
use Rattle.std.specs.List.{sum_by}
use Rattle.lk_val.specs.Values.{is_null}
use Rattle.lk_val.specs.declared.value.Value.{Value}
use Rattle.lk_val.specs.declared.value.Value.TheVariants as value
use Rattle.lk_types.specs.Tables.{Cells, Rows}
use Rattle.lk_types.specs.declared.schema.Kind.{Kind}
use Rattle.lk_types.specs.declared.schema.ColumnDef.{ColumnDef}
use Rattle.lk_types.specs.declared.schema.TableDef.{TableDef}
use Rattle.lk_table.specs.declared.amount.Size.{Size}

pub record Content : Type 0 where
  pub kinds : List Kind
  pub key : Option ℕ
  pub rows : Rows

-- the rows of each table
abbrev pub rows_of_each : List Content → List Rows
rows_of_each tables = map (λ table. table.rows) tables

-- ---- rows and cells

abbrev pub row_at : Rows → ℕ → Cells
row_at rows row = slice_index_or rows row []

-- the cell of a column, null past the row's end
abbrev pub cell_at : Cells → ℕ → Value
cell_at row column = slice_index_or row column value.Null

-- the row's key is null, where there is a key column
abbrev pub lacks_key : Option ℕ → Cells → Bool
lacks_key None row = false
lacks_key (Some column) row = is_null (cell_at row column)

-- the cells of a column
abbrev pub keys_at : ℕ → Rows → List Value
keys_at column rows = map (λ row. cell_at row column) rows

-- the keys of the rows, none where there is no key column
abbrev pub keys_of : Option ℕ → Rows → List Value
keys_of None rows = []
keys_of (Some column) rows = keys_at column rows

-- ---- tables

abbrev pub kind_of : ColumnDef → Kind
kind_of column = column.kind

-- rows of a table
abbrev pub content_of : TableDef → Rows → Content
content_of def rows = record { kinds = map kind_of def.columns; key = def.key; rows = rows }

-- ---- sizes

-- the bytes of a text; none of any other value
abbrev pub text_length : Value → ℕ
text_length (value.Text t) = length t
text_length v = 0

-- the bytes of the text cells of rows
unfoldable pub text_bytes : Rows → ℕ
text_bytes rows = sum_by (λ row. sum_by text_length row) rows

-- the number of cells, and of the bytes of text cells
abbrev pub size_of : Content → Size
size_of content =
    record { cells = length content.rows * length content.kinds; text = text_bytes content.rows }
