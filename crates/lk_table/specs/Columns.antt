-- Rows as columns hold them: a text by its mark in a region, and any other cell as it is.
use Rattle.std.specs.Prelude.{◌≡◌, ◌<◌, ◌+◌, ◌&&◌, ℕ, ℤ, Bool, true, false, List, [], ◌∷◌, ◌++◌, map, length, Option, Some, None}
use Rattle.std.specs.List.{All, range_with_len, sum_by}
use Rattle.std.specs.Str.{is_utf8}
use Rattle.lk_val.specs.declared.value.Value.{Value}
use Rattle.lk_val.specs.declared.value.Value.TheVariants as value
use Rattle.lk_types.specs.Tables.{Cells, Rows, is_of_kind}
use Rattle.lk_types.specs.declared.schema.Kind.{Kind}
use Rattle.lk_types.specs.declared.schema.Kind.TheVariants as kind
use Rattle.lk_region.specs.Regions.{text_at}
use Rattle.lk_region.specs.declared.mark.Mark.{Mark}
use Rattle.lk_table.specs.declared.builder.BlockBuilder.{BlockBuilder}
use Rattle.lk_table.specs.declared.column.Column.{Column}
use Rattle.lk_table.specs.declared.column.Column.TheVariants as column
use Rattle.lk_table.specs.Contents.{Content, cell_at, text_bytes, text_length}

-- ---- cells

abbrev pub text_value : List (List ℕ) → Option Mark → Value
text_value texts None = value.Null
text_value texts (Some mark) = value.Text (text_at texts mark.0)

abbrev pub number_value : Option ℤ → Value
number_value None = value.Null
number_value (Some n) = value.Num (record { 0 = n })

abbrev pub truth_value : Option Bool → Value
truth_value None = value.Null
truth_value (Some b) = value.Truth b

abbrev pub day_value : Option ℤ → Value
day_value None = value.Null
day_value (Some d) = value.Day d

abbrev pub moment_value : Option ℤ → Value
moment_value None = value.Null
moment_value (Some m) = value.Moment m

-- ---- columns

-- the values of a column, by the texts of its region
abbrev pub values_in : List (List ℕ) → Column → Cells
values_in texts (column.Text cells) = map (text_value texts) cells
values_in texts (column.Number cells) = map number_value cells
values_in texts (column.Truth cells) = map truth_value cells
values_in texts (column.Day cells) = map day_value cells
values_in texts (column.Moment cells) = map moment_value cells

abbrev pub kind_in : Column → Kind
kind_in (column.Text cells) = kind.Text
kind_in (column.Number cells) = kind.Number
kind_in (column.Truth cells) = kind.Truth
kind_in (column.Day cells) = kind.Day
kind_in (column.Moment cells) = kind.Moment

-- a cell's mark is one of so many
abbrev pub IsMark : ℕ → Option Mark → Type 0
IsMark count None = Unit {0}
IsMark count (Some mark) = mark.0 < count

-- each mark of a column is one of so many
abbrev pub IsMarked : ℕ → Column → Type 0
IsMarked count (column.Text cells) = All (IsMark count) cells
IsMarked count (column.Number cells) = Unit {0}
IsMarked count (column.Truth cells) = Unit {0}
IsMarked count (column.Day cells) = Unit {0}
IsMarked count (column.Moment cells) = Unit {0}

-- each text is UTF-8
abbrev pub AreText : List (List ℕ) → Type 0
AreText texts = All (λ text. is_utf8 text ≡ true) texts

-- ---- rows

-- the first rows of columns, so many
abbrev pub rows_in : ℕ → List Cells → Rows
rows_in count columns = map (λ row. map (λ cells. cell_at cells row) columns) (range_with_len 0 count)

-- the columns with a value more each; a value past the last column is left out
abbrev pub pushed : Cells → List Cells → List Cells
pushed (v ∷ values) (cells ∷ columns) = (cells ++ v ∷ []) ∷ pushed values columns
pushed values columns = columns

-- the cells are as many as the kinds, and each is null or of its kind
abbrev pub are_of_kinds : List Kind → Cells → Bool
are_of_kinds [] [] = true
are_of_kinds (k ∷ kinds) (v ∷ cells) = is_of_kind k v && are_of_kinds kinds cells
are_of_kinds kinds cells = false

-- the content with one row more
abbrev pub with_row : Content → Cells → Content
with_row content row =
    record { kinds = content.kinds; key = content.key; rows = content.rows ++ row ∷ [] }

-- what is added up of some bytes and the texts among cells
abbrev pub lengths_added : ℕ → Cells → ℕ
lengths_added text cells = text + sum_by text_length cells

-- ---- what always holds

-- each column has a cell for each row, each mark has a text in UTF-8, and the bytes of the text cells are counted
pub record IsHeld (texts : List (List ℕ)) (columns : List Column) (count text : ℕ) : Type 0 where
  pub even : All (λ cells. length cells ≡ count) (map (values_in texts) columns)
  pub marked : All (IsMarked (length texts)) columns
  pub utf8 : AreText texts
  pub counted : text ≡ text_bytes (rows_in count (map (values_in texts) columns))

-- ---- rows that are being added

-- what a builder holds; it knows of no key column
abbrev pub built : BlockBuilder → Content
built rows = record {
  kinds = map kind_in rows.columns.items;
  key = None;
  rows = rows_in rows.count (map (values_in rows.region) rows.columns.items);
}

-- what a builder's columns have between two rows
abbrev pub IsBuilt : BlockBuilder → Type 0
IsBuilt rows = IsHeld rows.region rows.columns.items rows.count rows.text
