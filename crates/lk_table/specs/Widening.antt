-- A content of the columns that a header names, and the same content in all columns of its table.
use Rattle.std.specs.Prelude.{◌≡◌, ◌<◌, ◌==◌, ℕ, List, length, map, replicate, slice_index_or, slice_set, Option, Some, None}
use Rattle.std.specs.List.{position, range_with_len}
use Rattle.lk_types.specs.declared.schema.Kind.{Kind}
use Rattle.lk_types.specs.declared.schema.Kind.TheVariants as kind
use Rattle.lk_table.specs.declared.column.Column.{Column}
use Rattle.lk_table.specs.declared.column.Column.TheVariants as column
use Rattle.lk_table.specs.Contents.{Content}
use Rattle.lk_table.specs.Batches.{row_from}

-- ---- places

-- no place stands twice
abbrev pub IsOnce : List ℕ → Type 0
IsOnce places =
    (i j : ℕ) → i < length places → j < length places → slice_index_or places i 0 ≡ slice_index_or places j 0 → i ≡ j

-- the kind of the column at a place
abbrev pub kind_at_place : List Kind → ℕ → Kind
kind_at_place kinds place = slice_index_or kinds place kind.Text

-- ---- rows

-- the content with each row by the columns of these kinds: the value at the column's source, or null
abbrev pub widened : List Kind → Option ℕ → List (Option ℕ) → Content → Content
widened kinds key sources content =
    record { kinds = kinds; key = key; rows = map (row_from sources) content.rows }

-- ---- columns

-- so many nulls
abbrev pub nulls_of : Kind → ℕ → Column
nulls_of kind.Text count = column.Text (replicate count None)
nulls_of kind.Number count = column.Number (replicate count None)
nulls_of kind.Truth count = column.Truth (replicate count None)
nulls_of kind.Day count = column.Day (replicate count None)
nulls_of kind.Moment count = column.Moment (replicate count None)

-- the column at a source, or so many nulls
abbrev pub column_from : List Column → ℕ → Kind → Option ℕ → Column
column_from narrow count k None = nulls_of k count
column_from narrow count k (Some i) = slice_index_or narrow i (nulls_of k count)

-- the columns without the one at a source, for which none is put
abbrev pub left_from : List Column → Kind → Option ℕ → List Column
left_from narrow k None = narrow
left_from narrow k (Some i) = slice_set narrow i (nulls_of k 0)

-- the first columns of these kinds, so many: each from where it stands among the places
abbrev pub wide_from : List Kind → ℕ → List ℕ → List Column → ℕ → List Column
wide_from kinds count places narrow width =
    map (λ j. column_from narrow count (kind_at_place kinds j) (position (λ place. place == j) places)) (range_with_len 0 width)
