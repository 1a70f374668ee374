-- A block gets a row more, column by column.
use Rattle.std.proofs.Common.{◌≡◌, ◌<◌, ◌≤◌, ◌+◌, ◌++◌, ◌∷◌, [], ℕ, zero, suc, Bool, true, List, length, take, refl, sym, ap, ap₂, arith, ◌∙◌, get_or}
use Rattle.std.specs.List.{All, sum_by}
use Rattle.std.specs.Prelude.{map, slice_index_or, slice_set, Option, Some, None, ℤ}
use Rattle.std.proofs.lemmas.List.{get_or_past, get_or-map, length-map, map-set, set-get_or}
use Rattle.std.proofs.lemmas.List.Elements.{All-set}
use Rattle.std.proofs.lemmas.List.FromFn.{get_or-map-range_with_len}
use Rattle.lk_val.specs.declared.value.Value.{Value}
use Rattle.lk_val.specs.declared.value.Value.TheVariants as value
use Rattle.lk_types.specs.Tables.{Cells, is_of_kind}
use Rattle.lk_types.specs.declared.schema.Kind.{Kind}
use Rattle.lk_region.specs.Regions.{KeepsTexts}
use Rattle.lk_types.specs.declared.schema.Kind.TheVariants as kind
use Rattle.lk_region.specs.declared.mark.Mark.{Mark}
use Rattle.lk_table.specs.declared.column.Column.{Column}
use Rattle.lk_table.specs.declared.column.Column.TheVariants as column
use Rattle.lk_table.specs.Contents.{cell_at, row_at, text_bytes, text_length}
use Rattle.lk_table.specs.Columns.{AreText, IsHeld, IsMarked, are_of_kinds, day_value, kind_in, moment_value, number_value, pushed, rows_in, text_value, truth_value, values_in}
use Rattle.lk_table.proofs.ColumnLaws.{columns_kept, marked_kept}
use Rattle.lk_table.proofs.RowLaws.{bytes_of_more, cell_in_rows, even_pushed, kind_at, pushed_step, rows_pushed}

-- ---- one column

module _ (first columns : List Column) (values : Cells) (i : ℕ) (column : Column)
    (kinds : map kind_in columns ≡ map kind_in first) (is : column ≡ get_or columns i column)
    (in_columns : i < length columns) where
  pub kind_there : (v : Value) → are_of_kinds (map kind_in first) values ≡ true
      → is_of_kind (kind_in (slice_index_or columns i column)) (slice_index_or values i v) ≡ true
  kind_there v are =
      rw (get_or-map kind_in columns i column (kind_in column) in_columns)
      at (kind_at (map kind_in columns) values i (kind_in column) v (rw kinds are)
      (omega (arith, in_columns, length-map columns kind_in)))

  -- the columns after a cell is added to one of them
  module _ (before old new : List (List ℕ)) (after : Column) (v : Value) (kept : KeepsTexts old new)
      (marked : All (IsMarked (length old)) columns) (marked_after : IsMarked (length new) after)
      (kind_after : kind_in after ≡ kind_in column) (values_after : values_in new after ≡ values_in old column ++ v ∷ [])
      (v_is : v ≡ slice_index_or values i value.Null) (in_values : i < length values)
      (long : length columns ≡ length first)
      (so_far : map (values_in old) columns ≡ pushed (take i values) (map (values_in before) first)) where
    cells_there : slice_index_or (pushed (take i values) (map (values_in before) first)) i [] ≡ values_in old column
    cells_there =
        ap (λ (cells : List Cells). slice_index_or cells i []) (sym so_far)
        ∙ get_or-map (values_in old) columns i column [] in_columns
        ∙ ap (values_in old) (sym is)

    pub values_step : map (values_in new) (slice_set columns i after) ≡ pushed (take (i + 1) values) (map (values_in before) first)
    values_step =
        map-set (values_in new) columns i after
        ∙ ap₂ (λ (cells : List Cells) (one : Cells). slice_set cells i one) (columns_kept old new kept columns marked ∙ so_far)
        (values_after ∙ ap₂ (λ (cells : Cells) (w : Value). cells ++ w ∷ []) (sym cells_there) v_is)
        ∙ pushed_step i values (map (values_in before) first) in_values
        (omega (arith, in_columns, long, length-map first (values_in before)))

    pub kinds_step : map kind_in (slice_set columns i after) ≡ map kind_in first
    kinds_step =
        map-set kind_in columns i after
        ∙ ap (λ k. slice_set (map kind_in columns) i k)
        (kind_after ∙ ap kind_in is ∙ sym (get_or-map kind_in columns i column (kind_in column) in_columns))
        ∙ set-get_or (map kind_in columns) i (kind_in column)
        ∙ kinds

    pub marked_step : All (IsMarked (length new)) (slice_set columns i after)
    marked_step =
        All-set (IsMarked (length new)) columns i after marked_after
        (λ k d below. marked_kept old new kept (get_or columns k d) (marked k d below))

-- ---- a row

module _ (old new : List (List ℕ)) (columns after : List Column) (count text more bytes : ℕ) (values : Cells)
    (held : IsHeld old columns count text) (long : length values ≡ length columns)
    (more_is : more ≡ count + 1) (bytes_is : bytes ≡ text + sum_by text_length values)
    (values_after : map (values_in new) after ≡ pushed values (map (values_in old) columns)) where
  long_cells : length values ≡ length (map (values_in old) columns)
  long_cells = long ∙ sym (length-map columns (values_in old))

  pub rows_more : rows_in more (map (values_in new) after) ≡ rows_in count (map (values_in old) columns) ++ values ∷ []
  rows_more =
      ap₂ rows_in more_is values_after ∙ rows_pushed count values (map (values_in old) columns) held.even long_cells

  pub held_more : All (IsMarked (length new)) after → AreText new → IsHeld new after more bytes
  held_more marked utf8 = record {
    even = rw (more_is, values_after) (even_pushed count values (map (values_in old) columns) held.even long_cells);
    marked = marked;
    utf8 = utf8;
    counted =
        bytes_is ∙ ap (λ n. n + sum_by text_length values) held.counted
        ∙ sym (bytes_of_more (rows_in count (map (values_in old) columns)) values)
        ∙ ap text_bytes (sym rows_more);
  }

-- ---- a cell

module _ (texts : List (List ℕ)) (columns : List Column) (count i : ℕ) (column : Column)
    (in_columns : i < length columns) (is : column ≡ get_or columns i column) where
  pub length_there : All (λ cells. length cells ≡ count) (map (values_in texts) columns) → length (values_in texts column) ≡ count
  length_there even =
      ap (λ (c : Column). length (values_in texts c)) is
      ∙ ap (λ (cells : Cells). length cells) (sym (get_or-map (values_in texts) columns i column [] in_columns))
      ∙ even i [] (omega (arith, in_columns, length-map columns (values_in texts)))

  pub cell_there : (row : ℕ) → row < count
      → cell_at (values_in texts column) row ≡ cell_at (row_at (rows_in count (map (values_in texts) columns)) row) i
  cell_there row below =
      ap (λ (c : Column). cell_at (values_in texts c) row) is
      ∙ ap (λ (cells : Cells). cell_at cells row) (sym (get_or-map (values_in texts) columns i column [] in_columns))
      ∙ sym (cell_in_rows count row i (map (values_in texts) columns) below (omega (arith, in_columns, length-map columns (values_in texts))))

-- ---- no rows

pub nothing_held : (texts : List (List ℕ)) (columns : List Column) → texts ≡ [] → All (λ c. values_in [] c ≡ []) columns → All (IsMarked 0) columns
    → IsHeld texts columns 0 0
unfolding text_bytes
nothing_held texts columns none empty marked = rw none record {
  even = λ k d below. ap (λ (cells : Cells). length cells) (first_empty k d columns empty below);
  marked = marked;
  utf8 = λ k d below. absurd (omega (arith, below));
  counted = refl;
}
  where
    first_empty : (k : ℕ) (d : Cells) (columns : List Column) → All (λ c. values_in [] c ≡ []) columns → k < length (map (values_in []) columns)
        → get_or (map (values_in []) columns) k d ≡ []
    first_empty k d [] empty below = absurd (omega (arith, below))
    first_empty zero d (c ∷ columns) empty below = empty 0 c (omega arith)
    first_empty (suc k) d (c ∷ columns) empty below =
        first_empty k d columns (λ j e within. empty (suc j) e (omega (arith, within))) (omega (arith, below))

-- there is no cell past the last column
pub no_cell : (texts : List (List ℕ)) (columns : List Column) (count row column : ℕ) → row < count → length columns ≤ column
    → cell_at (row_at (rows_in count (map (values_in texts) columns)) row) column ≡ value.Null
no_cell texts columns count row column below outside =
    let cells = map (values_in texts) columns in
    ap (λ (cells : Cells). cell_at cells column)
    (get_or-map-range_with_len (λ r. map (λ cells. cell_at cells r) cells) 0 count row row [] below (omega arith))
    ∙ get_or_past (map (λ cells. cell_at cells row) cells) column value.Null
    (omega (arith, outside, length-map cells (λ c. cell_at c row), length-map columns (values_in texts)))

-- ---- the kinds of a row

null_of_kind : (k : Kind) → is_of_kind k value.Null ≡ true
null_of_kind kind.Text = refl
null_of_kind kind.Number = refl
null_of_kind kind.Truth = refl
null_of_kind kind.Day = refl
null_of_kind kind.Moment = refl

mapped_of_kind : {X : Type 0} (k : Kind) (f : X → Value) (cells : List X) (row : ℕ) → ((x : X) → is_of_kind k (f x) ≡ true)
    → is_of_kind k (cell_at (map f cells) row) ≡ true
mapped_of_kind k f [] row each = null_of_kind k
mapped_of_kind k f (x ∷ cells) zero each = each x
mapped_of_kind k f (x ∷ cells) (suc row) each = mapped_of_kind k f cells row each

text_of_kind : (texts : List (List ℕ)) (cell : Option Mark) → is_of_kind kind.Text (text_value texts cell) ≡ true
text_of_kind texts None = refl
text_of_kind texts (Some mark) = refl

number_of_kind : (cell : Option ℤ) → is_of_kind kind.Number (number_value cell) ≡ true
number_of_kind None = refl
number_of_kind (Some n) = refl

truth_of_kind : (cell : Option Bool) → is_of_kind kind.Truth (truth_value cell) ≡ true
truth_of_kind None = refl
truth_of_kind (Some b) = refl

day_of_kind : (cell : Option ℤ) → is_of_kind kind.Day (day_value cell) ≡ true
day_of_kind None = refl
day_of_kind (Some d) = refl

moment_of_kind : (cell : Option ℤ) → is_of_kind kind.Moment (moment_value cell) ≡ true
moment_of_kind None = refl
moment_of_kind (Some m) = refl

column_of_kind : (texts : List (List ℕ)) (c : Column) (row : ℕ) → is_of_kind (kind_in c) (cell_at (values_in texts c) row) ≡ true
column_of_kind texts (column.Text cells) row = mapped_of_kind kind.Text (text_value texts) cells row (text_of_kind texts)
column_of_kind texts (column.Number cells) row = mapped_of_kind kind.Number number_value cells row number_of_kind
column_of_kind texts (column.Truth cells) row = mapped_of_kind kind.Truth truth_value cells row truth_of_kind
column_of_kind texts (column.Day cells) row = mapped_of_kind kind.Day day_value cells row day_of_kind
column_of_kind texts (column.Moment cells) row = mapped_of_kind kind.Moment moment_value cells row moment_of_kind

pub row_of_kinds : (texts : List (List ℕ)) (columns : List Column) (row : ℕ)
    → are_of_kinds (map kind_in columns) (map (λ cells. cell_at cells row) (map (values_in texts) columns)) ≡ true
row_of_kinds texts [] row = refl
row_of_kinds texts (c ∷ columns) row =
    rw (column_of_kind texts c row) (row_of_kinds texts columns row)

pub row_there : (texts : List (List ℕ)) (columns : List Column) (count row : ℕ) → row < count
    → row_at (rows_in count (map (values_in texts) columns)) row ≡ map (λ cells. cell_at cells row) (map (values_in texts) columns)
row_there texts columns count row below =
    get_or-map-range_with_len (λ r. map (λ cells. cell_at cells r) (map (values_in texts) columns)) 0 count row row [] below (omega arith)
