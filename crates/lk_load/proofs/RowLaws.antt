-- The rows that a text of comma-separated fields holds have a cell for each column, of its kind.
use Rattle.std.proofs.Common.{◌≡◌, ◌<◌, ◌+◌, ◌∷◌, ◌==◌, ◌&&◌, [], ℕ, zero, suc, Bool, true, false, List, Option, Some, None, length, map, refl, ap, arith, ◌∙◌, get_or, if◌then◌else◌}
use Rattle.std.specs.List.{list_all, position, range_with_len}
use Rattle.std.specs.Prelude.{Result, Ok, Err}
use Rattle.std.proofs.lemmas.Bool.{eqb-true}
use Rattle.std.proofs.lemmas.List.{get_or-map, length-map}
use Rattle.std.proofs.lemmas.List.FromFn.{get_or-map-range_with_len, length-range_with_len}
use Rattle.std.proofs.lemmas.List.Quantifiers.{position-Some}
use Rattle.lk_val.proofs.FractionSteps.{both, together}
use Rattle.lk_val.specs.declared.value.Value.{Value}
use Rattle.lk_val.specs.declared.value.Value.TheVariants as value
use Rattle.lk_types.specs.Tables.{Cells, Rows, are_of_kinds, is_cell, is_of_kind}
use Rattle.lk_types.specs.declared.schema.ColumnDef.{ColumnDef}
use Rattle.lk_cell.specs.CellValues.{cell_value}
use Rattle.lk_table.specs.Contents.{cell_at}
use Rattle.lk_table.specs.Batches.{Fields, and_then, column_at, in_front, no_column, or_wrong, record_values, row_from, rows_behind, rows_from, sources_of, value_from, value_then, values_of}
use Rattle.lk_table.specs.declared.fault.BatchFault.{BatchFault}
use Rattle.lk_load.proofs.CellLaws.{cell_fits, null_fits}

abbrev fits : ColumnDef → Value → Bool
fits column v = is_of_kind column.kind v && is_cell v

-- ---- a row, cell by cell

pub row_long : (columns : List ColumnDef) (row : Cells) → are_of_kinds columns row ≡ true → length row ≡ length columns
row_long [] [] fit = refl
row_long [] (v ∷ row) fit = cc fit
row_long (column ∷ columns) [] fit = cc fit
row_long (column ∷ columns) (v ∷ row) fit = ap suc (row_long columns row (both (fits column v) (are_of_kinds columns row) fit).1)

fits_at : (columns : List ColumnDef) (row : Cells) (i : ℕ) → are_of_kinds columns row ≡ true → i < length columns
    → fits (column_at columns i) (cell_at row i) ≡ true
fits_at [] row i fit below = absurd (omega (arith, below))
fits_at (column ∷ columns) [] i fit below = cc
fits_at (column ∷ columns) (v ∷ row) zero fit below = (both (fits column v) (are_of_kinds columns row) fit).0
fits_at (column ∷ columns) (v ∷ row) (suc i) fit below =
    fits_at columns row i (both (fits column v) (are_of_kinds columns row) fit).1 (omega (arith, below))

fit_from_each : (columns : List ColumnDef) (row : Cells) → length row ≡ length columns
    → ((i : ℕ) → i < length columns → fits (column_at columns i) (cell_at row i) ≡ true) → are_of_kinds columns row ≡ true
fit_from_each [] [] long each = refl
fit_from_each [] (v ∷ row) long each = absurd (omega (arith, long))
fit_from_each (column ∷ columns) [] long each = absurd (omega (arith, long))
fit_from_each (column ∷ columns) (v ∷ row) long each =
    together (each 0 (omega arith)) (fit_from_each columns row (omega (arith, long)) (λ i below. each (suc i) (omega (arith, below))))

-- ---- a record

abbrev Fit : List ColumnDef → Result Cells (List ℕ) → Type 0
Fit named (Err name) = Unit {0}
Fit named (Ok values) = are_of_kinds named values ≡ true

fit_then : (column : ColumnDef) (named : List ColumnDef) (o : Option Value) (rest : Result Cells (List ℕ))
    → ((v : Value) → o ≡ Some v → fits column v ≡ true) → Fit named rest → Fit (column ∷ named) (value_then column.name o rest)
fit_then column named None rest each fit = tt
fit_then column named (Some v) (Err name) each fit = tt
fit_then column named (Some v) (Ok values) each fit = together (each v refl) fit

values_fit : (named : List ColumnDef) (fields : Fields) → length fields ≡ length named → Fit named (values_of named fields)
values_fit [] [] long = refl
values_fit [] (field ∷ fields) long = absurd (omega (arith, long))
values_fit (column ∷ named) [] long = absurd (omega (arith, long))
values_fit (column ∷ named) (field ∷ fields) long =
    fit_then column named (cell_value column.kind field) (values_of named fields) (λ v e. cell_fits column.kind field v e)
    (values_fit named fields (omega (arith, long)))

record_fit_by : (named : List ColumnDef) (fields : Fields) (b : Bool) → (length fields == length named) ≡ b
    → Fit named (if b then values_of named fields else (Err []))
record_fit_by named fields true e = values_fit named fields (eqb-true (length fields) (length named) e)
record_fit_by named fields false e = tt

record_fit : (named : List ColumnDef) (fields : Fields) (values : Cells) → record_values named fields ≡ Ok values
    → are_of_kinds named values ≡ true
record_fit named fields values e = rw e at (record_fit_by named fields (length fields == length named) refl)

-- ---- the rows

module _ (columns : List ColumnDef) (places : List ℕ) where
  abbrev the_source : ℕ → Option ℕ
  the_source column = position (λ place. place == column) places

  source_fits : (values : Cells) (i : ℕ) (o : Option ℕ) → are_of_kinds (map (column_at columns) places) values ≡ true → the_source i ≡ o
      → fits (column_at columns i) (value_from values o) ≡ true
  source_fits values i None fit is = null_fits (column_at columns i).kind
  source_fits values i (Some j) fit is =
      let found = position-Some (λ place. place == i) places j 0 is in
      let same = eqb-true (get_or places j 0) i found.1 in
      let there = get_or-map (column_at columns) places j 0 no_column found.0 in
      let one = fits_at (map (column_at columns) places) values j fit (omega (arith, found.0, length-map places (column_at columns))) in
      rw (there, same) at one

  row_fits : (values : Cells) → are_of_kinds (map (column_at columns) places) values ≡ true
      → are_of_kinds columns (row_from (sources_of (length columns) places) values) ≡ true
  row_fits values fit =
      fit_from_each columns (row_from (sources_of (length columns) places) values)
      (length-map (sources_of (length columns) places) (value_from values) ∙ length-map (range_with_len 0 (length columns)) the_source ∙ length-range_with_len 0 (length columns))
      (λ i below.
      let source = get_or-map-range_with_len the_source 0 (length columns) i i None below (omega arith) in
      let cell = get_or-map (value_from values) (sources_of (length columns) places) i None value.Null
      (omega (arith, below, length-map (range_with_len 0 (length columns)) the_source, length-range_with_len 0 (length columns))) in
      rw (cell, source) (source_fits values i (the_source i) fit refl))

  rows_then : (row : Cells) (rest : Result Rows BatchFault) (rows : Rows) → are_of_kinds columns row ≡ true
      → ((others : Rows) → rest ≡ Ok others → list_all (are_of_kinds columns) others ≡ true) → in_front (row ∷ []) rest ≡ Ok rows
      → list_all (are_of_kinds columns) rows ≡ true
  rows_then row (Err fault) rows fit behind e = cc e
  rows_then row (Ok others) rows fit behind e = let same : row ∷ others ≡ rows = cc in rw (← same) (together fit (behind others refl))

  record_then : (number : ℕ) (r : Result Cells (List ℕ)) (rest : Result Rows BatchFault) (rows : Rows)
      → ((values : Cells) → r ≡ Ok values → are_of_kinds (map (column_at columns) places) values ≡ true)
      → ((others : Rows) → rest ≡ Ok others → list_all (are_of_kinds columns) others ≡ true)
      → and_then (or_wrong number r) (λ values. in_front (row_from (sources_of (length columns) places) values ∷ []) rest) ≡ Ok rows
      → list_all (are_of_kinds columns) rows ≡ true
  record_then number (Err name) rest rows fit behind e = cc e
  record_then number (Ok values) rest rows fit behind e =
      rows_then (row_from (sources_of (length columns) places) values) rest rows (row_fits values (fit values refl)) behind e

  rows_fit : (number : ℕ) (records : List Fields) (rows : Rows)
      → rows_from (map (column_at columns) places) (sources_of (length columns) places) number records ≡ Ok rows
      → list_all (are_of_kinds columns) rows ≡ true
  rows_fit number [] rows e = let same : [] ≡ rows = cc in rw (← same) refl
  rows_fit number (fields ∷ records) rows e =
      record_then number (record_values (map (column_at columns) places) fields)
      (rows_from (map (column_at columns) places) (sources_of (length columns) places) (number + 1) records) rows
      (λ values f. record_fit (map (column_at columns) places) fields values f)
      (λ others f. rows_fit (number + 1) records others f) e

  pub rows_behind-fit : (records : List Fields) (rows : Rows) → rows_behind columns records places ≡ Ok rows
      → list_all (are_of_kinds columns) rows ≡ true
  rows_behind-fit records rows e = rows_fit 1 records rows e
