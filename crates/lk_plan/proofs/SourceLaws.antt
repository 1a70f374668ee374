-- The rows that a query joins over valid tables: their days are of the years 1 to 9999, and their cells of their columns' kinds.
use Rattle.std.proofs.Common.{◌≡◌, ℕ, zero, suc, Bool, true, ◌&&◌, List, [], ◌∷◌, ◌<◌, length, map, All, refl, arith}
use Rattle.std.specs.Prelude.{slice_index_or}
use Rattle.std.specs.List.{list_all}
use Rattle.std.proofs.lemmas.Bool.{false≢true}
use Rattle.lk_types.specs.Dates.{is_row_dated}
use Rattle.lk_types.specs.Kinds.{HasKinds}
use Rattle.lk_types.specs.Tables.{Cells, Rows, are_of_kinds, are_valid_tables, has_keys, is_cell, is_of_kind, is_valid_table}
use Rattle.lk_types.specs.declared.explore.Explore.{Explore}
use Rattle.lk_types.specs.declared.explore.Origin.TheVariants as origin
use Rattle.lk_types.specs.declared.model.Model.{Model}
use Rattle.lk_types.specs.declared.rows.Joined.{Joined}
use Rattle.lk_types.specs.declared.rows.Tables.{Tables}
use Rattle.lk_types.specs.declared.schema.ColumnDef.{ColumnDef}
use Rattle.lk_types.specs.declared.schema.TableDef.{TableDef}
use Rattle.lk_semantics.specs.Derived.{sources_of}
use Rattle.lk_semantics.specs.Joins.{joined_rows}
use Rattle.lk_semantics.specs.Reading.{leaves_of, no_table}
use Rattle.lk_semantics.specs.Resolved.{IsResolved}
use Rattle.lk_semantics.proofs.DatedLaws.{joined_rows-dated}
use Rattle.lk_derived.specs.FittingRows.{fits_cells, fits_rows}
use Rattle.lk_derived.proofs.DatedModels.{implied}
use Rattle.lk_derived.proofs.FittingJoins.{FitsSources, fits_row, has_kinds, joined_rows-fits}
use Rattle.lk_derived.proofs.FittingModels.{derived-fits}
use Rattle.lk_derived.proofs.ReadRows.{whole-dated}
use Rattle.lk_plan.proofs.JoiningLaws.{left, right, both}

-- ---- cells, rows and tables

cells_fit : (columns : List ColumnDef) (cells : Cells) → are_of_kinds columns cells ≡ true → fits_cells (map (λ c. c.kind) columns) cells ≡ true
cells_fit [] [] h = refl
cells_fit [] (v ∷ cells) h = absurd (false≢true h)
cells_fit (c ∷ columns) [] h = absurd (false≢true h)
cells_fit (c ∷ columns) (v ∷ cells) h =
    let front = left (is_of_kind c.kind v && is_cell v) (are_of_kinds columns cells) h in
    both (is_of_kind c.kind v) (fits_cells (map (λ d. d.kind) columns) cells) (left (is_of_kind c.kind v) (is_cell v) front)
    (cells_fit columns cells (right (is_of_kind c.kind v && is_cell v) (are_of_kinds columns cells) h))

at_place : {A : Type 0} (t : A → Bool) (xs : List A) (k : ℕ) (d : A) → list_all t xs ≡ true → k < length xs → t (slice_index_or xs k d) ≡ true
at_place t [] k d h less = absurd (omega arith)
at_place t (x ∷ xs) zero d h less = left (t x) (list_all t xs) h
at_place t (x ∷ xs) (suc k) d h less = at_place t xs k d (right (t x) (list_all t xs) h) (omega arith)

rows_of : (d : TableDef) (rows : Rows) → is_valid_table d rows ≡ true → list_all (are_of_kinds d.columns) rows ≡ true
rows_of d rows h = left (list_all (are_of_kinds d.columns) rows) (has_keys d.key rows) h

tables_fit : (defs : List TableDef) (tables : List Rows) (t : ℕ) → are_valid_tables defs tables ≡ true → fits_rows (map (λ c. c.kind) (slice_index_or defs t no_table).columns) (slice_index_or tables t []) ≡ true
tables_fit [] [] t h = refl
tables_fit [] (rows ∷ tables) t h = absurd (false≢true h)
tables_fit (d ∷ defs) [] t h = absurd (false≢true h)
tables_fit (d ∷ defs) (rows ∷ tables) zero h =
    implied (are_of_kinds d.columns) (fits_cells (map (λ c. c.kind) d.columns)) (cells_fit d.columns) rows (rows_of d rows (left (is_valid_table d rows) (are_valid_tables defs tables) h))
tables_fit (d ∷ defs) (rows ∷ tables) (suc t) h = tables_fit defs tables t (right (is_valid_table d rows) (are_valid_tables defs tables) h)

-- ---- joined rows

module _ (m : Model) (t : Tables) (resolved : IsResolved m) (valid : are_valid_tables m.schema.tables t.tables ≡ true) where
  sources_fit : FitsSources m (sources_of m t)
  sources_fit (origin.Stored n) = tables_fit m.schema.tables t.tables n valid
  sources_fit (origin.Derived d) = derived-fits m t resolved valid d

  -- what is true of each row with dates of the years and cells of their kinds is true of each joined row
  pub each_row : (x : Explore) (joins : List ℕ) (Holds : Joined → Type 0) → ((row : Joined) → HasKinds (leaves_of m x) row → is_row_dated row ≡ true → Holds row) → All Holds (joined_rows x (sources_of m t) joins)
  each_row x joins Holds step =
      let rows = joined_rows x (sources_of m t) joins in
      λ k d less. step (slice_index_or rows k d)
      (has_kinds (leaves_of m x) (slice_index_or rows k d) (at_place (fits_row (leaves_of m x).kinds) rows k d (joined_rows-fits m x (sources_of m t) sources_fit joins) less))
      (at_place is_row_dated rows k d (joined_rows-dated x (sources_of m t) (whole-dated m t resolved valid) joins) less)
