-- Valid tables, and those that have the rows which a query reads: their days and moments are of the years 1 to 9999, and the query joins the rows of the whole.
use Rattle.std.proofs.Common.{◌≡◌, ℕ, zero, suc, Bool, true, ◌&&◌, List, [], ◌∷◌, refl, ap, ◌∙◌, inr, ⊎_elim}
use Rattle.std.specs.Prelude.{slice_index_or}
use Rattle.std.specs.List.{list_all}
use Rattle.std.proofs.lemmas.Bool.{false≢true}
use Rattle.lk_val.specs.declared.value.Value.{Value}
use Rattle.lk_val.specs.declared.value.Value.TheVariants as value
use Rattle.lk_types.specs.Dates.{is_dated}
use Rattle.lk_types.specs.Tables.{Cells, Rows, are_of_kinds, are_valid_tables, has_keys, is_cell, is_of_kind, is_valid_table}
use Rattle.lk_types.specs.declared.bound.Bound.{Bound}
use Rattle.lk_types.specs.declared.model.Model.{Model}
use Rattle.lk_types.specs.declared.rows.Sources.{Sources}
use Rattle.lk_types.specs.declared.rows.Tables.{Tables}
use Rattle.lk_types.specs.declared.schema.ColumnDef.{ColumnDef}
use Rattle.lk_types.specs.declared.schema.TableDef.{TableDef}
use Rattle.lk_semantics.specs.DatedRows.{are_rows_dated, are_sources_dated}
use Rattle.lk_semantics.specs.Derived.{explore_at, sources_of}
use Rattle.lk_semantics.specs.Joins.{joined_rows}
use Rattle.lk_semantics.specs.Resolved.{IsResolved}
use Rattle.lk_semantics.proofs.DepthLaws.{joined_rows_agree}
use Rattle.lk_semantics.proofs.EveryLaws.{both, every-at, first, second}
use Rattle.lk_derived.specs.ReadRows.{HasRowsFor, whole}
use Rattle.lk_derived.proofs.DatedModels.{implied, resolved-dated, sources-dated}

-- ---- valid tables

cell_dated : (v : Value) → is_cell v ≡ true → is_dated v ≡ true
cell_dated value.Null h = refl
cell_dated (value.Text t) h = refl
cell_dated (value.Num n) h = refl
cell_dated (value.Truth b) h = refl
cell_dated (value.Day d) h = h
cell_dated (value.Moment m) h = h

cells_dated : (columns : List ColumnDef) (cells : Cells) → are_of_kinds columns cells ≡ true → list_all is_dated cells ≡ true
cells_dated [] [] h = refl
cells_dated [] (v ∷ cells) h = absurd (false≢true h)
cells_dated (c ∷ columns) [] h = absurd (false≢true h)
cells_dated (c ∷ columns) (v ∷ cells) h =
    let front = first (is_of_kind c.kind v && is_cell v) (are_of_kinds columns cells) h in
    both (is_dated v) (list_all is_dated cells) (cell_dated v (second (is_of_kind c.kind v) (is_cell v) front))
    (cells_dated columns cells (second (is_of_kind c.kind v && is_cell v) (are_of_kinds columns cells) h))

pub tables_dated : (defs : List TableDef) (tables : List Rows) → are_valid_tables defs tables ≡ true → list_all are_rows_dated tables ≡ true
tables_dated [] [] h = refl
tables_dated [] (rows ∷ tables) h = absurd (false≢true h)
tables_dated (d ∷ defs) [] h = absurd (false≢true h)
tables_dated (d ∷ defs) (rows ∷ tables) h =
    both (are_rows_dated rows) (list_all are_rows_dated tables)
    (implied (are_of_kinds d.columns) (list_all is_dated) (cells_dated d.columns) rows
    (first (list_all (are_of_kinds d.columns) rows) (has_keys d.key rows) (first (is_valid_table d rows) (are_valid_tables defs tables) h)))
    (tables_dated defs tables (second (is_valid_table d rows) (are_valid_tables defs tables) h))

pub whole-dated : (m : Model) (t : Tables) → IsResolved m → are_valid_tables m.schema.tables t.tables ≡ true → are_sources_dated (sources_of m t) ≡ true
whole-dated m t resolved valid = sources-dated m (resolved-dated m resolved) t.tables (tables_dated m.schema.tables t.tables valid)

-- ---- tables for a query

-- what passes at each place passes everywhere
every_place : {A : Type 0} (t : A → Bool) (d : A) (xs : List A) → ((n : ℕ) → t (slice_index_or xs n d) ≡ true) → list_all t xs ≡ true
every_place t d [] h = refl
every_place t d (x ∷ xs) h = both (t x) (list_all t xs) (h zero) (every_place t d xs (λ n. h (suc n)))

module _ (m : Model) (s : Sources) (b : Bound) (h : HasRowsFor m s b) where
  pub rows_dated : IsResolved m → are_sources_dated s ≡ true
  rows_dated resolved =
      let all = second (list_all are_rows_dated s.stored) (list_all are_rows_dated (whole m s).derived) (whole-dated m (record { tables = s.stored }) resolved h.valid) in
      both (list_all are_rows_dated s.stored) (list_all are_rows_dated s.derived) (tables_dated m.schema.tables s.stored h.valid)
      (every_place are_rows_dated [] s.derived (λ d.
      ⊎_elim (λ none. ap are_rows_dated none) (λ same. ap are_rows_dated same ∙ every-at are_rows_dated (whole m s).derived d [] all refl) (h.derived d)))

  pub joined_whole : joined_rows (explore_at m b.explore) s b.joins ≡ joined_rows (explore_at m b.explore) (whole m s) b.joins
  joined_whole = joined_rows_agree (explore_at m b.explore) b.joins s (whole m s) (record { base = h.read.base; joined = h.read.joined })

-- all tables together have the rows for each query
pub whole_has_rows : (m : Model) (t : Tables) (b : Bound) → are_valid_tables m.schema.tables t.tables ≡ true → HasRowsFor m (sources_of m t) b
whole_has_rows m t b valid = record { valid = valid; derived = λ d. inr refl; read = record { base = refl; joined = λ j taken. refl } }
