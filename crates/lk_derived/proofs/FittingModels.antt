-- The rows of a model's derived tables have the kinds of what their columns take.
use Rattle.std.proofs.Common.{◌≡◌, ℕ, zero, suc, Bool, true, ◌&&◌, List, [], ◌∷◌, map, length, refl, sym, ap, subst, ⊎_elim}
use Rattle.std.specs.Prelude.{slice_index_or}
use Rattle.std.specs.List.{list_all, AllByRecursion}
use Rattle.std.proofs.lemmas.Bool.{false≢true}
use Rattle.lk_types.specs.Tables.{Cells, Rows, is_of_kind, is_cell, are_of_kinds, has_keys, is_valid_table, are_valid_tables}
use Rattle.lk_semantics.specs.Joins.{joined_rows, is_met}
use Rattle.lk_semantics.specs.Rows.{field_at, no_field, passes_all, passing_rows}
use Rattle.lk_semantics.specs.Answers.{measure_at, no_measure}
use Rattle.lk_semantics.specs.Derived.{explore_at, no_explore, derived_query, derived_rows, derived_within, sources_of}
use Rattle.lk_semantics.specs.Rollups.{derived_at}
use Rattle.lk_semantics.specs.Reading.{no_table, pick_kind, derived_kinds, leaves_of}
use Rattle.lk_semantics.specs.Resolved.{IsResolved, IsResolvedExplore, is_typed_explore, has_typed_key, is_typed_join, is_typed_field, is_typed_measure, names_numbers}
use Rattle.lk_semantics.proofs.EveryLaws.{Every, both, first, second, every-filter, every-at}
use Rattle.lk_semantics.proofs.DepthLaws.{lt_or_ge, past_end, row_at}
use Rattle.lk_derived.specs.FittingRows.{fits_cells, fits_rows}
use Rattle.lk_derived.proofs.FittingJoins.{FitsSources, fits_row, joined_rows-fits}
use Rattle.lk_derived.proofs.FittingAnswers.{answer-fits}
use Rattle.lk_types.specs.declared.schema.ColumnDef.{ColumnDef}
use Rattle.lk_types.specs.declared.schema.TableDef.{TableDef}
use Rattle.lk_types.specs.declared.rows.Sources.{Sources}
use Rattle.lk_types.specs.declared.rows.Tables.{Tables}
use Rattle.lk_types.specs.declared.explore.Explore.{Explore}
use Rattle.lk_types.specs.declared.explore.Origin.TheVariants.{Stored, Derived as FromDerived}
use Rattle.lk_types.specs.declared.model.Derived.{Derived}
use Rattle.lk_types.specs.declared.model.Pick.{Pick}
use Rattle.lk_types.specs.declared.model.Model.{Model}

-- ---- stored tables

kinds_of_columns : (columns : List ColumnDef) (cells : Cells) → are_of_kinds columns cells ≡ true → fits_cells (map (λ c. c.kind) columns) cells ≡ true
kinds_of_columns [] [] h = refl
kinds_of_columns [] (v ∷ cells) h = absurd (false≢true h)
kinds_of_columns (c ∷ columns) [] h = absurd (false≢true h)
kinds_of_columns (c ∷ columns) (v ∷ cells) h =
    both (is_of_kind c.kind v) _ (first (is_of_kind c.kind v) (is_cell v) (first (is_of_kind c.kind v && is_cell v) (are_of_kinds columns cells) h))
    (kinds_of_columns columns cells (second (is_of_kind c.kind v && is_cell v) (are_of_kinds columns cells) h))

kinds_of_rows : (columns : List ColumnDef) (rows : Rows) → list_all (are_of_kinds columns) rows ≡ true → fits_rows (map (λ c. c.kind) columns) rows ≡ true
kinds_of_rows columns [] h = refl
kinds_of_rows columns (r ∷ rows) h =
    both (fits_cells (map (λ c. c.kind) columns) r) _ (kinds_of_columns columns r (first (are_of_kinds columns r) _ h)) (kinds_of_rows columns rows (second (are_of_kinds columns r) _ h))

kinds_of_tables : (defs : List TableDef) (tables : List Rows) (t : ℕ) → are_valid_tables defs tables ≡ true → fits_rows (map (λ c. c.kind) (slice_index_or defs t no_table).columns) (slice_index_or tables t []) ≡ true
kinds_of_tables [] [] t h = refl
kinds_of_tables [] (rows ∷ tables) t h = absurd (false≢true h)
kinds_of_tables (d ∷ defs) [] t h = absurd (false≢true h)
kinds_of_tables (d ∷ defs) (rows ∷ tables) zero h = kinds_of_rows d.columns rows (first (list_all (are_of_kinds d.columns) rows) (has_keys d.key rows) (first (is_valid_table d rows) (are_valid_tables defs tables) h))
kinds_of_tables (d ∷ defs) (rows ∷ tables) (suc t) h = kinds_of_tables defs tables t (second (is_valid_table d rows) (are_valid_tables defs tables) h)

-- ---- typed explores

typed_explores : (m : Model) (xs : List Explore) → AllByRecursion (IsResolvedExplore m) xs → Every (is_typed_explore m) xs
typed_explores m [] h = refl
typed_explores m (x ∷ xs) h = both (is_typed_explore m x) (list_all (is_typed_explore m) xs) h.0.typed (typed_explores m xs h.1)

module _ (m : Model) (x : Explore) (typed : is_typed_explore m x ≡ true) where
  abbrev keys_and_joins : Bool
  keys_and_joins = list_all (has_typed_key (leaves_of m x)) x.parts && list_all (is_typed_join (leaves_of m x)) x.joins

  abbrev to_fields : Bool
  to_fields = keys_and_joins && list_all (is_typed_field (leaves_of m x)) x.fields

  to_measures : (to_fields && list_all (is_typed_measure (leaves_of m x)) x.measures) ≡ true
  to_measures = first (to_fields && list_all (is_typed_measure (leaves_of m x)) x.measures) (list_all (names_numbers x) x.measures) (first (to_fields && list_all (is_typed_measure (leaves_of m x)) x.measures && list_all (names_numbers x) x.measures) _ typed)

  measures_typed : (n : ℕ) → is_typed_measure (leaves_of m x) (measure_at x n) ≡ true
  measures_typed n = every-at (is_typed_measure (leaves_of m x)) x.measures n no_measure (second to_fields (list_all (is_typed_measure (leaves_of m x)) x.measures) to_measures) refl

  fields_typed : (f : ℕ) → is_typed_field (leaves_of m x) (field_at x f) ≡ true
  fields_typed f = every-at (is_typed_field (leaves_of m x)) x.fields f no_field (second keys_and_joins (list_all (is_typed_field (leaves_of m x)) x.fields) (first to_fields (list_all (is_typed_measure (leaves_of m x)) x.measures) to_measures)) refl

-- ---- derived tables

picked_kinds : (x : Explore) (columns : List (List ℕ × Pick)) → map (pick_kind x) (map (λ c. c.1) columns) ≡ map (λ c. pick_kind x c.1) columns
picked_kinds x [] = refl
picked_kinds x (c ∷ columns) = ap (λ ks. pick_kind x c.1 ∷ ks) (picked_kinds x columns)

module _ (m : Model) (typed : Every (is_typed_explore m) m.explores) where
  rows-fit : (s : Sources) → FitsSources m s → (d : Derived) → fits_rows (derived_kinds m d) (derived_rows m s d) ≡ true
  rows-fit s fit d =
      let x = explore_at m d.explore in
      let q = derived_query x d in
      let typed_here = every-at (is_typed_explore m) m.explores d.explore no_explore typed refl in
      subst (λ ks. fits_rows ks (derived_rows m s d) ≡ true) (picked_kinds x d.columns)
      (answer-fits (leaves_of m x) x (fields_typed m x typed_here) (measures_typed m x typed_here) (passing_rows x q.rows (joined_rows x s q.joins))
      (every-filter (fits_row (leaves_of m x).kinds) (λ row. is_met x.always_where row && passes_all x q.rows row) (joined_rows x s q.joins) (joined_rows-fits m x s fit q.joins)) q)

  module _ (stored : List Rows) (valid : are_valid_tables m.schema.tables stored ≡ true) where
    abbrev round : ℕ → Sources
    round n = record { stored = stored; derived = derived_within m stored n }

    rounds-fit : (n : ℕ) → FitsSources m (round n)
    rounds-fit n (Stored t) = kinds_of_tables m.schema.tables stored t valid
    rounds-fit zero (FromDerived e) = refl
    rounds-fit (suc n) (FromDerived e) =
        ⊎_elim (λ less. subst (λ rows. fits_rows (derived_kinds m (derived_at m e)) rows ≡ true) (sym (row_at m stored n e less)) (rows-fit (round n) (rounds-fit n) (derived_at m e)))
        (λ past. subst (λ rows. fits_rows (derived_kinds m (derived_at m e)) rows ≡ true) (sym (past_end m stored (suc n) e past)) refl) (lt_or_ge e (length m.derived))

pub derived-fits : (m : Model) (t : Tables) → IsResolved m → are_valid_tables m.schema.tables t.tables ≡ true → (d : ℕ) → fits_rows (derived_kinds m (derived_at m d)) (slice_index_or (sources_of m t).derived d []) ≡ true
derived-fits m t resolved valid d = rounds-fit m (typed_explores m m.explores resolved.explores) t.tables valid (length m.derived) (FromDerived d)
