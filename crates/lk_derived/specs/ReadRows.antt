-- Tables that have the rows which a query reads.
use Rattle.std.specs.Prelude.{◌≡◌, ◌+◌, ◌⊎◌, ℕ, true, List, [], slice_index_or}
use Rattle.lk_types.specs.Expressions.{has_number}
use Rattle.lk_types.specs.Tables.{are_valid_tables}
use Rattle.lk_types.specs.declared.bound.Bound.{Bound}
use Rattle.lk_types.specs.declared.explore.Explore.{Explore}
use Rattle.lk_types.specs.declared.model.Model.{Model}
use Rattle.lk_types.specs.declared.rows.Sources.{Sources}
use Rattle.lk_semantics.specs.Derived.{explore_at, sources_of}
use Rattle.lk_semantics.specs.Joins.{part_at, rows_from}

-- two sets of tables have the same rows of an explore's base view, and of each view that some joins bring
pub record ReadAlike (x : Explore) (joins : List ℕ) (s t : Sources) : Type 0 where
  pub base : rows_from s (part_at x 0).origin ≡ rows_from t (part_at x 0).origin
  pub joined : (j : ℕ) → has_number j joins ≡ true → rows_from s (part_at x (j + 1)).origin ≡ rows_from t (part_at x (j + 1)).origin

-- the same stored tables with the rows of all derived ones
abbrev pub whole : Model → Sources → Sources
whole m s = sources_of m (record { tables = s.stored })

-- the stored tables are valid, each derived table has its rows or none, and those that the query reads have theirs
pub record HasRowsFor (m : Model) (s : Sources) (b : Bound) : Type 0 where
  pub valid : are_valid_tables m.schema.tables s.stored ≡ true
  pub derived : (d : ℕ) → (slice_index_or s.derived d [] ≡ []) ⊎ (slice_index_or s.derived d [] ≡ slice_index_or (whole m s).derived d [])
  pub read : ReadAlike (explore_at m b.explore) b.joins s (whole m s)
