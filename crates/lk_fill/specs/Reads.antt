-- Which derived tables a query reads, and tables in which those stand that are wanted.
use Rattle.std.specs.Prelude.{◌≡◌, ◌⊎◌, ℕ, true, List, [], flat_map, slice_index_or, Option, None, IfSome}
use Rattle.lk_types.specs.Expressions.{has_number}
use Rattle.lk_types.specs.Tables.{Rows, are_valid_tables}
use Rattle.lk_types.specs.declared.explore.Explore.{Explore}
use Rattle.lk_types.specs.declared.model.Model.{Model}
use Rattle.lk_types.specs.declared.rows.Sources.{Sources}
use Rattle.lk_semantics.specs.Derived.{sources_of}
use Rattle.lk_semantics.specs.Reading.{derived_in}
use Rattle.lk_semantics.specs.Rollups.{origins_of}
use Rattle.lk_derived.specs.ReadRows.{whole}

-- the derived tables of the base view and of the views that some joins bring
abbrev pub tables_read : Explore → List ℕ → List ℕ
tables_read x joins = flat_map derived_in (origins_of x joins)

-- the stored tables are valid, each derived table has its rows or none, and the wanted ones have theirs
pub record HasRowsOf (m : Model) (s : Sources) (wanted : List ℕ) : Type 0 where
  pub valid : are_valid_tables m.schema.tables s.stored ≡ true
  pub derived : (d : ℕ) → (slice_index_or s.derived d [] ≡ []) ⊎ (slice_index_or s.derived d [] ≡ slice_index_or (whole m s).derived d [])
  pub there : (d : ℕ) → has_number d wanted ≡ true → slice_index_or s.derived d [] ≡ slice_index_or (whole m s).derived d []

-- those derived tables whose rows are at hand, by number, have the rows that they have over these stored tables
abbrev pub AreRowsOf : Model → List Rows → List (Option Rows) → Type 0
AreRowsOf m stored at_hand =
    (d : ℕ) → IfSome (slice_index_or at_hand d None) (λ rows. rows ≡ slice_index_or (sources_of m (record { tables = stored })).derived d [])
