-- What is kept of the builds of datagroups.
use Rattle.std.specs.Prelude.{◌≡◌, ℕ, Bool, true, false, if◌then◌else◌, List, [], ◌∷◌, map, length, slice_index_or, Option, None, Some}
use Rattle.std.specs.List.{enumerate_from, list_any}
use Rattle.lk_types.specs.Expressions.{has_number}
use Rattle.lk_types.specs.Tables.{Rows, are_valid_tables}
use Rattle.lk_types.specs.declared.explore.Explore.{Explore}
use Rattle.lk_types.specs.declared.explore.Rollup.{Rollup}
use Rattle.lk_types.specs.declared.model.Derived.{Derived}
use Rattle.lk_types.specs.declared.model.Model.{Model}
use Rattle.lk_types.specs.declared.rows.Sources.{Sources}
use Rattle.lk_semantics.specs.Derived.{sources_of}
use Rattle.lk_semantics.specs.Joins.{numbers_below}
use Rattle.lk_semantics.specs.Rollups.{partials_of}
use Rattle.lk_regroup_laws.specs.Regroup.{RollupRow}

-- the stored tables of the builds, by datagroup; the rows of the aggregate tables, by explore and number; and those of the persisted derived tables, by number
pub record Keeps : Type 0 where
  pub tables : List (List Rows)
  pub rollups : List (List (List RollupRow))
  pub derived : List Rows

-- one of some datagroups, if there is one
abbrev pub is_of : List ℕ → Option ℕ → Bool
is_of groups None = false
is_of groups (Some g) = has_number g groups

-- some derived table is persisted by the datagroup
abbrev pub persists : Model → ℕ → Bool
persists m g = list_any (λ (d : Derived). is_of (g ∷ []) d.datagroup) m.derived

-- all tables over stored ones
abbrev pub sources_over : Model → List Rows → Sources
sources_over m stored = sources_of m (record { tables = stored })

-- the rows of a derived table over the tables of its build; none of one that is computed for each query
abbrev pub persisted_rows : Model → (ℕ → List Rows) → ℕ → Option ℕ → Rows
persisted_rows m built d None = []
persisted_rows m built d (Some g) = slice_index_or (sources_over m (built g)).derived d []

-- what is kept where each datagroup was built over these stored tables: these themselves, where the datagroup persists a derived table, and the rows that they give
abbrev pub keeps_of : Model → (ℕ → List Rows) → Keeps
keeps_of m built = record {
  tables = map (λ g. if persists m g then built g else []) (numbers_below (length m.datagroups));
  rollups = map (λ (x : Explore). map (λ (r : Rollup). partials_of x (sources_over m (built r.datagroup)) r) x.rollups) m.explores;
  derived = map (λ (d : ℕ × Derived). persisted_rows m built d.0 d.1.datagroup) (enumerate_from 0 m.derived);
}

-- what is kept is that of builds over some valid tables, for each datagroup
pub record AreKept (m : Model) (keeps : Keeps) : Type 0 where
  pub built : ℕ → List Rows
  pub valid : (g : ℕ) → are_valid_tables m.schema.tables (built g) ≡ true
  pub is : keeps ≡ keeps_of m built

-- nothing is kept
abbrev pub no_keeps : Keeps
no_keeps = record { tables = []; rollups = []; derived = [] }
