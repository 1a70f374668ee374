-- The rows that are at hand for a query over the tables of a datagroup's build.
use Rattle.std.specs.Prelude.{ℕ, if◌then◌else◌, List, [], ◌∷◌, map, slice_index_or, Option, None, Some}
use Rattle.std.specs.List.{enumerate_from}
use Rattle.lk_types.specs.Tables.{Rows}
use Rattle.lk_types.specs.declared.model.Derived.{Derived}
use Rattle.lk_types.specs.declared.model.Model.{Model}
use Rattle.lk_keeps.specs.Keeps.{Keeps, is_of}

-- the kept rows of a derived table, where the datagroup persists it
abbrev pub rows_built : Keeps → ℕ → ℕ × Derived → Option Rows
rows_built keeps g d = if is_of (g ∷ []) d.1.datagroup then Some (slice_index_or keeps.derived d.0 []) else None

-- those of each derived table, by number
abbrev pub all_built : Model → Keeps → ℕ → List (Option Rows)
all_built m keeps g = map (rows_built keeps g) (enumerate_from 0 m.derived)
