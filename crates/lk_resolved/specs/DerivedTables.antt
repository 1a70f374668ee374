-- The resolved derived table of a declared one, over the explore that it names. (Looker, LookML reference: derived_table, explore_source)
use Rattle.std.specs.Prelude.{ℕ, List, [], ◌∷◌, flat_map, Option, Some, None}
use Rattle.std.specs.List.{position}
use Rattle.lk_val.specs.Texts.{is_same_text}
use Rattle.lk_types.specs.declared.model.Derived.{Derived}
use Rattle.lk_types.specs.declared.model.Pick.{Pick}
use Rattle.lk_types.specs.declared.model.Pick.TheVariants.{Dim, Mea}
use Rattle.lk_objects.specs.declared.view.DeclaredColumn.{DeclaredColumn}
use Rattle.lk_objects.specs.declared.view.DeclaredView.{DeclaredView}
use Rattle.lk_objects.specs.declared.view.DerivedTable.{DerivedTable}
use Rattle.lk_fields.specs.declared.scope.Scope.{Scope}
use Rattle.lk_resolved.specs.Explores.{measure_numbers}
use Rattle.lk_resolved.specs.Filters.{dimension_numbers, filters_named}
use Rattle.lk_resolved.specs.Names.{dimensions}

-- the number of a datagroup's name, if there is one
abbrev pub datagroup_of : List (List ℕ) → Option (List ℕ) → Option ℕ
datagroup_of datagroups None = None
datagroup_of datagroups (Some name) = position (λ datagroup. is_same_text datagroup name) datagroups

-- a column takes the dimension that its field's name means, or else the measure
abbrev pub column_with : List ℕ → List ℕ → List ℕ → List (List ℕ × Pick)
column_with name (d ∷ ds) measures = (name, Dim d) ∷ []
column_with name [] (m ∷ ms) = (name, Mea m) ∷ []
column_with name [] [] = []

module _ (views : List DeclaredView) (scope : Scope) where
  abbrev pub column_of : DeclaredColumn → List (List ℕ × Pick)
  column_of column =
      column_with column.name (dimension_numbers views scope (dimensions views scope) column.field) (measure_numbers views scope column.field)

  -- the derived table of a name over the explore of a number
  abbrev pub derived_over : List (List ℕ) → List ℕ → DerivedTable → ℕ → Derived
  derived_over datagroups name table number = record {
    name = name;
    explore = number;
    columns = flat_map column_of table.columns;
    filters = filters_named views scope (dimensions views scope) table.filters;
    datagroup = datagroup_of datagroups table.datagroup;
  }
