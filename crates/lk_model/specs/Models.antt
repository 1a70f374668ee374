-- The model of what the objects of a project say: names are numbers, and each list stands by name. (Looker, LookML reference: explore, derived_table, datagroup; lookd)
use Rattle.std.specs.Prelude.{ℕ, List, [], ◌∷◌, map, flat_map, Option, Some, None}
use Rattle.std.specs.List.{position}
use Rattle.lk_val.specs.Texts.{is_same_text}
use Rattle.lk_types.specs.declared.explore.Explore.{Explore}
use Rattle.lk_types.specs.declared.model.Datagroup.{Datagroup}
use Rattle.lk_types.specs.declared.model.Derived.{Derived}
use Rattle.lk_types.specs.declared.model.Model.{Model}
use Rattle.lk_types.specs.declared.schema.Schema.{Schema}
use Rattle.lk_objects.specs.declared.datagroup.DeclaredDatagroup.{DeclaredDatagroup}
use Rattle.lk_objects.specs.declared.explore.DeclaredExplore.{DeclaredExplore}
use Rattle.lk_objects.specs.declared.view.Declared.{Declared}
use Rattle.lk_objects.specs.declared.view.DeclaredView.{DeclaredView}
use Rattle.lk_objects.specs.declared.view.DerivedTable.{DerivedTable}
use Rattle.lk_objects.specs.declared.view.Rows.{Rows}
use Rattle.lk_objects.specs.declared.view.Rows.TheVariants as rows
use Rattle.lk_fields.specs.declared.scope.Scope.{Scope}
use Rattle.lk_scope.specs.Scopes.{scope_of}
use Rattle.lk_resolved.specs.DerivedTables.{derived_over}
use Rattle.lk_resolved.specs.Explores.{datagroup_number, explore_of}
use Rattle.lk_resolved.specs.Names.{or_zero}
use Rattle.lk_model.specs.ViewKinds.{columns_in, source_named}
use Rattle.lk_model.specs.declared.view_kinds.ViewKinds.{ViewKinds}

-- ---- datagroups

abbrev pub name_of : DeclaredDatagroup → List ℕ
name_of g = g.name

abbrev pub names_of : List DeclaredDatagroup → List (List ℕ)
names_of datagroups = map name_of datagroups

abbrev pub datagroup_with : DeclaredDatagroup → Datagroup
datagroup_with g = record { name = g.name; trigger = g.trigger; interval = g.interval }

-- ---- derived tables

-- the number of the explore of a name, and 0 where there is none, which no project without a fault has
abbrev pub explore_number : List DeclaredExplore → Option (List ℕ) → ℕ
explore_number explores None = 0
explore_number explores (Some name) = or_zero (position (λ x. is_same_text x.name name) explores)

-- the scope of the explore that a derived table is made from; where that is missing, names mean nothing in it
abbrev pub source_scope : List DeclaredView → Option DeclaredExplore → Scope
source_scope views None = record { parts = [] }
source_scope views (Some x) = scope_of views x

module _ (declared : Declared) where
  abbrev pub derived_in : List ℕ → DerivedTable → Scope → Derived
  derived_in name table scope =
      derived_over declared.views scope (names_of declared.datagroups) name table (explore_number declared.explores table.explore)

  abbrev pub derived_with : List ℕ → Rows → List Derived
  derived_with name (rows.Stored table) = []
  derived_with name (rows.Derived table) =
      derived_in name table (source_scope declared.views (source_named declared.explores table.explore)) ∷ []

  -- the derived table that a view is
  abbrev pub derived_of : DeclaredView → List Derived
  derived_of view = derived_with view.name view.rows

-- ---- explores, given the kinds of the columns of the views' rows

module _ (schema : Schema) (declared : Declared) (kinds : ViewKinds) where
  abbrev pub explore_in : DeclaredExplore → Scope → Explore
  explore_in x scope =
      explore_of schema declared.views scope (columns_in kinds scope) (datagroup_number (names_of declared.datagroups)) x

  unfoldable pub resolved : DeclaredExplore → Explore
  resolved x = explore_in x (scope_of declared.views x)

  -- as the declared objects stand
  abbrev pub model_of : Model
  model_of = record {
    schema = schema;
    explores = map resolved declared.explores;
    derived = flat_map (derived_of declared) declared.views;
    datagroups = map datagroup_with declared.datagroups;
  }
