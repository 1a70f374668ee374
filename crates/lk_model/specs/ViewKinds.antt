-- The kinds of the columns that the rows of each view have: of a stored table those of the schema, and of a derived table those of what its columns take. (Looker, LookML reference: sql_table_name, derived_table; lookd)
use Rattle.std.specs.Prelude.{ℕ, zero, suc, List, [], map, length, Option, Some, None, slice_get, slice_index_or}
use Rattle.std.specs.Option.{option_and_then}
use Rattle.lk_types.specs.declared.schema.ColumnDef.{ColumnDef}
use Rattle.lk_types.specs.declared.schema.Kind.{Kind}
use Rattle.lk_types.specs.declared.schema.Schema.{Schema}
use Rattle.lk_types.specs.declared.schema.TableDef.{TableDef}
use Rattle.lk_objects.specs.declared.explore.DeclaredExplore.{DeclaredExplore}
use Rattle.lk_objects.specs.declared.view.Declared.{Declared}
use Rattle.lk_objects.specs.declared.view.DeclaredColumn.{DeclaredColumn}
use Rattle.lk_objects.specs.declared.view.DeclaredView.{DeclaredView}
use Rattle.lk_objects.specs.declared.view.Rows.{Rows}
use Rattle.lk_objects.specs.declared.view.Rows.TheVariants as rows
use Rattle.lk_fields.specs.declared.scope.Found.{Found}
use Rattle.lk_fields.specs.declared.scope.Scope.{Scope}
use Rattle.lk_fields.specs.declared.scope.ScopePart.{ScopePart}
use Rattle.lk_formulas.specs.declared.columns.ColumnKinds.{ColumnKinds}
use Rattle.lk_formulas.specs.declared.columns.UnknownColumn.TheVariants as unknown_column
use Rattle.lk_formulas.specs.FieldKinds.{field_kind, measure_kind}
use Rattle.lk_scope.specs.ExploreNames.{dimension_named, measure_named}
use Rattle.lk_scope.specs.Scopes.{explore_named, scope_of}
use Rattle.lk_model.specs.declared.view_kinds.ViewKinds.{ViewKinds}

-- ---- the columns of a scope's parts

-- those of the view of a number; none are known where there is no such view
abbrev pub kinds_at : List (List (Option Kind)) → Option ℕ → List (Option Kind)
kinds_at views None = []
kinds_at views (Some number) = slice_index_or views number []

abbrev pub part_kinds : ViewKinds → ScopePart → List (Option Kind)
part_kinds kinds part = kinds_at kinds.views part.view

abbrev pub columns_in : ViewKinds → Scope → ColumnKinds
columns_in kinds scope = record { parts = map (part_kinds kinds) scope.parts }

-- ---- a stored table

abbrev pub column_kind : ColumnDef → Option Kind
column_kind column = Some column.kind

abbrev pub table_kinds : Option TableDef → List (Option Kind)
table_kinds None = []
table_kinds (Some table) = map column_kind table.columns

-- ---- a derived table

-- the explore that it is made from
abbrev pub source_named : List DeclaredExplore → Option (List ℕ) → Option DeclaredExplore
source_named explores None = None
source_named explores (Some name) = explore_named explores name

-- given the views and the kinds of the columns of the source's parts; a column of unknown kind is null
module _ (schema : Schema) (views : List DeclaredView) (scope : Scope) (columns : ColumnKinds) where
  abbrev pub kind_of_measure : Option Found → Option Kind
  kind_of_measure None = None
  kind_of_measure (Some found) = measure_kind schema views scope columns unknown_column.Null found.place

  abbrev pub kind_of_dimension : Option Found → Option Found → Option Kind
  kind_of_dimension (Some found) measure = field_kind schema views scope columns unknown_column.Null found
  kind_of_dimension None measure = kind_of_measure measure

  -- that of the dimension that the name of a column's field means, or else of the measure
  abbrev pub taken_kind : DeclaredColumn → Option Kind
  taken_kind column = kind_of_dimension (dimension_named views scope column.field) (measure_named views scope column.field)

-- those of the columns over an explore's scope, given what is known of the views
abbrev pub kinds_in : Schema → List DeclaredView → ViewKinds → Scope → List DeclaredColumn → List (Option Kind)
kinds_in schema views kinds scope columns = map (taken_kind schema views scope (columns_in kinds scope)) columns

-- where the source is missing, none are known
abbrev pub derived_kinds : Schema → List DeclaredView → ViewKinds → List DeclaredColumn → Option DeclaredExplore → List (Option Kind)
derived_kinds schema views kinds columns None = []
derived_kinds schema views kinds columns (Some x) = kinds_in schema views kinds (scope_of views x) columns

-- ---- one round: given what is known so far, what the rows of each view then have

module _ (schema : Schema) (declared : Declared) where
  abbrev pub row_kinds : ViewKinds → Rows → List (Option Kind)
  row_kinds kinds (rows.Stored table) = table_kinds (option_and_then (slice_get schema.tables) table)
  row_kinds kinds (rows.Derived derived) =
      derived_kinds schema declared.views kinds derived.columns (source_named declared.explores derived.explore)

  abbrev pub view_kinds : ViewKinds → DeclaredView → List (Option Kind)
  view_kinds kinds view = row_kinds kinds view.rows

  abbrev pub round : ViewKinds → ViewKinds
  round kinds = record { views = map (view_kinds kinds) declared.views }

  -- so many rounds more
  abbrev pub rounds : ℕ → ViewKinds → ViewKinds
  rounds zero kinds = kinds
  rounds (suc n) kinds = rounds n (round kinds)

  -- after one round more than there are views, where at first nothing is known: no chain of derived tables without a cycle is
  -- longer
  abbrev pub kinds_of : ViewKinds
  kinds_of = rounds (suc (length declared.views)) (record { views = [] })
