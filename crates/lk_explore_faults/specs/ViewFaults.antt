-- The faults of a view that take other objects, those of its fields aside: two primary keys, and what its derived table names. (Looker, LookML reference: primary_key, derived_table; lookd)
use Rattle.std.specs.Prelude.{ℕ, Bool, true, false, ◌&&◌, List, [], ◌∷◌, ◌++◌, Option, Some, None, codes, if◌then◌else◌}
use Rattle.std.specs.List.{flat_map, list_any}
use Rattle.lk_val.specs.declared.fault.FaultLine.{FaultLine}
use Rattle.lk_objects.specs.declared.explore.DeclaredExplore.{DeclaredExplore}
use Rattle.lk_objects.specs.declared.explore.ExploreFilter.{ExploreFilter}
use Rattle.lk_objects.specs.declared.explore.ExploreFilter.TheVariants as explore_filter
use Rattle.lk_objects.specs.declared.field.DeclaredField.{DeclaredField}
use Rattle.lk_objects.specs.declared.filter_text.FilterText.{FilterText}
use Rattle.lk_objects.specs.declared.view.Declared.{Declared}
use Rattle.lk_objects.specs.declared.view.DeclaredView.{DeclaredView}
use Rattle.lk_objects.specs.declared.view.DerivedTable.{DerivedTable}
use Rattle.lk_objects.specs.declared.view.Rows.{Rows}
use Rattle.lk_objects.specs.declared.view.Rows.TheVariants as rows
use Rattle.lk_params.specs.declared.finding.Finding.{Finding}
use Rattle.lk_params.specs.declared.number.Order.TheVariants as order
use Rattle.lk_params.specs.declared.number.Number.TheVariants.{N2, N9}
use Rattle.lk_params.specs.Findings.{finding, named_line}
use Rattle.lk_params.specs.Known.{if_so}
use Rattle.lk_fields.specs.declared.scope.Scope.{Scope}
use Rattle.lk_scope.specs.ExploreNames.{dimension_named}
use Rattle.lk_scope.specs.Pieces.{line_with}
use Rattle.lk_scope.specs.Scopes.{explore_named, scope_of}
use Rattle.lk_explore_faults.specs.RelativeDates.{relative_with}
use Rattle.lk_explore_faults.specs.StoredQueries.{datagroup_findings, query_findings, relative_findings}

abbrev pub is_key : DeclaredField → Bool
is_key field = field.is_key

-- two of the fields are marked as primary keys
abbrev pub has_two_keys : List DeclaredField → Bool
has_two_keys [] = false
has_two_keys (field ∷ fields) = if field.is_key && list_any is_key fields then true else has_two_keys fields

abbrev pub key_findings : DeclaredView → List Finding
key_findings view = if_so (has_two_keys view.fields) (finding order.Object N9 (codes "primary_key") (named_line N9 view.name []))

-- ---- the derived table, at a parameter of the view

module _ (views : List DeclaredView) (scope : Scope) where
  -- a relative date in one filter of the source's `always_filter`
  abbrev pub always_finding : List ℕ → List ℕ → FilterText → List Finding
  always_finding object at f = relative_findings object at (relative_with views scope f (dimension_named views scope f.name))

  -- the query of a derived table has the `always_filter` of its source too
  abbrev pub always_findings : List ℕ → List ℕ → ExploreFilter → List Finding
  always_findings object at (explore_filter.Always always) = flat_map (always_finding object at) always.filters
  always_findings object at other = []

  -- what the query of a derived table names, given the scope and the filters of its source
  abbrev pub source_findings : List ℕ → List ℕ → DerivedTable → List ExploreFilter → List Finding
  source_findings object at derived filters =
      query_findings views scope object at derived.filters derived.entries ++ flat_map (always_findings object at) filters

-- the source of a derived table, by its name: no explore, or what the query names
abbrev pub explore_findings : List DeclaredView → List ℕ → List ℕ → DerivedTable → List ℕ → Option DeclaredExplore → List Finding
explore_findings views object at derived name None = finding order.Object N2 at (named_line N2 object name) ∷ []
explore_findings views object at derived name (Some x) = source_findings views (scope_of views x) object at derived x.filters

abbrev pub named_findings : Declared → List ℕ → List ℕ → DerivedTable → Option (List ℕ) → List Finding
named_findings declared object at derived None = []
named_findings declared object at derived (Some name) =
    explore_findings declared.views object at derived name (explore_named declared.explores name)

-- an unknown datagroup; an unknown source, or what the query of the derived table names
abbrev pub derived_findings : Declared → List ℕ → List ℕ → Rows → List Finding
derived_findings declared object at (rows.Stored table) = []
derived_findings declared object at (rows.Derived derived) =
    datagroup_findings declared.datagroups object at derived.datagroup ++ named_findings declared object at derived derived.explore

-- what is found in a view beside the faults of its own parameters
abbrev pub view_findings : Declared → DeclaredView → List Finding
view_findings declared view = key_findings view ++ derived_findings declared view.name (codes "derived_table") view.rows

-- the first fault of a view, those of its fields aside
abbrev pub view_fault : Declared → DeclaredView → Option FaultLine
view_fault declared view = line_with view.first (view_findings declared view)
