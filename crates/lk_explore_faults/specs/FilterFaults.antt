-- The faults of an explore's filters and aggregate tables. (Looker, LookML reference: always_filter, access_filter, sql_always_where, aggregate_table; lookd)
use Rattle.std.specs.Prelude.{ℕ, false, List, [], ◌++◌, Option, Some, None, is_none, codes}
use Rattle.std.specs.List.{flat_map}
use Rattle.lk_val.specs.declared.fault.FaultLine.{FaultLine}
use Rattle.lk_types.specs.declared.schema.Schema.{Schema}
use Rattle.lk_objects.specs.declared.datagroup.DeclaredDatagroup.{DeclaredDatagroup}
use Rattle.lk_objects.specs.declared.explore.AggregateTable.{AggregateTable}
use Rattle.lk_objects.specs.declared.explore.ExploreFilter.{ExploreFilter}
use Rattle.lk_objects.specs.declared.explore.ExploreFilter.TheVariants as explore_filter
use Rattle.lk_objects.specs.declared.filter_text.FilterText.{FilterText}
use Rattle.lk_objects.specs.declared.view.DeclaredView.{DeclaredView}
use Rattle.lk_params.specs.declared.finding.Finding.{Finding}
use Rattle.lk_params.specs.Known.{if_so}
use Rattle.lk_fields.specs.declared.scope.Scope.{Scope}
use Rattle.lk_scope.specs.ExploreNames.{dimension_named}
use Rattle.lk_scope.specs.Pieces.{line_with}
use Rattle.lk_explore_faults.specs.ExploreTexts.{text_findings}
use Rattle.lk_explore_faults.specs.StoredQueries.{datagroup_findings, filter_findings, nameless, query_findings}

module _ (views : List DeclaredView) (scope : Scope) where
  -- filters at a parameter of the explore, which are those of no stored query
  abbrev pub filters_findings : List ℕ → List ℕ → List FilterText → List Finding
  filters_findings explore at filters = flat_map (filter_findings views scope explore at false) filters

  -- all filters of an `always_filter`
  abbrev pub always_findings : List ℕ → List FilterText → List Finding
  always_findings explore filters = filters_findings explore (codes "always_filter") filters

  -- the field of an `access_filter` is no dimension
  abbrev pub access_findings : List ℕ → Option (List ℕ) → List Finding
  access_findings explore None = []
  access_findings explore (Some name) = if_so (is_none (dimension_named views scope name)) (nameless explore (codes "access_filter") name)

module _ (schema : Schema) (views : List DeclaredView) (scope : Scope) where
  -- the first fault of a filter, without too many nodes and clashes of kinds in `sql_always_where`
  abbrev pub filter_line : List ℕ → ExploreFilter → Option FaultLine
  filter_line explore (explore_filter.Always always) = line_with always.first (always_findings views scope explore always.filters)
  filter_line explore (explore_filter.Access access) = line_with access.first (access_findings views scope explore access.field)
  filter_line explore (explore_filter.Where c first) = line_with first (text_findings schema views scope explore (codes "sql_always_where") c)

-- what is found in an aggregate table beside the faults of its own parameters, given the parameters' names: what its query
-- names, and an unknown datagroup
abbrev pub findings_at : List DeclaredView → Scope → List ℕ → List ℕ → List DeclaredDatagroup → AggregateTable → List Finding
findings_at views scope query built datagroups table =
    query_findings views scope table.name query table.filters table.entries
    ++ datagroup_findings datagroups table.name built table.datagroup

abbrev pub rollup_findings : List DeclaredView → Scope → List DeclaredDatagroup → AggregateTable → List Finding
rollup_findings views scope datagroups table = findings_at views scope (codes "query") (codes "materialization") datagroups table

unfoldable pub rollup_line : List DeclaredView → Scope → List DeclaredDatagroup → AggregateTable → Option FaultLine
rollup_line views scope datagroups table = line_with table.first (rollup_findings views scope datagroups table)
