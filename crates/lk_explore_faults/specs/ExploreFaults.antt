-- The first fault of an explore. (Looker, LookML reference: explore; lookd)
use Rattle.std.specs.Prelude.{List, [], ◌∷◌, Option}
use Rattle.lk_val.specs.declared.fault.FaultLine.{FaultLine}
use Rattle.lk_types.specs.declared.schema.Schema.{Schema}
use Rattle.lk_objects.specs.declared.datagroup.DeclaredDatagroup.{DeclaredDatagroup}
use Rattle.lk_objects.specs.declared.explore.DeclaredExplore.{DeclaredExplore}
use Rattle.lk_objects.specs.declared.view.DeclaredView.{DeclaredView}
use Rattle.lk_fields.specs.declared.scope.Scope.{Scope}
use Rattle.lk_formulas.specs.declared.columns.ColumnKinds.{ColumnKinds}
use Rattle.lk_scope.specs.Pieces.{first_along, first_at, first_of, line_with}
use Rattle.lk_field_faults.specs.ExploreFields.{explore_fields_fault}
use Rattle.lk_explore_faults.specs.Conditions.{filter_condition_line, join_condition_line}
use Rattle.lk_explore_faults.specs.FilterFaults.{filter_line, rollup_line}
use Rattle.lk_explore_faults.specs.JoinFaults.{join_line, own_findings, twin_line}

module _ (schema : Schema) (views : List DeclaredView) (scope : Scope) (columns : ColumnKinds) where
  -- in this order, given the explore's scope, in which its joins bring the parts from 1 on: its own parameters, a join with
  -- its name, its joins, filters and aggregate tables as declared, its fields by name, and the conditions of its joins and
  -- filters
  abbrev pub explore_fault : List DeclaredDatagroup → DeclaredExplore → Option FaultLine
  explore_fault datagroups x = first_of
      (line_with x.first (own_findings views scope x)
      ∷ twin_line x
      ∷ first_along (join_line schema views scope x.joins) 1 x.joins
      ∷ first_at (filter_line schema views scope x.name) x.filters
      ∷ first_at (rollup_line views scope datagroups) x.rollups
      ∷ explore_fields_fault schema views scope columns
      ∷ first_along (join_condition_line schema views scope columns) 1 x.joins
      ∷ first_at (filter_condition_line schema views scope columns x.name) x.filters
      ∷ [])
