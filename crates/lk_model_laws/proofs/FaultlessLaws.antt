-- What a project without a fault has: no piece of it has one.
use Rattle.std.proofs.Common.{◌≡◌, ℕ, ◌+◌, List, [], ◌∷◌, Option, None}
use Rattle.std.specs.List.{AllByRecursion}
use Rattle.lk_val.specs.declared.fault.FaultLine.{FaultLine}
use Rattle.lk_types.specs.declared.schema.Schema.{Schema}
use Rattle.lk_objects.specs.declared.datagroup.DeclaredDatagroup.{DeclaredDatagroup}
use Rattle.lk_objects.specs.declared.explore.DeclaredExplore.{DeclaredExplore}
use Rattle.lk_objects.specs.declared.view.Declared.{Declared}
use Rattle.lk_objects.specs.declared.view.DeclaredView.{DeclaredView}
use Rattle.lk_fields.specs.declared.scope.Scope.{Scope}
use Rattle.lk_formulas.specs.declared.columns.ColumnKinds.{ColumnKinds}
use Rattle.lk_scope.specs.Pieces.{first_along, first_at, line_with}
use Rattle.lk_scope.specs.Scopes.{alone, scope_of}
use Rattle.lk_field_faults.specs.ExploreFields.{explore_fields_fault}
use Rattle.lk_explore_faults.specs.Conditions.{filter_condition_line, join_condition_line}
use Rattle.lk_explore_faults.specs.ExploreFaults.{explore_fault}
use Rattle.lk_explore_faults.specs.FilterFaults.{filter_line, rollup_line}
use Rattle.lk_explore_faults.specs.JoinFaults.{join_line, own_findings, twin_line}
use Rattle.lk_explore_faults.specs.ViewFaults.{view_fault}
use Rattle.lk_model.specs.Faults.{datagroup_line, explore_line, explore_line_in, fields_line_in, objects_fault, view_line}
use Rattle.lk_model.specs.Models.{model_of}
use Rattle.lk_model.specs.ViewKinds.{columns_in}
use Rattle.lk_model.specs.declared.view_kinds.ViewKinds.{ViewKinds}
use Rattle.lk_stored.specs.StoredFaults.{stored_fault}
use Rattle.lk_model_laws.proofs.ListLaws.{all_more}
use Rattle.lk_model_laws.proofs.PieceLaws.{EachFrom, none_along, none_at, none_left, none_of, none_right}

-- ---- an explore

-- no piece of the explore has a fault
pub record IsClearExplore (schema : Schema) (views : List DeclaredView) (scope : Scope) (columns : ColumnKinds) (datagroups : List DeclaredDatagroup) (x : DeclaredExplore) : Type 0 where
  pub own : line_with x.first (own_findings views scope x) ≡ None
  pub twin : twin_line x ≡ None
  pub joins : EachFrom (λ n join. join_line schema views scope x.joins n join ≡ None) 1 x.joins
  pub filters : AllByRecursion (λ f. filter_line schema views scope x.name f ≡ None) x.filters
  pub rollups : AllByRecursion (λ r. rollup_line views scope datagroups r ≡ None) x.rollups
  pub fields : explore_fields_fault schema views scope columns ≡ None
  pub join_conditions : EachFrom (λ n join. join_condition_line schema views scope columns n join ≡ None) 1 x.joins
  pub filter_conditions : AllByRecursion (λ f. filter_condition_line schema views scope columns x.name f ≡ None) x.filters

module _ (schema : Schema) (views : List DeclaredView) (scope : Scope) (columns : ColumnKinds) (datagroups : List DeclaredDatagroup) (x : DeclaredExplore) where
  abbrev pieces : List (Option FaultLine)
  pieces =
      line_with x.first (own_findings views scope x)
      ∷ twin_line x
      ∷ first_along (join_line schema views scope x.joins) 1 x.joins
      ∷ first_at (filter_line schema views scope x.name) x.filters
      ∷ first_at (rollup_line views scope datagroups) x.rollups
      ∷ explore_fields_fault schema views scope columns
      ∷ first_along (join_condition_line schema views scope columns) 1 x.joins
      ∷ first_at (filter_condition_line schema views scope columns x.name) x.filters
      ∷ []

  pub clear_explore : explore_fault schema views scope columns datagroups x ≡ None → IsClearExplore schema views scope columns datagroups x
  clear_explore h =
      let each = none_of pieces h in
      record {
        own = each.0;
        twin = each.1.0;
        joins = none_along (join_line schema views scope x.joins) 1 x.joins each.1.1.0;
        filters = none_at (filter_line schema views scope x.name) x.filters each.1.1.1.0;
        rollups = none_at (rollup_line views scope datagroups) x.rollups each.1.1.1.1.0;
        fields = each.1.1.1.1.1.0;
        join_conditions = none_along (join_condition_line schema views scope columns) 1 x.joins each.1.1.1.1.1.1.0;
        filter_conditions = none_at (filter_condition_line schema views scope columns x.name) x.filters each.1.1.1.1.1.1.1.0;
      }

-- ---- a project

module _ (schema : Schema) (declared : Declared) (kinds : ViewKinds) where
  abbrev pub IsClear : DeclaredExplore → Type 0
  IsClear x = IsClearExplore schema declared.views (scope_of declared.views x) (columns_in kinds (scope_of declared.views x)) declared.datagroups x

  clear_line : (x : DeclaredExplore) → explore_line schema declared kinds x ≡ None → IsClear x
  unfolding explore_line explore_line_in
  clear_line x h = clear_explore schema declared.views (scope_of declared.views x) (columns_in kinds (scope_of declared.views x)) declared.datagroups x h

  -- no view, datagroup and explore has a fault
  pub record IsClearProject : Type 0 where
    pub views : EachFrom (λ n view. (view_fault declared view ≡ None) × (fields_line_in schema declared kinds (alone n view) ≡ None)) 0 declared.views
    pub datagroups : AllByRecursion (λ g. datagroup_line g ≡ None) declared.datagroups
    pub explores : AllByRecursion IsClear declared.explores
    pub stored : stored_fault (model_of schema declared kinds) ≡ None

  clear_views : (n : ℕ) (vs : List DeclaredView) → EachFrom (λ k view. view_line schema declared kinds k view ≡ None) n vs
      → EachFrom (λ k view. (view_fault declared view ≡ None) × (fields_line_in schema declared kinds (alone k view) ≡ None)) n vs
  clear_views n [] h = tt
  clear_views n (view ∷ vs) h = (
    (
      none_left (view_fault declared view) (fields_line_in schema declared kinds (alone n view)) h.0,
      none_right (view_fault declared view) (fields_line_in schema declared kinds (alone n view)) h.0,
    ),
    clear_views (n + 1) vs h.1,
  )

  pub clear_project : objects_fault schema declared kinds ≡ None → stored_fault (model_of schema declared kinds) ≡ None → IsClearProject
  clear_project h stored_none =
      let objects = none_of (first_along (view_line schema declared kinds) 0 declared.views ∷ first_at datagroup_line declared.datagroups ∷ first_at (explore_line schema declared kinds) declared.explores ∷ []) h in
      record {
        views = clear_views 0 declared.views (none_along (view_line schema declared kinds) 0 declared.views objects.0);
        datagroups = none_at datagroup_line declared.datagroups objects.1.0;
        explores = all_more (λ x. explore_line schema declared kinds x ≡ None) IsClear clear_line declared.explores (none_at (explore_line schema declared kinds) declared.explores objects.1.1.0);
        stored = stored_none;
      }
