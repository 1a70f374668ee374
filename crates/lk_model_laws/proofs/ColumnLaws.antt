-- The columns that the texts of fields name are there, in a project without a fault.
use Rattle.std.proofs.Common.{◌≡◌, ◌∙◌, ℕ, zero, suc, ◌+◌, false, List, [], ◌∷◌, ◌++◌, refl, ap, sym, subst, Option, Some, None, arith}
use Rattle.std.specs.Prelude.{codes, flat_map, is_none, slice_get}
use Rattle.std.specs.List.{AllByRecursion}
use Rattle.std.specs.Option.{option_and_then}
use Rattle.lk_types.specs.declared.schema.Schema.{Schema}
use Rattle.lk_objects.specs.declared.code.Code.{Code}
use Rattle.lk_objects.specs.declared.code.Code.TheVariants as code
use Rattle.lk_objects.specs.declared.code.Reference.{Reference}
use Rattle.lk_objects.specs.declared.code.Reference.TheVariants as reference
use Rattle.lk_objects.specs.declared.field.DeclaredField.{DeclaredField}
use Rattle.lk_objects.specs.declared.view.Declared.{Declared}
use Rattle.lk_objects.specs.declared.view.DeclaredView.{DeclaredView}
use Rattle.lk_params.specs.declared.finding.Finding.{Finding}
use Rattle.lk_fields.specs.declared.scope.Place.{Place}
use Rattle.lk_fields.specs.declared.scope.Scope.{Scope}
use Rattle.lk_fields.specs.declared.scope.ScopePart.{ScopePart}
use Rattle.lk_fields.specs.declared.scope.Sort.TheVariants as sort
use Rattle.lk_fields.specs.Existing.{all_places, field_at, fields_at, fields_with, places_from}
use Rattle.lk_fields.specs.Scopes.{view_at}
use Rattle.lk_formulas.specs.declared.columns.ColumnKinds.{ColumnKinds}
use Rattle.lk_formulas.specs.Columns.{column_in_rows, column_named}
use Rattle.lk_scope.specs.Pieces.{first_at}
use Rattle.lk_scope.specs.Scopes as scopes
use Rattle.lk_scope.specs.Scopes.{alone}
use Rattle.lk_field_faults.specs.Expressions.{expression_number}
use Rattle.lk_field_faults.specs.FieldFaults.{expression_findings, field_findings, field_line, line_of_field}
use Rattle.lk_field_faults.specs.FieldNames.{code_findings, filter_findings, reference_findings}
use Rattle.lk_field_faults.specs.MadeNames.{twice_line}
use Rattle.lk_explore_faults.specs.ViewFaults.{view_fault}
use Rattle.lk_model.specs.Faults.{fields_line_in}
use Rattle.lk_model.specs.ViewKinds.{columns_in}
use Rattle.lk_model.specs.declared.view_kinds.ViewKinds.{ViewKinds}
use Rattle.lk_model_laws.proofs.FaultlessLaws.{IsClearProject}
use Rattle.lk_model_laws.proofs.ListLaws.{all_at, all_front, all_more}
use Rattle.lk_model_laws.proofs.PieceLaws.{EachFrom, nil_each, nil_left, none_at, none_lined, none_right, not_so, some_none}

-- ---- a view

-- a column that is named is one of the view's rows
abbrev pub IsColumn : Schema → DeclaredView → Reference → Type 0
IsColumn schema v (reference.Column name) = is_none (column_in_rows schema name v.rows) ≡ false
IsColumn schema v r = Unit {0}

abbrev pub AreColumns : Schema → DeclaredView → Code → Type 0
AreColumns schema v (code.Expr written) = AllByRecursion (IsColumn schema v) written.references
AreColumns schema v c = Unit {0}

abbrev pub HasColumns : Schema → DeclaredView → DeclaredField → Type 0
HasColumns schema v f = AreColumns schema v f.sql

module _ (schema : Schema) (views : List DeclaredView) (scope : Scope) (columns : ColumnKinds) (v : DeclaredView) (seen : view_at views scope 0 ≡ Some v) where
  reference_there : (object at : List ℕ) (r : Reference) → reference_findings schema views scope object at 0 sort.Dimension r ≡ [] → IsColumn schema v r
  reference_there object at (reference.Own name) h = tt
  reference_there object at (reference.Of view name) h = tt
  reference_there object at (reference.Column name) h =
      sym (ap (λ o. is_none (option_and_then (λ (view : DeclaredView). column_in_rows schema name view.rows) o)) seen) ∙ not_so (is_none (column_named schema views scope 0 name)) _ h

  code_there : (object at : List ℕ) (c : Code) → code_findings schema views scope object at 0 c ≡ [] → AreColumns schema v c
  code_there object at (code.Expr written) h =
      all_more (λ r. reference_findings schema views scope object at 0 sort.Dimension r ≡ []) (IsColumn schema v) (reference_there object at) written.references
      (nil_each (reference_findings schema views scope object at 0 sort.Dimension) written.references h)
  code_there object at (code.Number written) h = tt
  code_there object at code.Absent h = tt
  code_there object at code.Liquid h = tt
  code_there object at (code.Syntax place) h = tt

  field_has : (f : DeclaredField) (n : ℕ) → field_at views scope (record { part = 0; field = n }) ≡ Some f → field_line schema views scope columns (record { part = 0; field = n }) ≡ None → HasColumns schema v f
  field_has f n at h =
      let place : Place = record { part = 0; field = n } in
      let object = scopes.full_name (scopes.part_name scope 0) f.name in
      let found = (none_lined f.first (field_findings schema views scope columns object place f) (ap (line_of_field schema views scope columns place) (sym at) ∙ h)).1 in
      let sql : List Finding = code_findings schema views scope object (codes "sql") 0 f.sql in
      let key : List Finding = code_findings schema views scope object (codes "sql_distinct_key") 0 f.key in
      let filters : List Finding = flat_map (filter_findings views scope object 0) f.filters in
      code_there object (codes "sql") f.sql
      (nil_left sql key (nil_left (sql ++ key) filters (nil_left (sql ++ key ++ filters) (expression_findings object (expression_number schema views scope columns place f)) found)))

  each_has : (n : ℕ) (own : List DeclaredField) → ((j : ℕ) (f : DeclaredField) → slice_get own j ≡ Some f → slice_get (fields_at views scope 0) (n + j) ≡ Some f)
      → AllByRecursion (λ place. field_line schema views scope columns place ≡ None) (places_from 0 n own) → AllByRecursion (HasColumns schema v) own
  each_has n [] h lines = tt
  each_has n (f ∷ own) h lines = (
    field_has f n (subst (λ m. slice_get (fields_at views scope 0) m ≡ Some f) (omega arith) (h zero f refl)) lines.0,
    each_has (n + 1) own (λ j g at. subst (λ m. slice_get (fields_at views scope 0) m ≡ Some g) (omega arith) (h (suc j) g at)) lines.1,
  )

-- ---- all views

module _ (schema : Schema) (declared : Declared) (kinds : ViewKinds) where
  view_has : (n : ℕ) (v : DeclaredView) → slice_get declared.views n ≡ Some v → fields_line_in schema declared kinds (alone n v) ≡ None → AllByRecursion (HasColumns schema v) v.fields
  view_has n v at h =
      let scope = alone n v in
      let columns = columns_in kinds scope in
      let lines = none_at (field_line schema declared.views scope columns) (all_places declared.views scope)
      (none_right (twice_line (scopes.part_name scope 0) (fields_at declared.views scope 0)) (first_at (field_line schema declared.views scope columns) (all_places declared.views scope)) h) in
      subst (λ o. AllByRecursion (HasColumns schema v) (fields_with o)) at
      (each_has schema declared.views scope columns v at 0 (fields_at declared.views scope 0) (λ j f there. subst (λ m. slice_get (fields_at declared.views scope 0) m ≡ Some f) (omega arith) there)
      (all_front (λ place. field_line schema declared.views scope columns place ≡ None) (places_from 0 0 (fields_at declared.views scope 0)) [] lines))

  views_have : (n : ℕ) (vs : List DeclaredView) → ((j : ℕ) (v : DeclaredView) → slice_get vs j ≡ Some v → slice_get declared.views (n + j) ≡ Some v)
      → EachFrom (λ k view. (view_fault declared view ≡ None) × (fields_line_in schema declared kinds (alone k view) ≡ None)) n vs → AllByRecursion (λ v. AllByRecursion (HasColumns schema v) v.fields) vs
  views_have n [] h lines = tt
  views_have n (v ∷ vs) h lines = (
    view_has n v (subst (λ m. slice_get declared.views m ≡ Some v) (omega arith) (h zero v refl)) lines.0.1,
    views_have (n + 1) vs (λ j w at. subst (λ m. slice_get declared.views m ≡ Some w) (omega arith) (h (suc j) w at)) lines.1,
  )

  pub columns_have : IsClearProject schema declared kinds → AllByRecursion (λ v. AllByRecursion (HasColumns schema v) v.fields) declared.views
  columns_have clear = views_have 0 declared.views (λ j v at. subst (λ m. slice_get declared.views m ≡ Some v) (omega arith) at) clear.views

-- ---- the fields of an explore

module _ (schema : Schema) (views : List DeclaredView) (each : AllByRecursion (λ v. AllByRecursion (HasColumns schema v) v.fields) views) where
  of_number : (o : Option ℕ) (v : DeclaredView) → option_and_then (slice_get views) o ≡ Some v → AllByRecursion (HasColumns schema v) v.fields
  of_number None v at = absurd (some_none (sym at))
  of_number (Some n) v at = all_at (λ w. AllByRecursion (HasColumns schema w) w.fields) views each n v at

  of_part : (o : Option ScopePart) (v : DeclaredView) → option_and_then (λ part. option_and_then (slice_get views) part.view) o ≡ Some v → AllByRecursion (HasColumns schema v) v.fields
  of_part None v at = absurd (some_none (sym at))
  of_part (Some part) v at = of_number part.view v at

  -- the view of a field has the columns that the field names
  pub placed_columns : (scope : Scope) (place : Place) (field : DeclaredField) → field_at views scope place ≡ Some field → (v : DeclaredView) × (view_at views scope place.part ≡ Some v) × HasColumns schema v field
  placed_columns scope place field at = of_view (view_at views scope place.part) refl at
    where
      of_view : (o : Option DeclaredView) → view_at views scope place.part ≡ o → slice_get (fields_with o) place.field ≡ Some field → (v : DeclaredView) × (view_at views scope place.part ≡ Some v) × HasColumns schema v field
      of_view None is h = absurd (some_none (sym h))
      of_view (Some v) is h = (v, is, all_at (HasColumns schema v) v.fields (of_part (slice_get scope.parts place.part) v is) place.field field h)
