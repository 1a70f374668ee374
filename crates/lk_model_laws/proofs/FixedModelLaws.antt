-- The aggregate tables and derived tables of the model of a project without a fault depend on no moment.
use Rattle.std.proofs.Common.{◌≡◌, ◌∙◌, ℕ, true, ◌&&◌, List, [], ◌∷◌, refl, ap, sym, subst, Option, Some, None}
use Rattle.std.specs.Prelude.{◌+◌, Ok, codes}
use Rattle.std.specs.List.{AllByRecursion, filter, list_all}
use Rattle.lk_read.specs.declared.tree.Item.{Item}
use Rattle.lk_types.specs.declared.explore.Explore.{Explore}
use Rattle.lk_types.specs.declared.model.Model.{Model}
use Rattle.lk_types.specs.declared.schema.Schema.{Schema}
use Rattle.lk_merge.specs.declared.project.Merged.{Merged}
use Rattle.lk_merge.specs.declared.project.Object.{Object}
use Rattle.lk_params.specs.Parameters.{items_of, last_named}
use Rattle.lk_objects.specs.declared.explore.AggregateTable.{AggregateTable}
use Rattle.lk_objects.specs.declared.explore.DeclaredExplore.{DeclaredExplore}
use Rattle.lk_objects.specs.declared.explore.ExploreFilter.{ExploreFilter}
use Rattle.lk_objects.specs.declared.explore.ExploreFilter.TheVariants as explore_filter
use Rattle.lk_objects.specs.declared.field.DeclaredField.{DeclaredField}
use Rattle.lk_objects.specs.declared.view.Declared.{Declared}
use Rattle.lk_objects.specs.declared.view.DeclaredView.{DeclaredView}
use Rattle.lk_objects.specs.declared.view.DerivedTable.{DerivedTable}
use Rattle.lk_objects.specs.declared.view.Rows.{Rows}
use Rattle.lk_objects.specs.declared.view.Rows.TheVariants as rows
use Rattle.lk_fields.specs.declared.scope.Scope.{Scope}
use Rattle.lk_written.specs.Blocks.{block_items, block_name}
use Rattle.lk_written.specs.Values.{filters_at}
use Rattle.lk_view_field.specs.Fields.{filters_of}
use Rattle.lk_view.specs.DerivedTables.{IsDerived}
use Rattle.lk_view.specs.FieldOrder.{fields_in}
use Rattle.lk_view.specs.ViewFindings.{derived_at}
use Rattle.lk_view.specs.Views.{AreFields, AreRows, IsView}
use Rattle.lk_explore.specs.ExploreFilters.{AreExploreFilters, is_filter}
use Rattle.lk_explore.specs.Explores.{AreRollups, rollups_in}
use Rattle.lk_explore.specs.Values.{plain_items}
use Rattle.lk_scope.specs.Scopes.{alone, scope_of}
use Rattle.lk_explore_faults.specs.FilterFaults.{rollup_line}
use Rattle.lk_explore_faults.specs.StoredQueries.{datagroup_findings}
use Rattle.lk_explore_faults.specs.ViewFaults as faults
use Rattle.lk_explore_faults.specs.ViewFaults.{key_findings, view_fault}
use Rattle.lk_semantics.specs.Derived.{derived_query}
use Rattle.lk_semantics.specs.Answers.{query_components}
use Rattle.lk_semantics.specs.Resolved.{are_fixed, have_fixed_filters, is_fixed_derived, is_fixed_rollup}
use Rattle.lk_semantics.proofs.EveryLaws.{Every}
use Rattle.lk_resolved.specs.DerivedTables.{derived_over}
use Rattle.lk_resolved.specs.Explores.{datagroup_number}
use Rattle.lk_model.specs.Faults.{fields_line_in}
use Rattle.lk_model.specs.Models.{derived_in, derived_of, derived_with, explore_number, model_of, names_of, resolved, source_scope}
use Rattle.lk_model.specs.ViewKinds.{columns_in, kinds_of, source_named}
use Rattle.lk_model.specs.declared.view_kinds.ViewKinds.{ViewKinds}
use Rattle.lk_resolve.specs.Objects.{AreExplores, AreViews}
use Rattle.lk_resolve.specs.Resolving.{HasModel}
use Rattle.lk_model_laws.proofs.CycleLaws.{fields_end}
use Rattle.lk_model_laws.proofs.FaultlessLaws.{IsClear, IsClearProject}
use Rattle.lk_model_laws.proofs.FilterLaws.{IsOfKinds, filters_of_kinds}
use Rattle.lk_model_laws.proofs.ListLaws.{all_at, all_every, all_flat, all_map}
use Rattle.lk_model_laws.proofs.ModelLaws.{clear, codes_right, views_right}
use Rattle.lk_model_laws.proofs.ModelNumberLaws.{HaveKnownSource, IsKnownSource, scope_is, source_at, source_explore}
use Rattle.lk_model_laws.proofs.PieceLaws.{EachFrom, nil_right, none_lined}
use Rattle.lk_model_laws.proofs.StoredQueryLaws.{HasFixedQuery, HasFixedSource, HasKinds, derived_fixed, fixed_query, fixed_source, rollups_fixed}
use Rattle.lk_model_laws.proofs.ViewObjectLaws.{AreRightCodes, IsRightView}
use Rattle.lk_model_laws.proofs.WholeExploreLaws.{placed_field}

-- ---- the texts of filters are read

abbrev pub FieldsOfKinds : DeclaredView → Type 0
FieldsOfKinds v = AllByRecursion (λ (f : DeclaredField). AllByRecursion IsOfKinds f.filters) v.fields

kinds_of_fields : (name : List ℕ) (items : List Item) (fields : List DeclaredField) → AreFields name items fields → AllByRecursion (λ f. AllByRecursion IsOfKinds f.filters) fields
kinds_of_fields name [] [] h = tt
kinds_of_fields name [] (f ∷ fields) h = absurd h
kinds_of_fields name (item ∷ items) [] h = absurd h
kinds_of_fields name (item ∷ items) (f ∷ fields) h = (filters_of_kinds (filters_of f.sort (block_items item)) f.filters h.0.filters_are, kinds_of_fields name items fields h.1)

pub kinds_of_views : (schema : Schema) (objects : List Object) (views : List DeclaredView) → AreViews schema objects views → AllByRecursion FieldsOfKinds views
kinds_of_views schema [] [] h = tt
kinds_of_views schema [] (v ∷ views) h = absurd h
kinds_of_views schema (o ∷ objects) [] h = absurd h
kinds_of_views schema (o ∷ objects) (v ∷ views) h = (kinds_of_fields o.name (fields_in (items_of o.tree)) v.fields h.0.fields_are, kinds_of_views schema objects views h.1)

pub kinds_of_filters : (explore : List ℕ) (items : List Item) (filters : List ExploreFilter) → AreExploreFilters explore items filters → AllByRecursion HasKinds filters
kinds_of_filters explore [] [] h = tt
kinds_of_filters explore [] (f ∷ filters) h = absurd h
kinds_of_filters explore (item ∷ items) [] h = absurd h
kinds_of_filters explore (item ∷ items) (explore_filter.Always always ∷ filters) h =
    (filters_of_kinds (filters_at (plain_items item.value)) always.filters h.0.1.filters_are, kinds_of_filters explore items filters h.1)
kinds_of_filters explore (item ∷ items) (explore_filter.Access access ∷ filters) h = (tt, kinds_of_filters explore items filters h.1)
kinds_of_filters explore (item ∷ items) (explore_filter.Where c first ∷ filters) h = (tt, kinds_of_filters explore items filters h.1)

-- ---- explores

queries_fixed : (declared : Declared) (scope : Scope) (items : List Item) (tables : List AggregateTable) → AreRollups items tables
    → AllByRecursion (λ table. rollup_line declared.views scope declared.datagroups table ≡ None) tables → AllByRecursion (HasFixedQuery declared.views scope) tables
queries_fixed declared scope [] [] h fine = tt
queries_fixed declared scope [] (table ∷ tables) h fine = absurd h
queries_fixed declared scope (item ∷ items) [] h fine = absurd h
queries_fixed declared scope (item ∷ items) (table ∷ tables) h fine =
    (fixed_query declared.views scope declared.datagroups (block_name item) (block_items item) table h.0 fine.0, queries_fixed declared scope items tables h.1 fine.1)

module _ (schema : Schema) (declared : Declared) (kinds : ViewKinds) where
  -- an explore whose stored queries are clear
  abbrev IsFixedExplore : DeclaredExplore → Type 0
  IsFixedExplore x = IsClear schema declared kinds x × AllByRecursion HasKinds x.filters × AllByRecursion (HasFixedQuery declared.views (scope_of declared.views x)) x.rollups

  explores_fixed : (objects : List Object) (explores : List DeclaredExplore) → AreExplores objects explores → AllByRecursion (IsClear schema declared kinds) explores → AllByRecursion IsFixedExplore explores
  explores_fixed [] [] h fine = tt
  explores_fixed [] (x ∷ explores) h fine = absurd h
  explores_fixed (o ∷ objects) [] h fine = absurd h
  explores_fixed (o ∷ objects) (x ∷ explores) h fine = (
    (
      fine.0,
      kinds_of_filters o.name (filter is_filter (items_of o.tree)) x.filters h.0.filters_are,
      queries_fixed declared (scope_of declared.views x) (rollups_in (items_of o.tree)) x.rollups h.0.rollups_are fine.0.rollups,
    ),
    explores_fixed objects explores h.1 fine.1,
  )

  -- ---- views

  -- the derived table that a view is, if it is one
  abbrev pub IsFixedRows : List ℕ → Rows → Type 0
  IsFixedRows name (rows.Stored number) = Unit {0}
  IsFixedRows name (rows.Derived table) =
      (known : IsKnownSource declared table) × HasFixedSource declared.views (scope_of declared.views known.source) name derived_at known.source.filters table

  fixed_rows : (name : List ℕ) (items : List Item) (from : Rows) → AreRows schema name items from → HaveKnownSource declared from → faults.derived_findings declared name derived_at from ≡ [] → IsFixedRows name from
  fixed_rows name items (rows.Stored number) h known found = tt
  fixed_rows name items (rows.Derived table) h known found = of_item (last_named (codes "derived_table") items) refl
    where
      no_stored : (o : Option ℕ) → rows.Derived table ≡ rows.Stored o → ⊥
      no_stored o e = cc

      of_item : (o : Option Item) → last_named (codes "derived_table") items ≡ o → IsFixedRows name (rows.Derived table)
      of_item None at = absurd (no_stored _ (rw at at h))
      of_item (Some item) at =
          let is : IsDerived (block_items item) table = rw at at h in
          let names = nil_right (datagroup_findings declared.datagroups name derived_at table.datagroup) (faults.named_findings declared name derived_at table table.explore) found in
          let source : faults.source_findings declared.views (scope_of declared.views known.source) name derived_at table known.source.filters ≡ [] =
          ap (faults.explore_findings declared.views name derived_at table known.name) (sym known.found) ∙ (ap (faults.named_findings declared name derived_at table) (sym known.named) ∙ names) in
          (known, fixed_source declared.views (scope_of declared.views known.source) name derived_at known.source.filters (block_items item) table is source)

  view_fixed : (name : List ℕ) (items : List Item) (v : DeclaredView) → IsView schema name items v → view_fault declared v ≡ None → IsRightView schema declared v → IsFixedRows v.name v.rows
  view_fixed name items v is h right =
      let parts = none_lined v.first (faults.view_findings declared v) h in
      let derived : faults.derived_findings declared v.name derived_at v.rows ≡ [] = nil_right (key_findings v) (faults.derived_findings declared v.name derived_at v.rows) parts.1 in
      subst (λ n. IsFixedRows n v.rows) (sym is.name_is)
      (fixed_rows name items v.rows is.rows_are right.source (ap (λ n. faults.derived_findings declared n derived_at v.rows) (sym is.name_is) ∙ derived))

  pub views_fixed : (P : ℕ → DeclaredView → Type 0) (n : ℕ) (objects : List Object) (views : List DeclaredView) → AreViews schema objects views
      → EachFrom (λ k v. (view_fault declared v ≡ None) × P k v) n views → AllByRecursion (IsRightView schema declared) views → AllByRecursion (λ v. IsFixedRows v.name v.rows) views
  views_fixed P n [] [] h fine right = tt
  views_fixed P n [] (v ∷ views) h fine right = absurd h
  views_fixed P n (o ∷ objects) [] h fine right = absurd h
  views_fixed P n (o ∷ objects) (v ∷ views) h fine right = (view_fixed o.name (items_of o.tree) v h.0 fine.0.0 right.0, views_fixed P (n + 1) objects views h.1 fine.1 right.1)

  -- ---- what they make

  abbrev model : Model
  model = model_of schema declared kinds

  module _ (codes : AllByRecursion (λ v. AllByRecursion AreRightCodes v.fields) declared.views) (read : AllByRecursion FieldsOfKinds declared.views) where
    rollups_made : (x : DeclaredExplore) → IsFixedExplore x → list_all (is_fixed_rollup (resolved schema declared kinds x)) (resolved schema declared kinds x).rollups ≡ true
    unfolding resolved
    rollups_made x is =
        let scope = scope_of declared.views x in
        let columns = columns_in kinds scope in
        rollups_fixed declared.views scope schema columns (datagroup_number (names_of declared.datagroups)) x
        (λ place field at. (placed_field AreRightCodes declared.views codes scope place field at).0.1)
        (λ place field at. placed_field (λ f. AllByRecursion IsOfKinds f.filters) declared.views read scope place field at)
        (fields_end schema declared.views scope columns is.0.fields) is.2

    source_fixed : (name : List ℕ) (table : DerivedTable) (known : IsKnownSource declared table) → IsFixedExplore known.source
        → HasFixedSource declared.views (scope_of declared.views known.source) name derived_at known.source.filters table
        → (are_fixed (derived_over declared.views (scope_of declared.views known.source) (names_of declared.datagroups) name table (explore_number declared.explores table.explore)).filters
        && are_fixed (resolved schema declared kinds known.source).always
        && have_fixed_filters (resolved schema declared kinds known.source) (query_components (resolved schema declared kinds known.source)
        (derived_query (resolved schema declared kinds known.source) (derived_over declared.views (scope_of declared.views known.source) (names_of declared.datagroups) name table (explore_number declared.explores table.explore))))) ≡ true
    unfolding resolved
    source_fixed name table known is fixed =
        let scope = scope_of declared.views known.source in
        let columns = columns_in kinds scope in
        derived_fixed declared.views scope schema columns (datagroup_number (names_of declared.datagroups)) known.source
        (λ place field at. (placed_field AreRightCodes declared.views codes scope place field at).0.1)
        (λ place field at. placed_field (λ f. AllByRecursion IsOfKinds f.filters) declared.views read scope place field at)
        (fields_end schema declared.views scope columns is.0.fields) name derived_at (names_of declared.datagroups) name table (explore_number declared.explores table.explore) is.1 fixed

    table_fixed : (name : List ℕ) (table : DerivedTable) (known : IsKnownSource declared table) → IsFixedExplore known.source
        → HasFixedSource declared.views (scope_of declared.views known.source) name derived_at known.source.filters table
        → is_fixed_derived model (derived_in declared name table (source_scope declared.views (source_named declared.explores table.explore))) ≡ true
    table_fixed name table known is fixed =
        subst (λ s. is_fixed_derived model (derived_in declared name table s) ≡ true) (sym (scope_is schema declared kinds table known))
        (subst (λ x. (are_fixed (derived_over declared.views (scope_of declared.views known.source) (names_of declared.datagroups) name table (explore_number declared.explores table.explore)).filters
        && are_fixed x.always && have_fixed_filters x (query_components x (derived_query x
        (derived_over declared.views (scope_of declared.views known.source) (names_of declared.datagroups) name table (explore_number declared.explores table.explore))))) ≡ true)
        (sym (source_explore schema declared kinds table known)) (source_fixed name table known is fixed))

    rows_made : AllByRecursion IsFixedExplore declared.explores → (name : List ℕ) (from : Rows) → IsFixedRows name from → AllByRecursion (λ d. is_fixed_derived model d ≡ true) (derived_with declared name from)
    rows_made explores name (rows.Stored number) h = tt
    rows_made explores name (rows.Derived table) h =
        let at = source_at schema declared kinds table h.0 in
        (table_fixed name table h.0 (all_at IsFixedExplore declared.explores explores at.0 h.0.source at.2) h.1, tt)

    tables_made : AllByRecursion IsFixedExplore declared.explores → AllByRecursion (λ v. IsFixedRows v.name v.rows) declared.views → Every (is_fixed_derived model) model.derived
    tables_made explores h =
        all_every (λ d. is_fixed_derived model d ≡ true) (is_fixed_derived model) (λ d is. is) model.derived
        (all_flat (λ d. is_fixed_derived model d ≡ true) (λ (v : DeclaredView). IsFixedRows v.name v.rows) (derived_of declared) (λ v is. rows_made explores v.name v.rows is) declared.views h)

    all_rollups_made : AllByRecursion IsFixedExplore declared.explores → Every (λ y. list_all (is_fixed_rollup y) y.rollups) model.explores
    all_rollups_made explores =
        all_every (λ (y : Explore). list_all (is_fixed_rollup y) y.rollups ≡ true) (λ y. list_all (is_fixed_rollup y) y.rollups) (λ y is. is) model.explores
        (all_map (λ (y : Explore). list_all (is_fixed_rollup y) y.rollups ≡ true) IsFixedExplore (resolved schema declared kinds) rollups_made declared.explores explores)

-- ---- the model that a project resolves to

module _ (schema : Schema) (merged : Merged) (model : Model) (h : HasModel schema merged (Ok model)) where
  abbrev declared : Declared
  declared = h.declared

  abbrev given : ViewKinds
  given = kinds_of schema h.declared

  project : IsClearProject schema h.declared given
  project = clear schema merged h.declared h.objects h.is_model.fault

  fixed_explores : AllByRecursion (IsFixedExplore schema h.declared given) h.declared.explores
  fixed_explores = explores_fixed schema h.declared given merged.explores h.declared.explores h.objects.explores_are project.explores

  right : AllByRecursion (λ v. AllByRecursion AreRightCodes v.fields) h.declared.views
  right = codes_right schema merged h.declared h.objects h.is_model.fault

  read : AllByRecursion FieldsOfKinds h.declared.views
  read = kinds_of_views schema merged.views h.declared.views h.objects.views_are

  pub have_fixed_rollups : list_all (λ x. list_all (is_fixed_rollup x) x.rollups) model.explores ≡ true
  have_fixed_rollups =
      subst (λ m. list_all (λ x. list_all (is_fixed_rollup x) x.rollups) m.explores ≡ true) (sym h.is_model.ok) (all_rollups_made schema h.declared given right read fixed_explores)

  pub are_fixed_tables : list_all (is_fixed_derived model) model.derived ≡ true
  are_fixed_tables =
      subst (λ m. list_all (is_fixed_derived m) m.derived ≡ true) (sym h.is_model.ok)
      (tables_made schema h.declared given right read fixed_explores
      (views_fixed schema h.declared given (λ k v. fields_line_in schema h.declared given (alone k v) ≡ None) 0 merged.views h.declared.views h.objects.views_are project.views
      (views_right schema merged h.declared h.objects h.is_model.fault)))
