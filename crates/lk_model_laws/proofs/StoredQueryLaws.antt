-- The aggregate tables and derived tables of a project without a fault depend on no moment.
use Rattle.std.proofs.Common.{◌≡◌, ◌∙◌, ◌<◌, ℕ, true, ◌&&◌, List, [], ◌∷◌, ◌++◌, map, length, refl, ap, sym, subst, Option, Some, None}
use Rattle.std.specs.Prelude.{codes, flat_map}
use Rattle.std.specs.List.{AllByRecursion, list_all}
use Rattle.std.proofs.lemmas.List.{append-nil}
use Rattle.lk_read.specs.declared.tree.Item.{Item}
use Rattle.lk_types.specs.Filters.{is_placed}
use Rattle.lk_types.specs.declared.explore.Explore.{Explore}
use Rattle.lk_types.specs.declared.filter.Filter.{Filter}
use Rattle.lk_types.specs.declared.model.Pick.{Pick}
use Rattle.lk_types.specs.declared.model.Pick.TheVariants.{Dim, Mea}
use Rattle.lk_types.specs.declared.schema.Schema.{Schema}
use Rattle.lk_objects.specs.declared.datagroup.DeclaredDatagroup.{DeclaredDatagroup}
use Rattle.lk_objects.specs.declared.explore.AggregateTable.{AggregateTable}
use Rattle.lk_objects.specs.declared.explore.DeclaredExplore.{DeclaredExplore}
use Rattle.lk_objects.specs.declared.explore.ExploreFilter.{ExploreFilter}
use Rattle.lk_objects.specs.declared.explore.ExploreFilter.TheVariants as explore_filter
use Rattle.lk_objects.specs.declared.field.DeclaredField.{DeclaredField}
use Rattle.lk_objects.specs.declared.filter_text.FilterText.{FilterText}
use Rattle.lk_objects.specs.declared.view.DeclaredColumn.{DeclaredColumn}
use Rattle.lk_objects.specs.declared.view.DeclaredView.{DeclaredView}
use Rattle.lk_objects.specs.declared.view.DerivedTable.{DerivedTable}
use Rattle.lk_objects.specs.declared.view.Entry.{Entry}
use Rattle.lk_objects.specs.declared.view.Entry.TheVariants as entry
use Rattle.lk_fields.specs.declared.scope.Found.{Found}
use Rattle.lk_fields.specs.declared.scope.Place.{Place}
use Rattle.lk_fields.specs.declared.scope.Scope.{Scope}
use Rattle.lk_fields.specs.Existing.{exists, field_at}
use Rattle.lk_formulas.specs.declared.columns.ColumnKinds.{ColumnKinds}
use Rattle.lk_formulas.specs.Formulas.{ends}
use Rattle.lk_written.specs.Values.{filters_at}
use Rattle.lk_view.specs.DerivedTables as tables
use Rattle.lk_view.specs.DerivedTables.{IsDerived, source_items}
use Rattle.lk_explore.specs.Rollups as rollups
use Rattle.lk_explore.specs.Rollups.{IsRollup}
use Rattle.lk_explore.specs.Values.{block_at}
use Rattle.lk_scope.specs.ExploreNames.{dimension_named, measure_named}
use Rattle.lk_explore_faults.specs.FilterFaults.{rollup_line}
use Rattle.lk_explore_faults.specs.RelativeDates.{relative_with}
use Rattle.lk_explore_faults.specs.StoredQueries.{column_findings, datagroup_findings, entry_findings, filter_findings, filter_findings_of, measure_findings, query_findings, relative_findings}
use Rattle.lk_explore_faults.specs.ViewFaults.{always_finding, always_findings, source_findings}
use Rattle.lk_semantics.specs.Answers.{components_of, picked_measures, query_components}
use Rattle.lk_semantics.specs.Derived.{derived_query}
use Rattle.lk_semantics.specs.Resolved.{are_fixed, have_fixed_filters, is_fixed_rollup}
use Rattle.lk_semantics.proofs.EveryLaws.{both}
use Rattle.lk_resolved.specs.DerivedTables.{column_of, column_with, derived_over}
use Rattle.lk_resolved.specs.Explores.{always_in, explore_of, measure_numbers, rollup_with}
use Rattle.lk_resolved.specs.Filters.{number_if}
use Rattle.lk_resolved.specs.Names.{dimensions}
use Rattle.lk_model_laws.proofs.EntryLaws.{all_of_places, filters_count, rollup_filters, rollup_measures, source_columns, source_filters}
use Rattle.lk_model_laws.proofs.ExploreObjectLaws.{rollup_parts}
use Rattle.lk_model_laws.proofs.FilterLaws.{IsOfKinds, filters_of_kinds}
use Rattle.lk_model_laws.proofs.FixedLaws.{ArePlaced, HasFixedParts, components_fixed, entries_clear, named_fixed, named_placed, stored_placed, tested_fixed}
use Rattle.lk_model_laws.proofs.GroundedLaws.{IsReferredCode}
use Rattle.lk_model_laws.proofs.ListLaws.{all_append, all_every, all_flat, all_map, all_more, all_with}
use Rattle.lk_model_laws.proofs.PieceLaws.{nil_each, nil_left, nil_right}
use Rattle.lk_model_laws.proofs.ViewObjectLaws.{nil_no}

none_found : (object at : List ℕ) (o : Option (List ℕ)) → relative_findings object at o ≡ [] → o ≡ None
none_found object at None h = refl
none_found object at (Some field) h = absurd (nil_no _ [] h)

-- ---- what the query of an aggregate table has

-- its filters are read, and neither they nor its measures have a relative date
pub record HasFixedQuery (views : List DeclaredView) (scope : Scope) (table : AggregateTable) : Type 0 where
  pub kinds : AllByRecursion IsOfKinds table.filters
  pub filters_clear : AllByRecursion (λ f. filter_findings views scope table.name (codes "query") true f ≡ []) table.filters
  pub measures_clear : AllByRecursion (λ name. measure_findings views scope table.name (codes "query") name (measure_named views scope name) ≡ []) table.measures

-- of a stored query by its entries
filters_clear : (views : List DeclaredView) (scope : Scope) (object at : List ℕ) (filters : List FilterText)
    → ((k : ℕ) → k < length filters → entry_findings views scope object at filters (entry.Filter k) ≡ []) → AllByRecursion (λ f. filter_findings views scope object at true f ≡ []) filters
filters_clear views scope object at filters h =
    all_of_places (λ f. filter_findings views scope object at true f ≡ []) filters
    (λ k f less got. ap (filter_findings_of views scope object at) (sym got) ∙ h k less)

pub fixed_query : (views : List DeclaredView) (scope : Scope) (datagroups : List DeclaredDatagroup) (name : List ℕ) (items : List Item) (table : AggregateTable)
    → IsRollup name items table → rollup_line views scope datagroups table ≡ None → HasFixedQuery views scope table
fixed_query views scope datagroups name items table is h =
    let fine = rollup_parts views scope datagroups table h in
    let query = block_at (codes "query") items in
    let clear = entries_clear views scope table.name (codes "query") table.filters table.entries
    (nil_left (query_findings views scope table.name (codes "query") table.filters table.entries) (datagroup_findings datagroups table.name (codes "materialization") table.datagroup) fine.1) in
    let IsClear : Entry → Type 0 = λ e. entry_findings views scope table.name (codes "query") table.filters e ≡ [] in
    let entries : AllByRecursion IsClear (rollups.entries_in query) = subst (AllByRecursion IsClear) is.entries_are clear in
    record {
      kinds = filters_of_kinds (filters_at query) table.filters is.filters_are;
      filters_clear = filters_clear views scope table.name (codes "query") table.filters
          (λ k less. rollup_filters IsClear query entries k (subst (λ n. k < n) (sym (filters_count (filters_at query) table.filters is.filters_are)) less));
      measures_clear = subst (AllByRecursion (λ measure. measure_findings views scope table.name (codes "query") measure (measure_named views scope measure) ≡ [])) (sym is.measures_are)
          (rollup_measures IsClear query entries);
    }

-- ---- what that of a derived table has

pub record HasFixedSource (views : List DeclaredView) (scope : Scope) (object at : List ℕ) (filters : List ExploreFilter) (table : DerivedTable) : Type 0 where
  pub kinds : AllByRecursion IsOfKinds table.filters
  pub filters_clear : AllByRecursion (λ f. filter_findings views scope object at true f ≡ []) table.filters
  pub columns_clear : AllByRecursion (λ column. column_findings views scope object at column.field (dimension_named views scope column.field) ≡ []) table.columns
  pub always_clear : AllByRecursion (λ f. always_findings views scope object at f ≡ []) filters

pub fixed_source : (views : List DeclaredView) (scope : Scope) (object at : List ℕ) (filters : List ExploreFilter) (items : List Item) (table : DerivedTable)
    → IsDerived items table → source_findings views scope object at table filters ≡ [] → HasFixedSource views scope object at filters table
fixed_source views scope object at filters items table is h =
    let source = source_items items in
    let clear = entries_clear views scope object at table.filters table.entries
    (nil_left (query_findings views scope object at table.filters table.entries) (flat_map (always_findings views scope object at) filters) h) in
    let IsClear : Entry → Type 0 = λ e. entry_findings views scope object at table.filters e ≡ [] in
    let entries : AllByRecursion IsClear (tables.entries_in source) = subst (AllByRecursion IsClear) is.entries_are clear in
    record {
      kinds = filters_of_kinds (filters_at source) table.filters is.filters_are;
      filters_clear = filters_clear views scope object at table.filters
          (λ k less. source_filters IsClear source entries k (subst (λ n. k < n) (sym (filters_count (filters_at source) table.filters is.filters_are)) less));
      columns_clear = subst (AllByRecursion (λ column. column_findings views scope object at column.field (dimension_named views scope column.field) ≡ [])) (sym is.columns_are)
          (source_columns IsClear source entries);
      always_clear = nil_each (always_findings views scope object at) filters
          (nil_right (query_findings views scope object at table.filters table.entries) (flat_map (always_findings views scope object at) filters) h);
    }

-- ---- an explore

-- the texts of an explore's filters are read
abbrev pub HasKinds : ExploreFilter → Type 0
HasKinds (explore_filter.Always always) = AllByRecursion IsOfKinds always.filters
HasKinds (explore_filter.Access access) = Unit {0}
HasKinds (explore_filter.Where c first) = Unit {0}

module _ (views : List DeclaredView) (scope : Scope) (schema : Schema) (columns : ColumnKinds) (datagroup : Option (List ℕ) → ℕ) (x : DeclaredExplore)
    (right : (place : Place) (field : DeclaredField) → field_at views scope place ≡ Some field → IsReferredCode field.sql)
    (kinds : (place : Place) (field : DeclaredField) → field_at views scope place ≡ Some field → AllByRecursion IsOfKinds field.filters)
    (end : (place : Place) → exists views scope place ≡ true → ends views scope place ≡ true) where
  abbrev y : Explore
  y = explore_of schema views scope columns datagroup x

  abbrev IsFixedPart : ℕ → Type 0
  IsFixedPart k = HasFixedParts views scope schema columns datagroup x right kinds end k

  rollup_fixed : (table : AggregateTable) → HasFixedQuery views scope table → is_fixed_rollup y (rollup_with views scope datagroup table) ≡ true
  rollup_fixed table is =
      let made = rollup_with views scope datagroup table in
      both (are_fixed made.filters) (have_fixed_filters y (components_of y made.measures))
      (tested_fixed made.filters (stored_placed views scope table.name (codes "query") table.filters is.kinds is.filters_clear))
      (components_fixed views scope schema columns datagroup x right kinds end made.measures
      (all_flat IsFixedPart (λ name. measure_findings views scope table.name (codes "query") name (measure_named views scope name) ≡ []) (measure_numbers views scope)
      (λ name h. named_fixed views scope schema columns datagroup x right kinds end table.name (codes "query") name h) table.measures is.measures_clear))

  -- the aggregate tables of an explore
  pub rollups_fixed : AllByRecursion (HasFixedQuery views scope) x.rollups → list_all (is_fixed_rollup y) y.rollups ≡ true
  rollups_fixed h =
      all_every (λ r. is_fixed_rollup y r ≡ true) (is_fixed_rollup y) (λ r is. is) (map (rollup_with views scope datagroup) x.rollups)
      (all_map (λ r. is_fixed_rollup y r ≡ true) (HasFixedQuery views scope) (rollup_with views scope datagroup) rollup_fixed x.rollups h)

  -- ---- a derived table over the explore

  module _ (object at : List ℕ) where
    always_placed : (f : ExploreFilter) → HasKinds f → always_findings views scope object at f ≡ [] → ArePlaced (always_in views scope f)
    always_placed (explore_filter.Always always) is h =
        named_placed views scope always.filters is
        (all_more (λ f. always_finding views scope object at f ≡ []) (λ f. relative_with views scope f (dimension_named views scope f.name) ≡ None)
        (λ f none. none_found object at (relative_with views scope f (dimension_named views scope f.name)) none) always.filters (nil_each (always_finding views scope object at) always.filters h))
    always_placed (explore_filter.Access access) is h = tt
    always_placed (explore_filter.Where c first) is h = tt

    abbrev picked : List (List ℕ × Pick) → List ℕ
    picked made = picked_measures (map (λ (c : List ℕ × Pick). c.1) made)

    picked_append : (xs ys : List (List ℕ × Pick)) → picked (xs ++ ys) ≡ picked xs ++ picked ys
    picked_append [] ys = refl
    picked_append (c ∷ xs) ys = of_pick c.1 (picked_append xs ys)
      where
        of_pick : (p : Pick) → picked (xs ++ ys) ≡ picked xs ++ picked ys
            → picked_measures (p ∷ map (λ (d : List ℕ × Pick). d.1) (xs ++ ys)) ≡ picked_measures (p ∷ map (λ (d : List ℕ × Pick). d.1) xs) ++ picked ys
        of_pick (Dim f) h = h
        of_pick (Mea m) h = ap (λ ns. m ∷ ns) h

    measure_picked : (name : List ℕ) (ms : List ℕ) → AllByRecursion IsFixedPart ms → AllByRecursion IsFixedPart (picked (column_with name [] ms))
    measure_picked name [] h = tt
    measure_picked name (m ∷ ms) h = (h.0, tt)

    column_fixed : (column : DeclaredColumn) → column_findings views scope object at column.field (dimension_named views scope column.field) ≡ [] → AllByRecursion IsFixedPart (picked (column_of views scope column))
    column_fixed column h = of_dimension (dimension_named views scope column.field) h
      where
        of_dimension : (o : Option Found) → column_findings views scope object at column.field o ≡ []
            → AllByRecursion IsFixedPart (picked (column_with column.name (number_if views scope (dimensions views scope) column.field o) (measure_numbers views scope column.field)))
        of_dimension None none = measure_picked column.name (measure_numbers views scope column.field) (named_fixed views scope schema columns datagroup x right kinds end object at column.field none)
        of_dimension (Some found) none = tt

    columns_fixed : (made : List DeclaredColumn) → AllByRecursion (λ column. column_findings views scope object at column.field (dimension_named views scope column.field) ≡ []) made
        → AllByRecursion IsFixedPart (picked (flat_map (column_of views scope) made))
    columns_fixed [] h = tt
    columns_fixed (column ∷ made) h =
        subst (AllByRecursion IsFixedPart) (sym (picked_append (column_of views scope column) (flat_map (column_of views scope) made)))
        (all_append IsFixedPart (picked (column_of views scope column)) (picked (flat_map (column_of views scope) made)) (column_fixed column h.0) (columns_fixed made h.1))

    -- all that it depends on
    pub derived_fixed : (groups : List (List ℕ)) (name : List ℕ) (table : DerivedTable) (number : ℕ) → AllByRecursion HasKinds x.filters → HasFixedSource views scope object at x.filters table
        → (are_fixed (derived_over views scope groups name table number).filters && are_fixed y.always
        && have_fixed_filters y (query_components y (derived_query y (derived_over views scope groups name table number)))) ≡ true
    derived_fixed groups name table number read is =
        let d = derived_over views scope groups name table number in
        let parts = columns_fixed table.columns is.columns_clear in
        both (are_fixed d.filters && are_fixed y.always) (have_fixed_filters y (query_components y (derived_query y d)))
        (both (are_fixed d.filters) (are_fixed y.always)
        (tested_fixed d.filters (stored_placed views scope object at table.filters is.kinds is.filters_clear))
        (tested_fixed y.always (all_flat (λ (f : ℕ × Filter). is_placed f.1 ≡ true) (λ f. HasKinds f × (always_findings views scope object at f ≡ [])) (always_in views scope) (λ f h. always_placed f h.0 h.1) x.filters
        (all_with HasKinds (λ f. always_findings views scope object at f ≡ []) x.filters read is.always_clear))))
        (components_fixed views scope schema columns datagroup x right kinds end (picked d.columns ++ []) (subst (AllByRecursion IsFixedPart) (sym (append-nil (picked d.columns))) parts))
