-- The filters of the model of a project without a fault are filters of the kinds of their dimensions, where its views have names of their own and its raw times are times.
use Rattle.std.proofs.Common.{◌≡◌, ℕ, true, List, [], ◌∷◌, refl, sym, subst, Option, Some, None}
use Rattle.std.specs.Prelude.{Ok, codes}
use Rattle.std.specs.List.{AllByRecursion, filter, list_all}
use Rattle.lk_read.specs.declared.tree.Item.{Item}
use Rattle.lk_types.specs.declared.explore.Explore.{Explore}
use Rattle.lk_types.specs.declared.model.Model.{Model}
use Rattle.lk_types.specs.declared.schema.Schema.{Schema}
use Rattle.lk_params.specs.Parameters.{items_of, last_named}
use Rattle.lk_merge.specs.declared.project.Merged.{Merged}
use Rattle.lk_merge.specs.declared.project.Object.{Object}
use Rattle.lk_objects.specs.declared.explore.AggregateTable.{AggregateTable}
use Rattle.lk_objects.specs.declared.explore.DeclaredExplore.{DeclaredExplore}
use Rattle.lk_objects.specs.declared.view.Declared.{Declared}
use Rattle.lk_objects.specs.declared.view.DeclaredView.{DeclaredView}
use Rattle.lk_objects.specs.declared.view.DerivedTable.{DerivedTable}
use Rattle.lk_objects.specs.declared.view.Rows.{Rows}
use Rattle.lk_objects.specs.declared.view.Rows.TheVariants as rows
use Rattle.lk_fields.specs.declared.scope.Scope.{Scope}
use Rattle.lk_formulas.specs.declared.columns.ColumnKinds.{ColumnKinds}
use Rattle.lk_scope.specs.Scopes.{scope_of}
use Rattle.lk_field_faults.specs.MadeNames.{names_made}
use Rattle.lk_written.specs.Blocks.{block_items}
use Rattle.lk_written.specs.Values.{filters_at}
use Rattle.lk_view.specs.DerivedTables.{IsDerived, source_items}
use Rattle.lk_view.specs.Views.{AreRows}
use Rattle.lk_explore.specs.ExploreFilters.{is_filter}
use Rattle.lk_explore.specs.Explores.{AreRollups, rollups_in}
use Rattle.lk_explore.specs.Values.{block_at}
use Rattle.lk_semantics.specs.Reading.{leaves_of}
use Rattle.lk_semantics.specs.Resolved.{are_filters_of, has_typed_filters, has_typed_sources, is_typed_field}
use Rattle.lk_semantics.proofs.EveryLaws.{Every}
use Rattle.lk_resolved.specs.Explores.{datagroup_number}
use Rattle.lk_resolved.specs.Filters.{filters_named}
use Rattle.lk_resolved.specs.Names.{dimensions}
use Rattle.lk_model.specs.Models.{derived_in, derived_of, derived_with, model_of, names_of, resolved, source_scope}
use Rattle.lk_model.specs.ViewKinds.{columns_in, kinds_of, source_named}
use Rattle.lk_model.specs.declared.view_kinds.ViewKinds.{ViewKinds}
use Rattle.lk_resolve.specs.Objects.{AreExplores, AreViews}
use Rattle.lk_resolve.specs.Resolving.{HasModel}
use Rattle.lk_model_laws.specs.Named.{has_own_names}
use Rattle.lk_model_laws.specs.Tables.{HavePlainTables}
use Rattle.lk_model_laws.specs.Typed.{has_raw_times, is_time_if_raw}
use Rattle.lk_model_laws.proofs.ExploreNameLaws.{every_map, names_apart, names_plain}
use Rattle.lk_model_laws.proofs.ExtremeTypedLaws.{HasCode}
use Rattle.lk_model_laws.proofs.FilterKindLaws.{filters_typed, source_typed}
use Rattle.lk_model_laws.proofs.FilterLaws.{IsOfKinds, filters_of_kinds}
use Rattle.lk_model_laws.proofs.FixedModelLaws.{FieldsOfKinds, kinds_of_filters, kinds_of_views}
use Rattle.lk_model_laws.proofs.KindModelLaws.{have_coded_dimensions}
use Rattle.lk_model_laws.proofs.ListLaws.{all_at, all_every, all_flat, all_map, all_with}
use Rattle.lk_model_laws.proofs.MadeNameLaws.{all_once, parts_apart}
use Rattle.lk_model_laws.proofs.ModelLaws.{clear, views_right}
use Rattle.lk_model_laws.proofs.ModelNumberLaws.{HaveKnownSource, IsKnownSource, scope_is, source_at, source_explore}
use Rattle.lk_model_laws.proofs.OwnNameLaws.{AreApart}
use Rattle.lk_model_laws.proofs.RawTimeLaws.{every_more, typed_time}
use Rattle.lk_model_laws.proofs.StoredQueryLaws.{HasKinds}
use Rattle.lk_model_laws.proofs.ViewObjectLaws.{IsRightView}
use Rattle.lk_model_laws.proofs.WholeExploreLaws.{placed_field}

-- ---- the texts of filters are read

-- the texts of an explore's filters and of those of its aggregate tables
abbrev IsReadExplore : DeclaredExplore → Type 0
IsReadExplore x = AllByRecursion HasKinds x.filters × AllByRecursion (λ (r : AggregateTable). AllByRecursion IsOfKinds r.filters) x.rollups

rollups_read : (items : List Item) (tables : List AggregateTable) → AreRollups items tables → AllByRecursion (λ r. AllByRecursion IsOfKinds r.filters) tables
rollups_read [] [] h = tt
rollups_read [] (table ∷ tables) h = absurd h
rollups_read (item ∷ items) [] h = absurd h
rollups_read (item ∷ items) (table ∷ tables) h =
    (filters_of_kinds (filters_at (block_at (codes "query") (block_items item))) table.filters h.0.filters_are, rollups_read items tables h.1)

explores_read : (objects : List Object) (explores : List DeclaredExplore) → AreExplores objects explores → AllByRecursion IsReadExplore explores
explores_read [] [] h = tt
explores_read [] (x ∷ explores) h = absurd h
explores_read (o ∷ objects) [] h = absurd h
explores_read (o ∷ objects) (x ∷ explores) h = (
  (kinds_of_filters o.name (filter is_filter (items_of o.tree)) x.filters h.0.filters_are, rollups_read (rollups_in (items_of o.tree)) x.rollups h.0.rollups_are),
  explores_read objects explores h.1,
)

-- the texts of the filters of a derived table
abbrev HasReadRows : Rows → Type 0
HasReadRows (rows.Stored number) = Unit {0}
HasReadRows (rows.Derived table) = AllByRecursion IsOfKinds table.filters

rows_read : (schema : Schema) (name : List ℕ) (items : List Item) (from : Rows) → AreRows schema name items from → HasReadRows from
rows_read schema name items (rows.Stored number) h = tt
rows_read schema name items (rows.Derived table) h = of_item (last_named (codes "derived_table") items) refl
  where
    no_stored : (o : Option ℕ) → rows.Derived table ≡ rows.Stored o → ⊥
    no_stored o e = cc

    of_item : (o : Option Item) → last_named (codes "derived_table") items ≡ o → AllByRecursion IsOfKinds table.filters
    of_item None at = absurd (no_stored _ (rw at at h))
    of_item (Some item) at =
        let is : IsDerived (block_items item) table = rw at at h in
        filters_of_kinds (filters_at (source_items (block_items item))) table.filters is.filters_are

tables_read : (schema : Schema) (objects : List Object) (views : List DeclaredView) → AreViews schema objects views → AllByRecursion (λ v. HasReadRows v.rows) views
tables_read schema [] [] h = tt
tables_read schema [] (v ∷ views) h = absurd h
tables_read schema (o ∷ objects) [] h = absurd h
tables_read schema (o ∷ objects) (v ∷ views) h = (rows_read schema o.name (items_of o.tree) v.rows h.0.rows_are, tables_read schema objects views h.1)

-- ---- a model

module _ (schema : Schema) (declared : Declared) (kinds : ViewKinds) (once : AllByRecursion (λ v. AreApart (names_made v.fields)) declared.views) (read : AllByRecursion FieldsOfKinds declared.views) where
  abbrev model : Model
  model = model_of schema declared kinds

  abbrev made : DeclaredExplore → Explore
  made x = resolved schema declared kinds x

  -- an explore whose views have names of their own, and whose raw times are times
  abbrev IsPlain : DeclaredExplore → Type 0
  IsPlain x = (has_own_names (made x) ≡ true) × (has_raw_times (made x) ≡ true)

  module _ (x : DeclaredExplore) where
    abbrev scope : Scope
    scope = scope_of declared.views x

    abbrev columns : ColumnKinds
    columns = columns_in kinds scope

    explore_typed : IsReadExplore x → IsPlain x → has_typed_filters (made x) ≡ true
    unfolding resolved
    explore_typed is h =
        filters_typed schema declared.views scope columns (names_apart schema declared kinds x h.0) (names_plain schema declared kinds x h.0) (parts_apart declared.views once scope) h.1
        (λ place field at. placed_field (λ f. AllByRecursion IsOfKinds f.filters) declared.views read scope place field at)
        (datagroup_number (names_of declared.datagroups)) x is.0 is.1

    table_typed : (table : DerivedTable) → AllByRecursion IsOfKinds table.filters → IsPlain x
        → are_filters_of (made x) (filters_named declared.views scope (dimensions declared.views scope) table.filters) ≡ true
    unfolding resolved
    table_typed table is h =
        source_typed schema declared.views scope columns (names_apart schema declared kinds x h.0) (names_plain schema declared kinds x h.0) (parts_apart declared.views once scope) h.1
        (λ place field at. placed_field (λ f. AllByRecursion IsOfKinds f.filters) declared.views read scope place field at)
        (datagroup_number (names_of declared.datagroups)) x table.filters is

  module _ (plain : AllByRecursion IsPlain declared.explores) where
    explores_typed : AllByRecursion IsReadExplore declared.explores → Every has_typed_filters model.explores
    explores_typed h =
        all_every (λ y. has_typed_filters y ≡ true) has_typed_filters (λ y is. is) model.explores
        (all_map (λ y. has_typed_filters y ≡ true) (λ x. IsReadExplore x × IsPlain x) made (λ x is. explore_typed x is.0 is.1) declared.explores
        (all_with IsReadExplore IsPlain declared.explores h plain))

    over_source : (name : List ℕ) (table : DerivedTable) → IsKnownSource declared table → AllByRecursion IsOfKinds table.filters
        → has_typed_sources model (derived_in declared name table (source_scope declared.views (source_named declared.explores table.explore))) ≡ true
    over_source name table known is =
        let from = scope_of declared.views known.source in
        let at = source_at schema declared kinds table known in
        subst (λ s. has_typed_sources model (derived_in declared name table s) ≡ true) (sym (scope_is schema declared kinds table known))
        (subst (λ y. are_filters_of y (filters_named declared.views from (dimensions declared.views from) table.filters) ≡ true) (sym (source_explore schema declared kinds table known))
        (table_typed known.source table is (all_at IsPlain declared.explores plain at.0 known.source at.2)))

    rows_typed : (name : List ℕ) (from : Rows) → HaveKnownSource declared from → HasReadRows from → AllByRecursion (λ d. has_typed_sources model d ≡ true) (derived_with declared name from)
    rows_typed name (rows.Stored number) known is = tt
    rows_typed name (rows.Derived table) known is = (over_source name table known is, tt)

    tables_typed : AllByRecursion (IsRightView schema declared) declared.views → AllByRecursion (λ v. HasReadRows v.rows) declared.views → Every (has_typed_sources model) model.derived
    tables_typed right is =
        all_every (λ d. has_typed_sources model d ≡ true) (has_typed_sources model) (λ d h. h) model.derived
        (all_flat (λ d. has_typed_sources model d ≡ true) (λ (v : DeclaredView). IsRightView schema declared v × HasReadRows v.rows) (derived_of declared)
        (λ v h. rows_typed v.name v.rows h.0.source h.1) declared.views
        (all_with (IsRightView schema declared) (λ v. HasReadRows v.rows) declared.views right is))

-- ---- the model that a project resolves to

module _ (schema : Schema) (merged : Merged) (model : Model) (h : HasModel schema merged (Ok model))
    (own : list_all has_own_names model.explores ≡ true) (times : list_all has_raw_times model.explores ≡ true) where
  abbrev given : ViewKinds
  given = kinds_of schema h.declared

  once_made : AllByRecursion (λ v. AreApart (names_made v.fields)) h.declared.views
  once_made = all_once schema h.declared given (clear schema merged h.declared h.objects h.is_model.fault)

  read_made : AllByRecursion FieldsOfKinds h.declared.views
  read_made = kinds_of_views schema merged.views h.declared.views h.objects.views_are

  plain_made : AllByRecursion (IsPlain schema h.declared given once_made read_made) h.declared.explores
  plain_made =
      all_with (λ x. has_own_names (resolved schema h.declared given x) ≡ true) (λ x. has_raw_times (resolved schema h.declared given x) ≡ true) h.declared.explores
      (every_map has_own_names (resolved schema h.declared given) h.declared.explores (subst (λ (m : Model). list_all has_own_names m.explores ≡ true) h.is_model.ok own))
      (every_map has_raw_times (resolved schema h.declared given) h.declared.explores (subst (λ (m : Model). list_all has_raw_times m.explores ≡ true) h.is_model.ok times))

  pub have_typed_filters : list_all has_typed_filters model.explores ≡ true
  have_typed_filters =
      subst (λ (m : Model). list_all has_typed_filters m.explores ≡ true) (sym h.is_model.ok)
      (explores_typed schema h.declared given once_made read_made plain_made (explores_read merged.explores h.declared.explores h.objects.explores_are))

  pub have_typed_sources : list_all (has_typed_sources model) model.derived ≡ true
  have_typed_sources =
      subst (λ m. list_all (has_typed_sources m) m.derived ≡ true) (sym h.is_model.ok)
      (tables_typed schema h.declared given once_made read_made plain_made (views_right schema merged h.declared h.objects h.is_model.fault) (tables_read schema merged.views h.declared.views h.objects.views_are))

module _ (schema : Schema) (merged : Merged) (model : Model) (h : HasModel schema merged (Ok model)) where
  -- where each field has the code that its type takes, each raw time is a day or a moment
  pub have_times : HavePlainTables model h.declared → AllByRecursion (λ v. AllByRecursion HasCode v.fields) h.declared.views → list_all has_raw_times model.explores ≡ true
  have_times tables coded =
      every_more (λ x. list_all (is_typed_field (leaves_of model x)) x.fields) has_raw_times
      (λ x is. every_more (is_typed_field (leaves_of model x)) is_time_if_raw (typed_time (leaves_of model x)) x.fields is) model.explores
      (have_coded_dimensions schema merged model h tables coded)
