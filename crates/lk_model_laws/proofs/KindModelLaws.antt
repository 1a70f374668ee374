-- The conditions and the fields of a model have the kinds of their places.
use Rattle.std.proofs.Common.{◌≡◌, ℕ, true, false, ◌||◌, List, [], ◌∷◌, length, sym, subst, Some, None}
use Rattle.std.specs.Prelude.{Ok, slice_get}
use Rattle.std.specs.List.{AllByRecursion, filter, list_all}
use Rattle.lk_read.specs.declared.tree.Item.{Item}
use Rattle.lk_types.specs.declared.explore.Explore.{Explore}
use Rattle.lk_types.specs.declared.model.Model.{Model}
use Rattle.lk_types.specs.declared.schema.Kind.TheVariants as kind
use Rattle.lk_types.specs.declared.schema.Schema.{Schema}
use Rattle.lk_params.specs.Parameters.{items_of}
use Rattle.lk_params.specs.Values as values
use Rattle.lk_merge.specs.declared.project.Merged.{Merged}
use Rattle.lk_merge.specs.declared.project.Object.{Object}
use Rattle.lk_objects.specs.declared.explore.DeclaredExplore.{DeclaredExplore}
use Rattle.lk_objects.specs.declared.explore.ExploreFilter.{ExploreFilter}
use Rattle.lk_objects.specs.declared.explore.ExploreFilter.TheVariants as explore_filter
use Rattle.lk_objects.specs.declared.view.Declared.{Declared}
use Rattle.lk_fields.specs.declared.scope.Scope.{Scope}
use Rattle.lk_fields.specs.declared.scope.ScopePart.{ScopePart}
use Rattle.lk_formulas.specs.declared.columns.ColumnKinds.{ColumnKinds}
use Rattle.lk_scope.specs.Scopes.{scope_of}
use Rattle.lk_semantics.specs.Reading.{leaves_of}
use Rattle.lk_semantics.specs.Resolved.{has_typed_key, is_none_or_typed, is_typed_field, is_typed_measure, names_numbers}
use Rattle.lk_explore.specs.ExploreFilters.{AreExploreFilters, is_filter}
use Rattle.lk_resolve.specs.Objects.{AreExplores, HasObjects}
use Rattle.lk_resolve.specs.Resolving.{HasModel, first_fault}
use Rattle.lk_resolved.specs.Explores.{datagroup_number}
use Rattle.lk_model.specs.Models.{model_of, names_of, resolved}
use Rattle.lk_model.specs.ViewKinds.{columns_in, kinds_of}
use Rattle.lk_model_laws.specs.Tables.{HavePlainTables}
use Rattle.lk_model_laws.specs.Typed.{is_open, is_raw}
use Rattle.lk_model_laws.proofs.ColumnLaws.{columns_have}
use Rattle.lk_model_laws.proofs.DatedCodeLaws.{HasDatedCodes, code_dated, dated_codes}
use Rattle.lk_model_laws.proofs.ExploreObjectLaws.{IsRightExplore, right_explores}
use Rattle.lk_model_laws.proofs.ExtremeTypedLaws.{HasCode, all_typed}
use Rattle.lk_model_laws.proofs.FaultlessLaws.{IsClear}
use Rattle.lk_model_laws.proofs.FieldTypedLaws.{fields_typed}
use Rattle.lk_model_laws.proofs.KeyTypedLaws.{keys_typed}
use Rattle.lk_model_laws.proofs.KnownKindLaws.{IsSettledPart, column_known, same_kinds}
use Rattle.lk_model_laws.proofs.ListLaws.{all_every, all_map, all_with}
use Rattle.lk_model_laws.proofs.MeasureTypedLaws.{measures_typed}
use Rattle.lk_model_laws.proofs.ModelLaws.{clear, codes_right}
use Rattle.lk_model_laws.proofs.NamesTypedLaws.{all_names_numbers}
use Rattle.lk_model_laws.proofs.RawTypedLaws.{all_fields_typed}
use Rattle.lk_model_laws.proofs.SettledModelLaws.{settled_part}
use Rattle.lk_model_laws.proofs.SortedCodeLaws.{HasSortedCode, sorted_codes}
use Rattle.lk_model_laws.proofs.TierLaws.{HasBounds, bounded_views, fields_fine}
use Rattle.lk_model_laws.proofs.TypedLaws.{IsDatedFilter, where_typed}
use Rattle.lk_model_laws.proofs.ViewObjectLaws.{AreRightCodes}
use Rattle.lk_model_laws.proofs.WholeExploreLaws.{placed_field}

-- ---- filters of explores

filters_dated : (explore : List ℕ) (items : List Item) (filters : List ExploreFilter) → AreExploreFilters explore items filters → AllByRecursion IsDatedFilter filters
filters_dated explore [] [] h = tt
filters_dated explore [] (f ∷ filters) h = absurd h
filters_dated explore (item ∷ items) [] h = absurd h
filters_dated explore (item ∷ items) (explore_filter.Where c fault ∷ filters) h = (code_dated false (values.code item.value) c h.0.1, filters_dated explore items filters h.1)
filters_dated explore (item ∷ items) (explore_filter.Always f ∷ filters) h = (tt, filters_dated explore items filters h.1)
filters_dated explore (item ∷ items) (explore_filter.Access f ∷ filters) h = (tt, filters_dated explore items filters h.1)

explores_dated : (objects : List Object) (explores : List DeclaredExplore) → AreExplores objects explores → AllByRecursion (λ x. AllByRecursion IsDatedFilter x.filters) explores
explores_dated [] [] h = tt
explores_dated [] (x ∷ explores) h = absurd h
explores_dated (o ∷ objects) [] h = absurd h
explores_dated (o ∷ objects) (x ∷ explores) h = (filters_dated o.name (filter is_filter (items_of o.tree)) x.filters h.0.filters_are, explores_dated objects explores h.1)

-- ---- a project

module _ (schema : Schema) (merged : Merged) (declared : Declared) (objects : HasObjects schema merged declared) (none : first_fault schema merged declared ≡ None) where
  abbrev given : Model
  given = model_of schema declared (kinds_of schema declared)

  abbrev made : DeclaredExplore → Explore
  made x = resolved schema declared (kinds_of schema declared) x

  pub codes : AllByRecursion (λ v. AllByRecursion HasDatedCodes v.fields) declared.views
  codes = dated_codes schema merged.views declared.views objects.views_are

  sorted : AllByRecursion (λ v. AllByRecursion HasSortedCode v.fields) declared.views
  sorted = sorted_codes schema merged.views declared.views objects.views_are

  bounds : AllByRecursion (λ v. AllByRecursion HasBounds v.fields) declared.views
  bounds = bounded_views schema merged.views declared.views objects.views_are (fields_fine schema declared (kinds_of schema declared) (clear schema merged declared objects none))

  abbrev pub IsFine : DeclaredExplore → Type 0
  IsFine x = IsClear schema declared (kinds_of schema declared) x × (IsRightExplore declared.datagroups x × AllByRecursion IsDatedFilter x.filters)

  pub fine : AllByRecursion IsFine declared.explores
  fine =
      let clear_ones = (clear schema merged declared objects none).explores in
      all_with (IsClear schema declared (kinds_of schema declared)) (λ x. IsRightExplore declared.datagroups x × AllByRecursion IsDatedFilter x.filters) declared.explores clear_ones
      (all_with (IsRightExplore declared.datagroups) (λ x. AllByRecursion IsDatedFilter x.filters) declared.explores
      (right_explores schema declared (kinds_of schema declared) merged.explores declared.explores objects.explores_are clear_ones) (explores_dated merged.explores declared.explores objects.explores_are))

  module _ (tables : HavePlainTables given declared) where
    module _ (x : DeclaredExplore) (is : IsFine x) where
      abbrev scope : Scope
      scope = scope_of declared.views x

      abbrev columns : ColumnKinds
      columns = columns_in (kinds_of schema declared) scope

      pub part_settled : (k : ℕ) (part : ScopePart) → slice_get scope.parts k ≡ Some part → IsSettledPart schema declared given (length declared.views) part
      part_settled = settled_part schema merged declared objects none tables x (is.0, is.1.0)

      where_made : is_none_or_typed (leaves_of given (made x)) kind.Truth (made x).always_where ≡ true
      unfolding resolved
      where_made =
          where_typed schema declared.views scope columns (leaves_of given (made x)) (column_known schema declared given scope part_settled)
          (same_kinds schema declared given scope part_settled (datagroup_number (names_of declared.datagroups)) x) codes x.name x.filters is.1.1 is.0.filter_conditions

      fields_made : list_all (λ f. is_raw f.shape || is_typed_field (leaves_of given (made x)) f) (made x).fields ≡ true
      unfolding resolved
      fields_made =
          fields_typed schema declared.views scope columns (leaves_of given (made x)) (column_known schema declared given scope part_settled)
          (same_kinds schema declared given scope part_settled (datagroup_number (names_of declared.datagroups)) x) codes bounds is.0.fields

      keys_made : list_all (has_typed_key (leaves_of given (made x))) (made x).parts ≡ true
      unfolding resolved
      keys_made =
          keys_typed schema declared.views scope columns (leaves_of given (made x)) (column_known schema declared given scope part_settled)
          (same_kinds schema declared given scope part_settled (datagroup_number (names_of declared.datagroups)) x) codes sorted is.0.fields 0 scope.parts

      measures_made : list_all (λ n. is_open n.op || is_typed_measure (leaves_of given (made x)) n) (made x).measures ≡ true
      unfolding resolved
      measures_made =
          measures_typed schema declared.views scope columns (leaves_of given (made x)) (column_known schema declared given scope part_settled)
          (same_kinds schema declared given scope part_settled (datagroup_number (names_of declared.datagroups)) x) codes sorted is.0.fields

      coded_made : AllByRecursion (λ v. AllByRecursion HasCode v.fields) declared.views → list_all (is_typed_measure (leaves_of given (made x))) (made x).measures ≡ true
      unfolding resolved
      coded_made coded =
          all_typed schema declared.views scope columns (leaves_of given (made x)) (column_known schema declared given scope part_settled)
          (same_kinds schema declared given scope part_settled (datagroup_number (names_of declared.datagroups)) x) codes sorted
          (columns_have schema declared (kinds_of schema declared) (clear schema merged declared objects none)) coded is.0.fields

      dimensions_made : AllByRecursion (λ v. AllByRecursion HasCode v.fields) declared.views → list_all (is_typed_field (leaves_of given (made x))) (made x).fields ≡ true
      unfolding resolved
      dimensions_made coded =
          all_fields_typed schema declared.views scope columns (leaves_of given (made x)) (column_known schema declared given scope part_settled)
          (same_kinds schema declared given scope part_settled (datagroup_number (names_of declared.datagroups)) x) codes sorted bounds
          (columns_have schema declared (kinds_of schema declared) (clear schema merged declared objects none)) coded is.0.fields

      names_made : list_all (names_numbers (made x)) (made x).measures ≡ true
      unfolding resolved
      names_made =
          all_names_numbers schema declared.views scope columns (leaves_of given (made x)) (column_known schema declared given scope part_settled)
          (same_kinds schema declared given scope part_settled (datagroup_number (names_of declared.datagroups)) x) codes sorted is.0.fields (datagroup_number (names_of declared.datagroups)) x
          (λ place field at. (placed_field AreRightCodes declared.views (codes_right schema merged declared objects none) scope place field at).0.1)

    pub wheres : AllByRecursion (λ x. is_none_or_typed (leaves_of given x) kind.Truth x.always_where ≡ true) given.explores
    wheres = all_map (λ x. is_none_or_typed (leaves_of given x) kind.Truth x.always_where ≡ true) IsFine made where_made declared.explores fine

    pub all_keys : AllByRecursion (λ x. list_all (has_typed_key (leaves_of given x)) x.parts ≡ true) given.explores
    all_keys = all_map (λ x. list_all (has_typed_key (leaves_of given x)) x.parts ≡ true) IsFine made keys_made declared.explores fine

    pub all_measures : AllByRecursion (λ x. list_all (λ n. is_open n.op || is_typed_measure (leaves_of given x) n) x.measures ≡ true) given.explores
    all_measures = all_map (λ x. list_all (λ n. is_open n.op || is_typed_measure (leaves_of given x) n) x.measures ≡ true) IsFine made measures_made declared.explores fine

    pub all_coded : AllByRecursion (λ v. AllByRecursion HasCode v.fields) declared.views → AllByRecursion (λ x. list_all (is_typed_measure (leaves_of given x)) x.measures ≡ true) given.explores
    all_coded coded = all_map (λ x. list_all (is_typed_measure (leaves_of given x)) x.measures ≡ true) IsFine made (λ x is. coded_made x is coded) declared.explores fine

    pub all_dimensions : AllByRecursion (λ v. AllByRecursion HasCode v.fields) declared.views → AllByRecursion (λ x. list_all (is_typed_field (leaves_of given x)) x.fields ≡ true) given.explores
    all_dimensions coded = all_map (λ x. list_all (is_typed_field (leaves_of given x)) x.fields ≡ true) IsFine made (λ x is. dimensions_made x is coded) declared.explores fine

    pub all_names : AllByRecursion (λ x. list_all (names_numbers x) x.measures ≡ true) given.explores
    all_names = all_map (λ x. list_all (names_numbers x) x.measures ≡ true) IsFine made names_made declared.explores fine

    pub all_fields : AllByRecursion (λ x. list_all (λ f. is_raw f.shape || is_typed_field (leaves_of given x) f) x.fields ≡ true) given.explores
    all_fields = all_map (λ x. list_all (λ f. is_raw f.shape || is_typed_field (leaves_of given x) f) x.fields ≡ true) IsFine made fields_made declared.explores fine

-- ---- the model that a project resolves to

module _ (schema : Schema) (merged : Merged) (model : Model) (h : HasModel schema merged (Ok model)) (tables : HavePlainTables model h.declared) where
  abbrev given_model : Model
  given_model = model_of schema h.declared (kinds_of schema h.declared)

  given_tables : HavePlainTables given_model h.declared
  given_tables = subst (λ m. HavePlainTables m h.declared) h.is_model.ok tables

  pub have_truths : list_all (λ x. is_none_or_typed (leaves_of model x) kind.Truth x.always_where) model.explores ≡ true
  have_truths =
      subst (λ m. list_all (λ x. is_none_or_typed (leaves_of m x) kind.Truth x.always_where) m.explores ≡ true) (sym h.is_model.ok)
      (all_every (λ (x : Explore). is_none_or_typed (leaves_of given_model x) kind.Truth x.always_where ≡ true) (λ x. is_none_or_typed (leaves_of given_model x) kind.Truth x.always_where) (λ x is. is) given_model.explores
      (wheres schema merged h.declared h.objects h.is_model.fault given_tables))

  pub have_typed_fields : list_all (λ x. list_all (λ f. is_raw f.shape || is_typed_field (leaves_of model x) f) x.fields) model.explores ≡ true
  have_typed_fields =
      subst (λ m. list_all (λ x. list_all (λ f. is_raw f.shape || is_typed_field (leaves_of m x) f) x.fields) m.explores ≡ true) (sym h.is_model.ok)
      (all_every (λ (x : Explore). list_all (λ f. is_raw f.shape || is_typed_field (leaves_of given_model x) f) x.fields ≡ true) (λ x. list_all (λ f. is_raw f.shape || is_typed_field (leaves_of given_model x) f) x.fields) (λ x is. is) given_model.explores
      (all_fields schema merged h.declared h.objects h.is_model.fault given_tables))

  pub have_typed_keys : list_all (λ x. list_all (has_typed_key (leaves_of model x)) x.parts) model.explores ≡ true
  have_typed_keys =
      subst (λ m. list_all (λ x. list_all (has_typed_key (leaves_of m x)) x.parts) m.explores ≡ true) (sym h.is_model.ok)
      (all_every (λ (x : Explore). list_all (has_typed_key (leaves_of given_model x)) x.parts ≡ true) (λ x. list_all (has_typed_key (leaves_of given_model x)) x.parts) (λ x is. is) given_model.explores
      (all_keys schema merged h.declared h.objects h.is_model.fault given_tables))

  pub have_typed_measures : list_all (λ x. list_all (λ n. is_open n.op || is_typed_measure (leaves_of model x) n) x.measures) model.explores ≡ true
  have_typed_measures =
      subst (λ m. list_all (λ x. list_all (λ n. is_open n.op || is_typed_measure (leaves_of m x) n) x.measures) m.explores ≡ true) (sym h.is_model.ok)
      (all_every (λ (x : Explore). list_all (λ n. is_open n.op || is_typed_measure (leaves_of given_model x) n) x.measures ≡ true) (λ x. list_all (λ n. is_open n.op || is_typed_measure (leaves_of given_model x) n) x.measures) (λ x is. is) given_model.explores
      (all_measures schema merged h.declared h.objects h.is_model.fault given_tables))

  pub have_number_names : list_all (λ x. list_all (names_numbers x) x.measures) model.explores ≡ true
  have_number_names =
      subst (λ (m : Model). list_all (λ x. list_all (names_numbers x) x.measures) m.explores ≡ true) (sym h.is_model.ok)
      (all_every (λ (x : Explore). list_all (names_numbers x) x.measures ≡ true) (λ x. list_all (names_numbers x) x.measures) (λ x is. is) given_model.explores
      (all_names schema merged h.declared h.objects h.is_model.fault given_tables))

  pub have_coded_measures : AllByRecursion (λ v. AllByRecursion HasCode v.fields) h.declared.views → list_all (λ x. list_all (is_typed_measure (leaves_of model x)) x.measures) model.explores ≡ true
  have_coded_measures coded =
      subst (λ m. list_all (λ x. list_all (is_typed_measure (leaves_of m x)) x.measures) m.explores ≡ true) (sym h.is_model.ok)
      (all_every (λ (x : Explore). list_all (is_typed_measure (leaves_of given_model x)) x.measures ≡ true) (λ x. list_all (is_typed_measure (leaves_of given_model x)) x.measures) (λ x is. is) given_model.explores
      (all_coded schema merged h.declared h.objects h.is_model.fault given_tables coded))

  pub have_coded_dimensions : AllByRecursion (λ v. AllByRecursion HasCode v.fields) h.declared.views → list_all (λ x. list_all (is_typed_field (leaves_of model x)) x.fields) model.explores ≡ true
  have_coded_dimensions coded =
      subst (λ m. list_all (λ x. list_all (is_typed_field (leaves_of m x)) x.fields) m.explores ≡ true) (sym h.is_model.ok)
      (all_every (λ (x : Explore). list_all (is_typed_field (leaves_of given_model x)) x.fields ≡ true) (λ x. list_all (is_typed_field (leaves_of given_model x)) x.fields) (λ x is. is) given_model.explores
      (all_dimensions schema merged h.declared h.objects h.is_model.fault given_tables coded))
