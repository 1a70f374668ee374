-- The model of a project without a fault, conjunct by conjunct.
use Rattle.std.proofs.Common.{◌≡◌, ◌<◌, ℕ, true, ◌&&◌, List, [], ◌∷◌, map, length, sym, subst, Some, None}
use Rattle.std.specs.Prelude.{Ok, nat_le, not, slice_get}
use Rattle.std.specs.List.{AllByRecursion, list_all}
use Rattle.lk_types.specs.declared.explore.Explore.{Explore}
use Rattle.lk_types.specs.declared.explore.Field.{Field}
use Rattle.lk_types.specs.declared.model.Model.{Model}
use Rattle.lk_types.specs.declared.schema.Schema.{Schema}
use Rattle.lk_merge.specs.declared.project.Merged.{Merged}
use Rattle.lk_merge.specs.declared.project.Object.{Object}
use Rattle.lk_params.specs.Parameters.{items_of}
use Rattle.lk_objects.specs.declared.explore.AggregateTable.{AggregateTable}
use Rattle.lk_objects.specs.declared.explore.DeclaredExplore.{DeclaredExplore}
use Rattle.lk_objects.specs.declared.explore.DeclaredJoin.{DeclaredJoin}
use Rattle.lk_objects.specs.declared.explore.ExploreFilter.{ExploreFilter}
use Rattle.lk_objects.specs.declared.explore.ExploreFilter.TheVariants as explore_filter
use Rattle.lk_objects.specs.declared.view.Declared.{Declared}
use Rattle.lk_fields.specs.declared.scope.ScopePart.{ScopePart}
use Rattle.lk_schema.specs.Schemas.{schema_of}
use Rattle.lk_scope.specs.Scopes.{alone, scope_of}
use Rattle.lk_semantics.specs.Joins.{numbers_below}
use Rattle.lk_semantics.specs.Reading.{explore_datagroups, reads_itself}
use Rattle.lk_semantics.specs.Resolved.{HasGroupsOfOnePart, are_one, has_exact_keys, has_grounded_measures, has_part_for_each_join, has_tiers, has_whole_forms, is_numbered, is_numbered_datagroup, is_numbered_derived, is_numbered_explore, may_be_derived}
use Rattle.lk_semantics.proofs.EveryLaws.{Every, both}
use Rattle.lk_stored.specs.StoredFaults.{stored_fault}
use Rattle.lk_model_laws.proofs.StoredLaws.{follows-acyclic, follows-derived, follows-one_datagroup, follows-stored, may_be_kept}
use Rattle.lk_resolved.specs.Explores.{datagroup_number}
use Rattle.lk_model.specs.Counts.{counts_fault}
use Rattle.lk_model.specs.Faults.{fields_line_in, objects_fault}
use Rattle.lk_model.specs.Models.{datagroup_with, model_of, names_of, resolved}
use Rattle.lk_model.specs.ViewKinds.{columns_in, kinds_of}
use Rattle.lk_model.specs.declared.view_kinds.ViewKinds.{ViewKinds}
use Rattle.lk_resolve.specs.Objects.{HasObjects, datagroup_read}
use Rattle.lk_resolve.specs.Resolving.{HasModel, first_fault, later_fault}
use Rattle.lk_model_laws.proofs.CodeLaws.{IsRightCode}
use Rattle.lk_model_laws.proofs.CountLaws.{few, one_more}
use Rattle.lk_model_laws.proofs.CycleLaws.{fields_end}
use Rattle.lk_model_laws.proofs.ExploreObjectLaws.{HasDatagroup, IsRightExplore, IsRightFilter, right_explores}
use Rattle.lk_model_laws.proofs.FaultlessLaws.{IsClear, IsClearProject, clear_project}
use Rattle.lk_model_laws.proofs.GroundedLaws.{grounded}
use Rattle.lk_model_laws.proofs.GroupLaws.{fields_grouped}
use Rattle.lk_model_laws.proofs.KeyLaws.{exact_keys}
use Rattle.lk_model_laws.proofs.ListLaws.{all_every, all_map, all_more, all_with}
use Rattle.lk_model_laws.proofs.ModelNumberLaws.{HaveKnownSource, datagroup_below, origins_numbered, tables_numbered}
use Rattle.lk_model_laws.proofs.NumberLaws.{explore_numbered}
use Rattle.lk_model_laws.proofs.PartLaws.{AreKnownRows, IsGiven, IsKnownPart, parts_known}
use Rattle.lk_model_laws.proofs.PieceLaws.{none_of}
use Rattle.lk_model_laws.proofs.SchemaLaws.{has_key_column, keys_are_columns}
use Rattle.lk_model_laws.proofs.TierLaws.{HasBounds, bounded_views, fields_fine, fields_tiered}
use Rattle.lk_model_laws.proofs.TriggerLaws.{datagroup_numbered}
use Rattle.lk_model_laws.proofs.ViewObjectLaws.{AreRightCodes, IsRightView, right_codes, right_views}
use Rattle.lk_model_laws.proofs.WholeExploreLaws.{IsWholeCode, IsWholeField, IsWholeFilter, explore_whole, placed_field}

-- ---- an explore

module _ (schema : Schema) (declared : Declared) (kinds : ViewKinds) where
  abbrev model : Model
  model = model_of schema declared kinds

  abbrev made : DeclaredExplore → Explore
  made x = resolved schema declared kinds x

  few_made : (x : DeclaredExplore) → IsRightExplore declared.datagroups x → nat_le (length (made x).joins) 31 ≡ true
  unfolding resolved
  few_made x is = few schema declared.views (scope_of declared.views x) (columns_in kinds (scope_of declared.views x)) x.joins x.joins 1 is.few

  parts_made : (x : DeclaredExplore) → has_part_for_each_join (made x) ≡ true
  unfolding resolved
  parts_made x = one_more schema declared.views (columns_in kinds (scope_of declared.views x)) x

  groups_made : (x : DeclaredExplore) → HasGroupsOfOnePart (made x)
  unfolding resolved
  groups_made x = fields_grouped schema declared.views (scope_of declared.views x) (columns_in kinds (scope_of declared.views x))

  whole_made : AllByRecursion (λ v. AllByRecursion AreRightCodes v.fields) declared.views → (x : DeclaredExplore) → IsRightExplore declared.datagroups x → has_whole_forms (made x) ≡ true
  unfolding resolved
  whole_made codes x is =
      explore_whole schema declared.views (scope_of declared.views x) (columns_in kinds (scope_of declared.views x))
      (all_more (λ v. AllByRecursion AreRightCodes v.fields) (λ v. AllByRecursion IsWholeField v.fields)
      (λ v h. all_more AreRightCodes IsWholeField (λ f right. (right.0.0, right.1.0)) v.fields h) declared.views codes)
      (datagroup_number (names_of declared.datagroups)) x (
        all_more (λ (join : DeclaredJoin). IsGiven join.view × IsRightCode join.on) (λ join. IsWholeCode join.on) (λ join h. h.1.0) x.joins is.joins_are,
        all_more IsRightFilter IsWholeFilter whole_filter x.filters is.filters_are,
      )
    where
      whole_filter : (f : ExploreFilter) → IsRightFilter f → IsWholeFilter f
      whole_filter (explore_filter.Where c first) h = h.0
      whole_filter (explore_filter.Always f) h = tt
      whole_filter (explore_filter.Access f) h = tt

  pub known_parts : AllByRecursion (IsRightView schema declared) declared.views → (x : DeclaredExplore) → IsClear schema declared kinds x → IsRightExplore declared.datagroups x
      → (k : ℕ) (part : ScopePart) → slice_get (scope_of declared.views x).parts k ≡ Some part → IsKnownPart schema declared.views part
  known_parts views x clear is =
      parts_known schema declared.views (all_more (IsRightView schema declared) (λ v. AreKnownRows schema v.rows) (λ v h. h.known) declared.views views) x is.base
      (all_more (λ (join : DeclaredJoin). IsGiven join.view × IsRightCode join.on) (λ join. IsGiven join.view) (λ join h. h.0) x.joins is.joins_are) clear.own clear.joins

  keys_made : AllByRecursion (IsRightView schema declared) declared.views → (x : DeclaredExplore) → IsClear schema declared kinds x → IsRightExplore declared.datagroups x → has_exact_keys model (made x) ≡ true
  unfolding resolved
  keys_made views x clear is =
      exact_keys model declared.views (scope_of declared.views x) (columns_in kinds (scope_of declared.views x)) (known_parts views x clear is)

  grounded_made : AllByRecursion (λ v. AllByRecursion AreRightCodes v.fields) declared.views → (x : DeclaredExplore) → IsClear schema declared kinds x → has_grounded_measures (made x) ≡ true
  unfolding resolved
  grounded_made codes x clear =
      let scope = scope_of declared.views x in
      let columns = columns_in kinds scope in
      grounded declared.views scope schema columns (datagroup_number (names_of declared.datagroups)) x
      (λ place field at. (placed_field AreRightCodes declared.views codes scope place field at).0.1)
      (fields_end schema declared.views scope columns clear.fields)

  numbered_made : AllByRecursion (IsRightView schema declared) declared.views → (x : DeclaredExplore) → IsClear schema declared kinds x → IsRightExplore declared.datagroups x → is_numbered_explore model (made x) ≡ true
  unfolding resolved
  numbered_made views x clear is =
      let scope = scope_of declared.views x in
      let columns = columns_in kinds scope in
      explore_numbered schema declared.views scope columns model (datagroup_number (names_of declared.datagroups)) x
      (origins_numbered schema declared kinds scope columns 0 scope.parts (known_parts views x clear is))
      (all_more (HasDatagroup declared.datagroups) (λ (r : AggregateTable). datagroup_number (names_of declared.datagroups) r.datagroup < length model.datagroups)
      (λ r h. subst (λ o. datagroup_number (names_of declared.datagroups) o < length model.datagroups) (sym h.named) (datagroup_below schema declared kinds h.name h.there)) x.rollups is.rollups_are)

  tiers_made : AllByRecursion (λ v. AllByRecursion HasBounds v.fields) declared.views → (x : DeclaredExplore) → list_all (λ (f : Field). has_tiers f.shape) (made x).fields ≡ true
  unfolding resolved
  tiers_made bounded x = fields_tiered schema declared.views (scope_of declared.views x) (columns_in kinds (scope_of declared.views x)) bounded

  datagroups_made : (merged : Merged) → declared.datagroups ≡ map (datagroup_read schema) merged.datagroups → Every (is_numbered_datagroup model) model.datagroups
  datagroups_made merged is =
      subst (λ groups. Every (is_numbered_datagroup model) (map datagroup_with groups)) (sym is)
      (all_every (λ g. is_numbered_datagroup model g ≡ true) (is_numbered_datagroup model) (λ g h. h) (map datagroup_with (map (datagroup_read schema) merged.datagroups)) (each merged.datagroups))
    where
      each : (objects : List Object) → AllByRecursion (λ g. is_numbered_datagroup model g ≡ true) (map datagroup_with (map (datagroup_read schema) objects))
      each [] = tt
      each (o ∷ objects) = (datagroup_numbered model o.name (items_of o.tree), each objects)

-- ---- a project

module _ (schema : Schema) (merged : Merged) (declared : Declared) (objects : HasObjects schema merged declared) (none : first_fault schema merged declared ≡ None) where
  abbrev kinds : ViewKinds
  kinds = kinds_of schema declared

  abbrev given : Model
  given = model_of schema declared kinds

  pub clear : IsClearProject schema declared kinds
  clear =
      let pieces = none_of (merged.stray ∷ counts_fault merged.files schema declared ∷ later_fault schema declared kinds ∷ []) none in
      let later = none_of (objects_fault schema declared kinds ∷ stored_fault given ∷ []) pieces.1.1.0 in
      clear_project schema declared kinds later.0 later.1.0

  pub views_right : AllByRecursion (IsRightView schema declared) declared.views
  views_right = right_views schema declared (λ k v. fields_line_in schema declared kinds (alone k v) ≡ None) 0 merged.views declared.views objects.views_are clear.views

  pub codes_right : AllByRecursion (λ v. AllByRecursion AreRightCodes v.fields) declared.views
  codes_right = right_codes schema merged.views declared.views objects.views_are

  abbrev IsFine : DeclaredExplore → Type 0
  IsFine x = IsClear schema declared kinds x × IsRightExplore declared.datagroups x

  explores_fine : AllByRecursion IsFine declared.explores
  explores_fine =
      all_with (IsClear schema declared kinds) (IsRightExplore declared.datagroups) declared.explores clear.explores (right_explores schema declared kinds merged.explores declared.explores objects.explores_are clear.explores)

  -- what holds of what each fine explore makes holds of the model's
  of_each : (P : Explore → Type 0) → ((x : DeclaredExplore) → IsFine x → P (made schema declared kinds x)) → AllByRecursion P given.explores
  of_each P f = all_map P IsFine (made schema declared kinds) f declared.explores explores_fine

  few_joins : AllByRecursion (λ x. nat_le (length x.joins) 31 ≡ true) given.explores
  few_joins = of_each (λ x. nat_le (length x.joins) 31 ≡ true) (λ x is. few_made schema declared kinds x is.1)

  parts : AllByRecursion (λ x. has_part_for_each_join x ≡ true) given.explores
  parts = of_each (λ x. has_part_for_each_join x ≡ true) (λ x is. parts_made schema declared kinds x)

  whole : AllByRecursion (λ x. has_whole_forms x ≡ true) given.explores
  whole = of_each (λ x. has_whole_forms x ≡ true) (λ x is. whole_made schema declared kinds codes_right x is.1)

  groups : AllByRecursion HasGroupsOfOnePart given.explores
  groups = of_each HasGroupsOfOnePart (λ x is. groups_made schema declared kinds x)

  keys : AllByRecursion (λ x. has_exact_keys given x ≡ true) given.explores
  keys = of_each (λ x. has_exact_keys given x ≡ true) (λ x is. keys_made schema declared kinds views_right x is.0 is.1)

  tiers_are : AllByRecursion (λ x. list_all (λ (f : Field). has_tiers f.shape) x.fields ≡ true) given.explores
  tiers_are =
      of_each (λ x. list_all (λ (f : Field). has_tiers f.shape) x.fields ≡ true)
      (λ x is. tiers_made schema declared kinds (bounded_views schema merged.views declared.views objects.views_are (fields_fine schema declared kinds clear)) x)

  grounded_are : AllByRecursion (λ x. has_grounded_measures x ≡ true) given.explores
  grounded_are = of_each (λ x. has_grounded_measures x ≡ true) (λ x is. grounded_made schema declared kinds codes_right x is.0)

  numbered : (text : List ℕ) → schema_of text ≡ Ok schema → is_numbered given ≡ true
  numbered text read =
      let a = list_all has_key_column schema.tables in
      let b = list_all (is_numbered_explore given) given.explores in
      let c = list_all (is_numbered_derived given) given.derived in
      both (a && b && c) (list_all (is_numbered_datagroup given) given.datagroups)
      (both (a && b) c
      (both a b (keys_are_columns text schema read)
      (all_every (λ x. is_numbered_explore given x ≡ true) (is_numbered_explore given) (λ x h. h) given.explores
      (of_each (λ x. is_numbered_explore given x ≡ true) (λ x is. numbered_made schema declared kinds views_right x is.0 is.1))))
      (tables_numbered schema declared kinds (all_more (IsRightView schema declared) (λ v. HaveKnownSource declared v.rows) (λ v h. h.source) declared.views views_right)))
      (datagroups_made schema declared kinds merged objects.datagroups_are)

  -- ---- what the test of what is stored says

  stored_none : stored_fault given ≡ None
  stored_none = clear.stored

-- ---- the model that a project resolves to

module _ (schema : Schema) (merged : Merged) (model : Model) (h : HasModel schema merged (Ok model)) where
  abbrev given_model : Model
  given_model = model_of schema h.declared (kinds_of schema h.declared)

  abbrev IsOfModel : (Model → Type 0) → Type 0
  IsOfModel P = P given_model → P model

  moved : (P : Model → Type 0) → IsOfModel P
  moved P is = subst P (sym h.is_model.ok) is

  pub have_few_joins : list_all (λ x. nat_le (length x.joins) 31) model.explores ≡ true
  have_few_joins =
      moved (λ m. list_all (λ x. nat_le (length x.joins) 31) m.explores ≡ true)
      (all_every (λ (x : Explore). nat_le (length x.joins) 31 ≡ true) (λ x. nat_le (length x.joins) 31) (λ x is. is) _ (few_joins schema merged h.declared h.objects h.is_model.fault))

  pub have_part_for_each_join : list_all has_part_for_each_join model.explores ≡ true
  have_part_for_each_join =
      moved (λ m. list_all has_part_for_each_join m.explores ≡ true)
      (all_every (λ x. has_part_for_each_join x ≡ true) has_part_for_each_join (λ x is. is) _ (parts schema merged h.declared h.objects h.is_model.fault))

  pub are_whole : list_all has_whole_forms model.explores ≡ true
  are_whole =
      moved (λ m. list_all has_whole_forms m.explores ≡ true)
      (all_every (λ x. has_whole_forms x ≡ true) has_whole_forms (λ x is. is) _ (whole schema merged h.declared h.objects h.is_model.fault))

  pub have_groups : AllByRecursion HasGroupsOfOnePart model.explores
  have_groups = moved (λ m. AllByRecursion HasGroupsOfOnePart m.explores) (groups schema merged h.declared h.objects h.is_model.fault)

  pub have_exact_keys : list_all (has_exact_keys model) model.explores ≡ true
  have_exact_keys =
      moved (λ m. list_all (has_exact_keys m) m.explores ≡ true)
      (all_every (λ x. has_exact_keys given_model x ≡ true) (has_exact_keys given_model) (λ x is. is) given_model.explores (keys schema merged h.declared h.objects h.is_model.fault))

  pub have_grounded_measures : list_all has_grounded_measures model.explores ≡ true
  have_grounded_measures =
      moved (λ m. list_all has_grounded_measures m.explores ≡ true)
      (all_every (λ x. has_grounded_measures x ≡ true) has_grounded_measures (λ x is. is) _ (grounded_are schema merged h.declared h.objects h.is_model.fault))

  pub have_tiers : list_all (λ x. list_all (λ f. has_tiers f.shape) x.fields) model.explores ≡ true
  have_tiers =
      moved (λ m. list_all (λ x. list_all (λ f. has_tiers f.shape) x.fields) m.explores ≡ true)
      (all_every (λ (x : Explore). list_all (λ (f : Field). has_tiers f.shape) x.fields ≡ true) (λ x. list_all (λ f. has_tiers f.shape) x.fields) (λ x is. is) _ (tiers_are schema merged h.declared h.objects h.is_model.fault))

  pub are_numbered : (text : List ℕ) → schema_of text ≡ Ok schema → is_numbered model ≡ true
  are_numbered text read = moved (λ m. is_numbered m ≡ true) (numbered schema merged h.declared h.objects h.is_model.fault text read)

  none_stored : stored_fault model ≡ None
  none_stored = moved (λ m. stored_fault m ≡ None) (stored_none schema merged h.declared h.objects h.is_model.fault)

  pub may_be_stored : list_all may_be_kept model.explores ≡ true
  may_be_stored = follows-stored model none_stored

  pub have_one_datagroup : list_all (λ x. are_one (explore_datagroups model x)) model.explores ≡ true
  have_one_datagroup = follows-one_datagroup model none_stored

  pub are_derived : list_all (may_be_derived model) model.derived ≡ true
  are_derived = follows-derived model none_stored

  pub are_acyclic : list_all (λ d. not (reads_itself model d)) (numbers_below (length model.derived)) ≡ true
  are_acyclic = follows-acyclic model none_stored
