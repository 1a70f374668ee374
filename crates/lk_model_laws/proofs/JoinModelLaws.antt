-- The conditions of a model's joins are yes or no.
use Rattle.std.proofs.Common.{◌≡◌, true, false, ◌||◌, List, [], ◌∷◌, sym, subst, None}
use Rattle.std.specs.Prelude.{Ok, codes}
use Rattle.std.specs.List.{AllByRecursion, list_all}
use Rattle.lk_read.specs.declared.tree.Item.{Item}
use Rattle.lk_types.specs.declared.explore.Explore.{Explore}
use Rattle.lk_types.specs.declared.model.Model.{Model}
use Rattle.lk_types.specs.declared.schema.Schema.{Schema}
use Rattle.lk_params.specs.Parameters.{items_of}
use Rattle.lk_merge.specs.declared.project.Merged.{Merged}
use Rattle.lk_merge.specs.declared.project.Object.{Object}
use Rattle.lk_objects.specs.declared.explore.DeclaredExplore.{DeclaredExplore}
use Rattle.lk_objects.specs.declared.explore.DeclaredJoin.{DeclaredJoin}
use Rattle.lk_objects.specs.declared.view.Declared.{Declared}
use Rattle.lk_fields.specs.declared.scope.Scope.{Scope}
use Rattle.lk_formulas.specs.declared.columns.ColumnKinds.{ColumnKinds}
use Rattle.lk_scope.specs.Scopes.{scope_of}
use Rattle.lk_semantics.specs.Reading.{leaves_of}
use Rattle.lk_semantics.specs.Resolved.{is_typed_join}
use Rattle.lk_written.specs.Blocks.{block_items}
use Rattle.lk_written.specs.Values as written
use Rattle.lk_explore.specs.Explores.{AreJoins, joins_in}
use Rattle.lk_resolve.specs.Objects.{AreExplores, HasObjects}
use Rattle.lk_resolve.specs.Resolving.{HasModel, first_fault}
use Rattle.lk_resolved.specs.Explores.{datagroup_number}
use Rattle.lk_model.specs.Models.{model_of, names_of, resolved}
use Rattle.lk_model.specs.ViewKinds.{columns_in, kinds_of}
use Rattle.lk_model_laws.specs.Conditions.{has_condition, is_free}
use Rattle.lk_model_laws.specs.Tables.{HavePlainTables}
use Rattle.lk_model_laws.proofs.CodeLaws.{IsRightCode}
use Rattle.lk_model_laws.proofs.DatedCodeLaws.{IsDatedCode, code_dated}
use Rattle.lk_model_laws.proofs.JoinTypedLaws.{joins_typed, whole_joins_typed}
use Rattle.lk_model_laws.proofs.KindModelLaws as kinds
use Rattle.lk_model_laws.proofs.KindModelLaws.{IsFine, fine, part_settled}
use Rattle.lk_model_laws.proofs.KnownKindLaws.{column_known, same_kinds}
use Rattle.lk_model_laws.proofs.ListLaws.{all_every, all_map, all_more, all_with}
use Rattle.lk_model_laws.proofs.PartLaws.{IsGiven}

-- ---- the codes of joins

joins_dated : (items : List Item) (joins : List DeclaredJoin) → AreJoins items joins → AllByRecursion (λ join. IsDatedCode join.on) joins
joins_dated [] [] h = tt
joins_dated [] (join ∷ joins) h = absurd h
joins_dated (item ∷ items) [] h = absurd h
joins_dated (item ∷ items) (join ∷ joins) h = (code_dated false (written.code_at (codes "sql_on") (block_items item)) join.on h.0.on_is, joins_dated items joins h.1)

abbrev AreDatedJoins : DeclaredExplore → Type 0
AreDatedJoins x = AllByRecursion (λ (join : DeclaredJoin). IsDatedCode join.on) x.joins

explores_dated : (objects : List Object) (explores : List DeclaredExplore) → AreExplores objects explores → AllByRecursion AreDatedJoins explores
explores_dated [] [] h = tt
explores_dated [] (x ∷ explores) h = absurd h
explores_dated (o ∷ objects) [] h = absurd h
explores_dated (o ∷ objects) (x ∷ explores) h = (joins_dated (joins_in (items_of o.tree)) x.joins h.0.joins_are, explores_dated objects explores h.1)

-- ---- a project

module _ (schema : Schema) (merged : Merged) (declared : Declared) (objects : HasObjects schema merged declared) (none : first_fault schema merged declared ≡ None) where
  abbrev given : Model
  given = model_of schema declared (kinds_of schema declared)

  abbrev made : DeclaredExplore → Explore
  made x = resolved schema declared (kinds_of schema declared) x

  abbrev IsReady : DeclaredExplore → Type 0
  IsReady x = IsFine schema merged declared objects none x × AreDatedJoins x

  ready : AllByRecursion IsReady declared.explores
  ready = all_with (IsFine schema merged declared objects none) AreDatedJoins declared.explores (fine schema merged declared objects none) (explores_dated merged.explores declared.explores objects.explores_are)

  -- each of them has a condition, if it is no cross
  abbrev HasConditions : DeclaredExplore → Type 0
  HasConditions x = AllByRecursion (λ (join : DeclaredJoin). has_condition join ≡ true) x.joins

  module _ (tables : HavePlainTables given declared) where
    module _ (x : DeclaredExplore) (is : IsReady x) where
      abbrev scope : Scope
      scope = scope_of declared.views x

      abbrev columns : ColumnKinds
      columns = columns_in (kinds_of schema declared) scope

      given_joins : AllByRecursion (λ (join : DeclaredJoin). IsGiven join.view × IsDatedCode join.on) x.joins
      given_joins =
          all_with (λ (join : DeclaredJoin). IsGiven join.view) (λ join. IsDatedCode join.on) x.joins
          (all_more (λ (join : DeclaredJoin). IsGiven join.view × IsRightCode join.on) (λ join. IsGiven join.view) (λ join h. h.0) x.joins is.0.1.0.joins_are) is.1

      joins_made : list_all (λ j. is_free j || is_typed_join (leaves_of given (made x)) j) (made x).joins ≡ true
      unfolding resolved
      joins_made =
          joins_typed schema declared.views scope columns (leaves_of given (made x)) (column_known schema declared given scope (part_settled schema merged declared objects none tables x is.0))
          (same_kinds schema declared given scope (part_settled schema merged declared objects none tables x is.0) (datagroup_number (names_of declared.datagroups)) x)
          (kinds.codes schema merged declared objects none) is.0.0.fields x.joins 1 x.joins given_joins is.0.0.joins is.0.0.join_conditions

      whole_made : HasConditions x → list_all (is_typed_join (leaves_of given (made x))) (made x).joins ≡ true
      unfolding resolved
      whole_made has =
          whole_joins_typed schema declared.views scope columns (leaves_of given (made x)) (column_known schema declared given scope (part_settled schema merged declared objects none tables x is.0))
          (same_kinds schema declared given scope (part_settled schema merged declared objects none tables x is.0) (datagroup_number (names_of declared.datagroups)) x)
          (kinds.codes schema merged declared objects none) is.0.0.fields x.joins 1 x.joins given_joins has is.0.0.joins is.0.0.join_conditions

    all_joins : AllByRecursion (λ x. list_all (λ j. is_free j || is_typed_join (leaves_of given x) j) x.joins ≡ true) given.explores
    all_joins = all_map (λ x. list_all (λ j. is_free j || is_typed_join (leaves_of given x) j) x.joins ≡ true) IsReady made joins_made declared.explores ready

    all_whole : AllByRecursion HasConditions declared.explores → AllByRecursion (λ x. list_all (is_typed_join (leaves_of given x)) x.joins ≡ true) given.explores
    all_whole has =
        all_map (λ x. list_all (is_typed_join (leaves_of given x)) x.joins ≡ true) (λ x. IsReady x × HasConditions x) made (λ x is. whole_made x is.0 is.1) declared.explores
        (all_with IsReady HasConditions declared.explores ready has)

-- ---- the model that a project resolves to

module _ (schema : Schema) (merged : Merged) (model : Model) (h : HasModel schema merged (Ok model)) (tables : HavePlainTables model h.declared) where
  abbrev given_model : Model
  given_model = model_of schema h.declared (kinds_of schema h.declared)

  given_tables : HavePlainTables given_model h.declared
  given_tables = subst (λ m. HavePlainTables m h.declared) h.is_model.ok tables

  pub have_typed_joins : list_all (λ x. list_all (λ j. is_free j || is_typed_join (leaves_of model x) j) x.joins) model.explores ≡ true
  have_typed_joins =
      subst (λ m. list_all (λ x. list_all (λ j. is_free j || is_typed_join (leaves_of m x) j) x.joins) m.explores ≡ true) (sym h.is_model.ok)
      (all_every (λ (x : Explore). list_all (λ j. is_free j || is_typed_join (leaves_of given_model x) j) x.joins ≡ true) (λ x. list_all (λ j. is_free j || is_typed_join (leaves_of given_model x) j) x.joins) (λ x is. is) given_model.explores
      (all_joins schema merged h.declared h.objects h.is_model.fault given_tables))

  pub have_whole_joins : AllByRecursion (λ x. AllByRecursion (λ join. has_condition join ≡ true) x.joins) h.declared.explores → list_all (λ x. list_all (is_typed_join (leaves_of model x)) x.joins) model.explores ≡ true
  have_whole_joins has =
      subst (λ m. list_all (λ x. list_all (is_typed_join (leaves_of m x)) x.joins) m.explores ≡ true) (sym h.is_model.ok)
      (all_every (λ (x : Explore). list_all (is_typed_join (leaves_of given_model x)) x.joins ≡ true) (λ x. list_all (is_typed_join (leaves_of given_model x)) x.joins) (λ x is. is) given_model.explores
      (all_whole schema merged h.declared h.objects h.is_model.fault given_tables has))
