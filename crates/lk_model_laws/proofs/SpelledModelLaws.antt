-- Over objects that texts spell, a project without a fault has the codes, the conditions and the names that laws of its model ask for.
use Rattle.std.proofs.Common.{◌≡◌, ◌∙◌, ℕ, ◌+◌, Bool, true, false, ◌&&◌, List, [], ◌∷◌, map, refl, ap, sym, subst, ⊎_elim, Some, None}
use Rattle.std.specs.Prelude.{Ok, codes, filter, if◌then◌else◌, not}
use Rattle.std.specs.List.{AllByRecursion, fold, list_all, list_any, position_or_len}
use Rattle.std.proofs.lemmas.Bool.{false≢true}
use Rattle.lk_val.specs.Texts.{is_same_text}
use Rattle.lk_val.specs.declared.fault.FaultLine.{FaultLine}
use Rattle.lk_read.specs.Bytes.{is_name}
use Rattle.lk_read.specs.declared.tree.Item.{Item}
use Rattle.lk_types.specs.declared.explore.Explore.{Explore}
use Rattle.lk_types.specs.declared.explore.Part.{Part}
use Rattle.lk_types.specs.declared.model.Model.{Model}
use Rattle.lk_types.specs.declared.schema.Schema.{Schema}
use Rattle.lk_params.specs.Findings.{named_line}
use Rattle.lk_params.specs.Parameters.{items_of}
use Rattle.lk_params.specs.declared.number.Number.TheVariants.{N1}
use Rattle.lk_merge.specs.declared.project.Merged.{Merged}
use Rattle.lk_merge.specs.declared.project.Object.{Object}
use Rattle.lk_objects.specs.declared.explore.DeclaredExplore.{DeclaredExplore}
use Rattle.lk_objects.specs.declared.explore.DeclaredJoin.{DeclaredJoin}
use Rattle.lk_objects.specs.declared.field.DeclaredField.{DeclaredField}
use Rattle.lk_objects.specs.declared.view.Declared.{Declared}
use Rattle.lk_objects.specs.declared.view.DeclaredView.{DeclaredView}
use Rattle.lk_fields.specs.declared.scope.Scope.{Scope}
use Rattle.lk_fields.specs.declared.scope.ScopePart.{ScopePart}
use Rattle.lk_fields.specs.Scopes.{is_dot}
use Rattle.lk_formulas.specs.declared.columns.ColumnKinds.{ColumnKinds}
use Rattle.lk_scope.specs.Scopes.{part_of_join, scope_of}
use Rattle.lk_written.specs.Blocks.{block_items, block_name, is_block_of}
use Rattle.lk_view.specs.FieldOrder.{fields_in, goes_before, is_field, put_in}
use Rattle.lk_view.specs.Views.{AreFields}
use Rattle.lk_explore.specs.Explores.{AreJoins, joins_in}
use Rattle.lk_explore_faults.specs.JoinFaults as joins
use Rattle.lk_explore_faults.specs.JoinFaults.{has_join, join_line, twin_line}
use Rattle.lk_semantics.proofs.EveryLaws.{both, first, second}
use Rattle.lk_resolved.specs.Explores.{parts_from}
use Rattle.lk_model.specs.Models.{model_of, resolved}
use Rattle.lk_model.specs.ViewKinds.{columns_in, kinds_of}
use Rattle.lk_model.specs.declared.view_kinds.ViewKinds.{ViewKinds}
use Rattle.lk_resolve.specs.Objects.{AreExplores, AreViews}
use Rattle.lk_resolve.specs.Resolving.{HasModel}
use Rattle.lk_model_laws.specs.Conditions.{has_condition}
use Rattle.lk_model_laws.specs.Named.{are_distinct, has_own_names}
use Rattle.lk_model_laws.specs.Spelled.{are_spelled, has_own_joins, is_spelled, is_spelled_object}
use Rattle.lk_model_laws.proofs.DimensionLaws.{all_insert}
use Rattle.lk_model_laws.proofs.ExtremeTypedLaws.{HasCode}
use Rattle.lk_model_laws.proofs.FaultlessLaws.{IsClear}
use Rattle.lk_model_laws.proofs.MadeNameLaws.{part_names}
use Rattle.lk_model_laws.proofs.ListLaws.{all_every, all_filter, all_map, all_more}
use Rattle.lk_model_laws.proofs.ModelLaws.{clear}
use Rattle.lk_model_laws.proofs.PieceLaws.{EachFrom, none_lined, some_none}
use Rattle.lk_model_laws.proofs.PlaceLaws.{one_of, or_left, or_right}
use Rattle.lk_model_laws.proofs.SpelledCodeLaws.{field_coded}
use Rattle.lk_model_laws.proofs.SpelledJoinLaws.{join_conditioned}
use Rattle.lk_model_laws.proofs.SpelledLaws.{IsSpelled, block_no_dot, block_spelled, column_no_liquid, items_spelled, no_dot}
use Rattle.lk_model_laws.proofs.TextLaws as text
use Rattle.lk_model_laws.proofs.TierLaws.{IsFine, fields_fine}

-- ---- the codes of fields

module _ (P : Item → Type 0) where
  all_folded : (before items : List Item) → AllByRecursion P before → AllByRecursion P items → AllByRecursion P (fold put_in before items)
  all_folded before [] p q = p
  all_folded before (item ∷ items) p q = all_folded (put_in before item) items (all_insert P before (position_or_len (goes_before item) before) item p q.0) q.1

  -- what holds of all parameters holds of the fields in order
  all_fields : (items : List Item) → AllByRecursion P items → AllByRecursion P (fields_in items)
  all_fields items h = all_folded [] (filter is_field items) tt (all_filter P is_field items h)

fields_coded : (view : List ℕ) (items : List Item) (fields : List DeclaredField) → AreFields view items fields → AllByRecursion IsSpelled items → AllByRecursion IsFine fields → AllByRecursion HasCode fields
fields_coded view [] [] h spelled fine = tt
fields_coded view [] (f ∷ fields) h spelled fine = absurd h
fields_coded view (item ∷ items) [] h spelled fine = absurd h
fields_coded view (item ∷ items) (f ∷ fields) h spelled fine = (
  field_coded view item.name (block_name item) (block_items item) f h.0 fine.0 (block_spelled item spelled.0) (column_no_liquid item spelled.0),
  fields_coded view items fields h.1 spelled.1 fine.1,
)

object_spelled : (o : Object) → is_spelled_object o ≡ true → AllByRecursion IsSpelled (items_of o.tree)
object_spelled o h = items_spelled o.tree (second (is_name o.name) (is_spelled o.tree) h)

views_coded : (schema : Schema) (objects : List Object) (views : List DeclaredView) → AreViews schema objects views → list_all is_spelled_object objects ≡ true
    → AllByRecursion (λ v. AllByRecursion IsFine v.fields) views → AllByRecursion (λ v. AllByRecursion HasCode v.fields) views
views_coded schema [] [] h spelled fine = tt
views_coded schema [] (v ∷ views) h spelled fine = absurd h
views_coded schema (o ∷ objects) [] h spelled fine = absurd h
views_coded schema (o ∷ objects) (v ∷ views) h spelled fine = (
  fields_coded o.name (fields_in (items_of o.tree)) v.fields h.0.fields_are
      (all_fields IsSpelled (items_of o.tree) (object_spelled o (first (is_spelled_object o) (list_all is_spelled_object objects) spelled))) fine.0,
  views_coded schema objects views h.1 (second (is_spelled_object o) (list_all is_spelled_object objects) spelled) fine.1,
)

-- ---- the conditions of joins

module _ (schema : Schema) (views : List DeclaredView) (scope : Scope) where
  joins_conditioned : (all : List DeclaredJoin) (n : ℕ) (items : List Item) (more : List DeclaredJoin) → AreJoins items more → AllByRecursion IsSpelled items
      → EachFrom (λ k join. join_line schema views scope all k join ≡ None) n more → AllByRecursion (λ join. has_condition join ≡ true) more
  joins_conditioned all n [] [] h spelled fine = tt
  joins_conditioned all n [] (join ∷ more) h spelled fine = absurd h
  joins_conditioned all n (item ∷ items) [] h spelled fine = absurd h
  joins_conditioned all n (item ∷ items) (join ∷ more) h spelled fine = (
    join_conditioned (block_name item) (block_items item) (block_spelled item spelled.0) join h.0 (none_lined join.first (joins.join_findings schema views scope all n join) fine.0).0,
    joins_conditioned all (n + 1) items more h.1 spelled.1 fine.1,
  )

-- ---- the names of the views of an explore

join_names : (items : List Item) (all : List DeclaredJoin) → AreJoins items all → map (λ (join : DeclaredJoin). join.name) all ≡ map block_name items
join_names [] [] h = refl
join_names [] (join ∷ all) h = absurd h
join_names (item ∷ items) [] h = absurd h
join_names (item ∷ items) (join ∷ all) h = λ i. h.0.name_is i ∷ join_names items all h.1 i

scope_names : (views : List DeclaredView) (all : List DeclaredJoin) → map (λ (part : ScopePart). part.name) (map (part_of_join views) all) ≡ map (λ (join : DeclaredJoin). join.name) all
scope_names views [] = refl
scope_names views (join ∷ all) = ap (λ names. join.name ∷ names) (scope_names views all)

among : (name : List ℕ) (all : List DeclaredJoin) → list_any (is_same_text name) (map (λ (join : DeclaredJoin). join.name) all) ≡ true → has_join all name ≡ true
among name [] h = absurd (false≢true h)
among name (join ∷ all) h =
    ⊎_elim (λ here. or_left (is_same_text join.name name) (has_join all name) (ap (λ t. is_same_text t name) (sym (text.same_exact name join.name here)) ∙ text.same_itself name))
    (λ later. or_right (is_same_text join.name name) (has_join all name) (among name all later))
    (one_of (is_same_text name join.name) (list_any (is_same_text name) (map (λ (join : DeclaredJoin). join.name) all)) h)

no_twin : (x : DeclaredExplore) → twin_line x ≡ None → not (list_any (is_same_text x.name) (map (λ (join : DeclaredJoin). join.name) x.joins)) ≡ true
no_twin x h = of_any (list_any (is_same_text x.name) (map (λ (join : DeclaredJoin). join.name) x.joins)) refl
  where
    of_twin : (b : Bool) (line : FaultLine) → b ≡ true → (if b then Some line else None) ≡ None → ⊥
    of_twin true line is e = some_none e
    of_twin false line is e = false≢true is

    of_any : (b : Bool) → list_any (is_same_text x.name) (map (λ (join : DeclaredJoin). join.name) x.joins) ≡ b → not b ≡ true
    of_any true is = absurd (of_twin (has_join x.joins x.name) (named_line N1 x.name x.name) (among x.name x.joins is) h)
    of_any false is = refl

plain_names : (parts : List Part) (names : List (List ℕ)) → map (λ (part : Part). part.name) parts ≡ names → list_all (λ name. not (list_any is_dot name)) names ≡ true
    → list_all (λ (part : Part). not (list_any is_dot part.name)) parts ≡ true
plain_names parts names is h = over_map parts ∙ (ap (list_all (λ name. not (list_any is_dot name))) is ∙ h)
  where
    over_map : (ps : List Part) → list_all (λ (part : Part). not (list_any is_dot part.name)) ps ≡ list_all (λ name. not (list_any is_dot name)) (map (λ (part : Part). part.name) ps)
    over_map [] = refl
    over_map (part ∷ ps) = ap (λ b. not (list_any is_dot part.name) && b) (over_map ps)

module _ (schema : Schema) (declared : Declared) (kinds : ViewKinds) where
  abbrev made : DeclaredExplore → Explore
  made x = resolved schema declared kinds x

  module _ (o : Object) (x : DeclaredExplore) (name_is : x.name ≡ o.name) (joins_are : AreJoins (joins_in (items_of o.tree)) x.joins) (twin : twin_line x ≡ None) (spelled : is_spelled_object o ≡ true) (own : has_own_joins o ≡ true) where
    abbrev names : List (List ℕ)
    names = x.name ∷ map (λ (join : DeclaredJoin). join.name) x.joins

    plain : list_all (λ name. not (list_any is_dot name)) names ≡ true
    plain =
        both (not (list_any is_dot x.name)) (list_all (λ name. not (list_any is_dot name)) (map (λ (join : DeclaredJoin). join.name) x.joins))
        (ap (λ t. not (list_any is_dot t)) name_is ∙ ap not (no_dot o.name (first (is_name o.name) (is_spelled o.tree) spelled)))
        (ap (list_all (λ name. not (list_any is_dot name))) (join_names (joins_in (items_of o.tree)) x.joins joins_are)
        ∙ all_every (λ name. not (list_any is_dot name) ≡ true) (λ name. not (list_any is_dot name)) (λ name is. is) (map block_name (joins_in (items_of o.tree)))
        (all_map (λ name. not (list_any is_dot name) ≡ true) IsSpelled block_name (λ item is. ap not (block_no_dot item is)) (joins_in (items_of o.tree))
        (all_filter IsSpelled (is_block_of (codes "join")) (items_of o.tree) (object_spelled o spelled))))

    distinct : are_distinct names ≡ true
    distinct =
        both (not (list_any (is_same_text x.name) (map (λ (join : DeclaredJoin). join.name) x.joins))) (are_distinct (map (λ (join : DeclaredJoin). join.name) x.joins)) (no_twin x twin)
        (ap are_distinct (join_names (joins_in (items_of o.tree)) x.joins joins_are) ∙ own)

    abbrev scope : Scope
    scope = scope_of declared.views x

    abbrev columns : ColumnKinds
    columns = columns_in kinds scope

    abbrev parts : List Part
    parts = parts_from schema declared.views scope columns 0 scope.parts

    names_are : map (λ (part : Part). part.name) parts ≡ names
    names_are = part_names schema declared.views scope columns 0 scope.parts ∙ ap (λ rest. x.name ∷ rest) (scope_names declared.views x.joins)

    names_own : has_own_names (made x) ≡ true
    unfolding resolved
    names_own =
        both (are_distinct (map (λ (part : Part). part.name) parts)) (list_all (λ (part : Part). not (list_any is_dot part.name)) parts)
        (ap are_distinct names_are ∙ distinct) (plain_names parts names names_are plain)

  -- what holds of the explores of a project
  abbrev IsOwn : DeclaredExplore → Type 0
  IsOwn x = (has_own_names (made x) ≡ true) × AllByRecursion (λ (join : DeclaredJoin). has_condition join ≡ true) x.joins

  explores_own : (objects : List Object) (explores : List DeclaredExplore) → AreExplores objects explores → list_all is_spelled_object objects ≡ true → list_all has_own_joins objects ≡ true
      → AllByRecursion (IsClear schema declared kinds) explores → AllByRecursion IsOwn explores
  explores_own [] [] h spelled own fine = tt
  explores_own [] (x ∷ explores) h spelled own fine = absurd h
  explores_own (o ∷ objects) [] h spelled own fine = absurd h
  explores_own (o ∷ objects) (x ∷ explores) h spelled own fine =
      let here = first (is_spelled_object o) (list_all is_spelled_object objects) spelled in (
        (
          names_own o x h.0.name_is h.0.joins_are fine.0.twin here (first (has_own_joins o) (list_all has_own_joins objects) own),
          joins_conditioned schema declared.views (scope_of declared.views x) x.joins 1 (joins_in (items_of o.tree)) x.joins h.0.joins_are
              (all_filter IsSpelled (is_block_of (codes "join")) (items_of o.tree) (object_spelled o here)) fine.0.joins,
        ),
        explores_own objects explores h.1 (second (is_spelled_object o) (list_all is_spelled_object objects) spelled) (second (has_own_joins o) (list_all has_own_joins objects) own) fine.1,
      )

-- ---- the model that a project resolves to

module _ (schema : Schema) (merged : Merged) (model : Model) (h : HasModel schema merged (Ok model)) (spelled : are_spelled merged ≡ true) where
  abbrev given : ViewKinds
  given = kinds_of schema h.declared

  abbrev view_test : Bool
  view_test = list_all is_spelled_object merged.views

  abbrev explore_test : Bool
  explore_test = list_all is_spelled_object merged.explores

  abbrev join_test : Bool
  join_test = list_all has_own_joins merged.explores

  pub have_codes : AllByRecursion (λ v. AllByRecursion HasCode v.fields) h.declared.views
  have_codes =
      views_coded schema merged.views h.declared.views h.objects.views_are (first view_test explore_test (first (view_test && explore_test) join_test spelled))
      (fields_fine schema h.declared given (clear schema merged h.declared h.objects h.is_model.fault))

  own_explores : AllByRecursion (IsOwn schema h.declared given) h.declared.explores
  own_explores =
      explores_own schema h.declared given merged.explores h.declared.explores h.objects.explores_are (second view_test explore_test (first (view_test && explore_test) join_test spelled))
      (second (view_test && explore_test) join_test spelled) (clear schema merged h.declared h.objects h.is_model.fault).explores

  pub have_conditions : AllByRecursion (λ x. AllByRecursion (λ join. has_condition join ≡ true) x.joins) h.declared.explores
  have_conditions = all_more (IsOwn schema h.declared given) (λ x. AllByRecursion (λ (join : DeclaredJoin). has_condition join ≡ true) x.joins) (λ x is. is.1) h.declared.explores own_explores

  pub have_own_names : list_all has_own_names model.explores ≡ true
  have_own_names =
      subst (λ (m : Model). list_all has_own_names m.explores ≡ true) (sym h.is_model.ok)
      (all_every (λ x. has_own_names x ≡ true) has_own_names (λ x is. is) (model_of schema h.declared given).explores
      (all_map (λ x. has_own_names x ≡ true) (IsOwn schema h.declared given) (resolved schema h.declared given) (λ x is. is.0) h.declared.explores own_explores))
