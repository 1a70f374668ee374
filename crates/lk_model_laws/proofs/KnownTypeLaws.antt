-- The type of each dimension is known, and each expression of a field shows its references, in a project without a fault.
use Rattle.std.proofs.Common.{◌≡◌, ◌∙◌, ℕ, Bool, true, false, List, [], ◌∷◌, ◌++◌, refl, ap, sym, subst, Option, Some, None}
use Rattle.std.specs.Prelude.{codes, is_some, not}
use Rattle.std.specs.List.{AllByRecursion}
use Rattle.lk_read.specs.declared.tree.Item.{Item}
use Rattle.lk_types.specs.declared.schema.Schema.{Schema}
use Rattle.lk_params.specs.declared.finding.Finding.{Finding}
use Rattle.lk_params.specs.declared.number.Order.TheVariants as order
use Rattle.lk_params.specs.Known.{block_findings, holds_liquid}
use Rattle.lk_params.specs.Parameters.{items_of}
use Rattle.lk_params.specs.Values as values
use Rattle.lk_merge.specs.declared.project.Object.{Object}
use Rattle.lk_objects.specs.declared.code.Code.{Code}
use Rattle.lk_objects.specs.declared.code.Code.TheVariants as code
use Rattle.lk_objects.specs.declared.field.DeclaredField.{DeclaredField}
use Rattle.lk_objects.specs.declared.field.DimensionType.{DimensionType}
use Rattle.lk_objects.specs.declared.field.FieldSort.{FieldSort}
use Rattle.lk_objects.specs.declared.field.FieldSort.TheVariants as sort
use Rattle.lk_objects.specs.declared.view.DeclaredView.{DeclaredView}
use Rattle.lk_expr_place.specs.declared.judging.Grammar.{Grammar}
use Rattle.lk_expr_place.specs.declared.judging.Grammar.TheVariants.{Expressions, Measures}
use Rattle.lk_scope.specs.Scopes.{full_name}
use Rattle.lk_view.specs.FieldOrder.{fields_in}
use Rattle.lk_view.specs.Views.{AreFields}
use Rattle.lk_view_field.specs.FieldFindings.{dimension_findings, own_findings, owner_of, sort_findings, tier_findings}
use Rattle.lk_view_field.specs.Fields.{IsField, is_over_measures, sql_text}
use Rattle.lk_written.specs.Blocks.{block_items, block_name}
use Rattle.lk_written.specs.CodeFindings.{code_findings}
use Rattle.lk_written.specs.Codes.{IsCode, IsLiquidOr, IsReading, grammar_of}
use Rattle.lk_written.specs.ValueFindings.{wrong}
use Rattle.lk_written.specs.Values.{is_no_truth, is_wrong_at}
use Rattle.lk_resolve.specs.Objects.{AreViews}
use Rattle.lk_model_laws.proofs.DependLaws.{IsShown, IsShownCode}
use Rattle.lk_model_laws.proofs.PieceLaws.{nil_left, nil_right, none_soonest, not_so}
use Rattle.lk_model_laws.proofs.ShownCodeLaws.{tree_shown}
use Rattle.lk_model_laws.proofs.TierLaws.{IsFine}
use Rattle.lk_model_laws.proofs.ViewObjectLaws.{not_false}

-- ---- types

abbrev pub has_type : FieldSort → Bool
has_type (sort.Dimension t) = is_some t
has_type s = true

abbrev pub HasType : DeclaredField → Type 0
HasType f = has_type f.sort ≡ true

typed : (view kind own : List ℕ) (items : List Item) (f : DeclaredField) → IsField view kind own items f → IsFine f → HasType f
typed view kind own items f is none = of_sort f.sort refl
  where
    object : List ℕ
    object = full_name view own

    sorts : sort_findings object items f.sort ≡ []
    sorts =
        let all = none_soonest (own_findings object items f.sort f.sql f.key) (sym is.first_is ∙ none) in
        let front : List Finding = block_findings order.Field (owner_of f.sort) object None items in
        nil_right front (sort_findings object items f.sort) (nil_left (front ++ sort_findings object items f.sort) (code_findings order.Field object (codes "sql") f.sql)
        (nil_left (front ++ sort_findings object items f.sort ++ code_findings order.Field object (codes "sql") f.sql) (code_findings order.Field object (codes "sql_distinct_key") f.key) all))

    dimension : (t : Option DimensionType) → dimension_findings object items t ≡ [] → is_some t ≡ true
    dimension t h =
        let type_part = wrong order.Field object (codes "type") (codes "type") (not (is_some t)) in
        let key_part = wrong order.Field object (codes "primary_key") (codes "primary_key") (is_wrong_at (λ value. is_no_truth (values.scalar value)) (codes "primary_key") items) in
        not_false (is_some t) (not_so (not (is_some t)) _ (nil_left type_part key_part (nil_left (type_part ++ key_part) (tier_findings object items t) h)))

    of_sort : (s : FieldSort) → f.sort ≡ s → HasType f
    of_sort (sort.Dimension t) at = ap has_type at ∙ dimension t (ap (sort_findings object items) (sym at) ∙ sorts)
    of_sort sort.Group at = ap has_type at
    of_sort (sort.Measure o) at = ap has_type at

typed_fields : (name : List ℕ) (items : List Item) (own : List DeclaredField) → AreFields name items own → AllByRecursion IsFine own → AllByRecursion HasType own
typed_fields name [] [] h fine = tt
typed_fields name [] (f ∷ own) h fine = absurd h
typed_fields name (item ∷ items) [] h fine = absurd h
typed_fields name (item ∷ items) (f ∷ own) h fine = (typed name item.name (block_name item) (block_items item) f h.0 fine.0, typed_fields name items own h.1 fine.1)

pub typed_views : (schema : Schema) (objects : List Object) (views : List DeclaredView) → AreViews schema objects views → AllByRecursion (λ v. AllByRecursion IsFine v.fields) views
    → AllByRecursion (λ v. AllByRecursion HasType v.fields) views
typed_views schema [] [] h fine = tt
typed_views schema [] (v ∷ views) h fine = absurd h
typed_views schema (o ∷ objects) [] h fine = absurd h
typed_views schema (o ∷ objects) (v ∷ views) h fine = (typed_fields o.name (fields_in (items_of o.tree)) v.fields h.0.fields_are fine.0, typed_views schema objects views h.1 fine.1)

-- ---- expressions

reading_shown : (g : Grammar) (text : List ℕ) (c : Code) → IsReading g text c → IsShownCode c
reading_shown Expressions text (code.Expr written) h = subst IsShown (sym h.2) (tree_shown h.0)
reading_shown Measures text (code.Number written) h = tt
reading_shown Expressions text (code.Number written) h = absurd h
reading_shown Measures text (code.Expr written) h = absurd h
reading_shown g text (code.Syntax place) h = tt
reading_shown g text code.Absent h = tt
reading_shown g text code.Liquid h = tt

code_shown : (over : Bool) (text : Option (List ℕ)) (c : Code) → IsCode over text c → IsShownCode c
code_shown over None c h = subst IsShownCode (sym h) tt
code_shown over (Some text) c h = of_liquid (holds_liquid text) h
  where
    of_liquid : (b : Bool) → IsLiquidOr b (grammar_of over) text c → IsShownCode c
    of_liquid true is = subst IsShownCode (sym is) tt
    of_liquid false is = reading_shown (grammar_of over) text c is

abbrev pub HasShownCode : DeclaredField → Type 0
HasShownCode f = IsShownCode f.sql

shown_fields : (name : List ℕ) (items : List Item) (fields : List DeclaredField) → AreFields name items fields → AllByRecursion HasShownCode fields
shown_fields name [] [] h = tt
shown_fields name [] (f ∷ fields) h = absurd h
shown_fields name (item ∷ items) [] h = absurd h
shown_fields name (item ∷ items) (f ∷ fields) h = (code_shown (is_over_measures f.sort) (sql_text f.sort (block_name item) (block_items item)) f.sql h.0.sql_is, shown_fields name items fields h.1)

pub shown_codes : (schema : Schema) (objects : List Object) (views : List DeclaredView) → AreViews schema objects views → AllByRecursion (λ v. AllByRecursion HasShownCode v.fields) views
shown_codes schema [] [] h = tt
shown_codes schema [] (v ∷ views) h = absurd h
shown_codes schema (o ∷ objects) [] h = absurd h
shown_codes schema (o ∷ objects) (v ∷ views) h = (shown_fields o.name (fields_in (items_of o.tree)) v.fields h.0.fields_are, shown_codes schema objects views h.1)
