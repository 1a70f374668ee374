-- Each field that a text spells has the code that its type takes, where it has no fault.
use Rattle.std.proofs.Common.{◌≡◌, ◌∙◌, ℕ, Bool, true, false, ◌&&◌, List, [], ◌++◌, refl, ap, sym, subst, Option, Some, None}
use Rattle.std.specs.Prelude.{codes, is_none, is_some, not}
use Rattle.std.specs.List.{AllByRecursion}
use Rattle.std.specs.Option.{option_and_then, option_or}
use Rattle.std.proofs.lemmas.Bool.{false≢true}
use Rattle.lk_read.specs.declared.tree.Item.{Item}
use Rattle.lk_types.specs.declared.explore.Op.{Op}
use Rattle.lk_types.specs.declared.explore.Op.TheVariants as op
use Rattle.lk_params.specs.declared.finding.Finding.{Finding}
use Rattle.lk_params.specs.declared.number.Order.{Order}
use Rattle.lk_params.specs.declared.number.Order.TheVariants as order
use Rattle.lk_params.specs.declared.owner.Owner.TheVariants as owner
use Rattle.lk_params.specs.Known.{block_findings, holds_liquid}
use Rattle.lk_params.specs.Parameters.{last_named}
use Rattle.lk_params.specs.Values as values
use Rattle.lk_expr_place.specs.declared.judging.Grammar.TheVariants.{Expressions, Measures}
use Rattle.lk_objects.specs.declared.code.Code.{Code}
use Rattle.lk_objects.specs.declared.code.Code.TheVariants as code
use Rattle.lk_objects.specs.declared.field.DeclaredField.{DeclaredField}
use Rattle.lk_objects.specs.declared.field.DimensionType.{DimensionType}
use Rattle.lk_objects.specs.declared.field.FieldSort.{FieldSort}
use Rattle.lk_objects.specs.declared.field.FieldSort.TheVariants as field_sort
use Rattle.lk_written.specs.CodeFindings.{call_findings, code_findings}
use Rattle.lk_written.specs.Codes.{IsCode, IsLiquidOr, IsReading, grammar_of}
use Rattle.lk_written.specs.Values.{code_at, is_missing}
use Rattle.lk_view_field.specs.FieldFindings.{group_findings, measure_findings, needs_sql, own_findings, owner_of, sort_findings}
use Rattle.lk_view_field.specs.Fields.{IsField, full_name, is_over_measures, sql_text}
use Rattle.lk_model_laws.specs.Typed.{has_code, is_calculation, is_expression}
use Rattle.lk_model_laws.proofs.PieceLaws.{nil_left, nil_right, none_soonest, not_so}
use Rattle.lk_model_laws.proofs.SpelledLaws.{HasText, IsSpelled, text_given}
use Rattle.lk_model_laws.proofs.ViewObjectLaws.{nil_no}

pub with_true : (b : Bool) → (b && true) ≡ b
with_true true = refl
with_true false = refl

-- ---- what a code is read as

call_none : (r : Order) (object at : List ℕ) (o : Option ℕ) → call_findings r object at o ≡ [] → is_none o ≡ true
call_none r object at None h = refl
call_none r object at (Some place) h = absurd (nil_no _ [] h)

pub no_liquid : (over : Bool) (text : List ℕ) (c : Code) → IsCode over (Some text) c → holds_liquid text ≡ false → IsReading (grammar_of over) text c
no_liquid over text c h none = subst (λ b. IsLiquidOr b (grammar_of over) text c) none h

module _ (r : Order) (object at text : List ℕ) where
  pub expression_read : (c : Code) → IsReading Expressions text c → code_findings r object at c ≡ [] → is_expression c ≡ true
  expression_read (code.Expr written) h none = call_none r object at written.unknown_call none
  expression_read (code.Syntax place) h none = absurd (nil_no _ [] none)
  expression_read (code.Number written) h none = absurd h
  expression_read code.Absent h none = absurd h
  expression_read code.Liquid h none = absurd h

  calculation_read : (c : Code) → IsReading Measures text c → code_findings r object at c ≡ [] → is_calculation c ≡ true
  calculation_read (code.Number written) h none = refl
  calculation_read (code.Syntax place) h none = absurd (nil_no _ [] none)
  calculation_read (code.Expr written) h none = absurd h
  calculation_read code.Absent h none = absurd h
  calculation_read code.Liquid h none = absurd h

-- ---- a field

module _ (object own : List ℕ) (items : List Item) (spelled : AllByRecursion IsSpelled items) (column : holds_liquid (codes "${TABLE}." ++ own) ≡ false) (c : Code) where
  -- the text is there
  abbrev IsGivenText : FieldSort → Type 0
  IsGivenText s = (text : List ℕ) × (sql_text s own items ≡ Some text) × (holds_liquid text ≡ false)

  expression_of : (s : FieldSort) → is_over_measures s ≡ false → IsGivenText s → IsCode (is_over_measures s) (sql_text s own items) c → code_findings order.Field object (codes "sql") c ≡ [] → is_expression c ≡ true
  expression_of s other given is none =
      expression_read order.Field object (codes "sql") given.0 c
      (no_liquid false given.0 c (subst (λ b. IsCode b (Some given.0) c) other (subst (λ t. IsCode (is_over_measures s) t c) given.1 is)) given.2) none

  given_at : (s : FieldSort) → sql_text s own items ≡ code_at (codes "sql") items → HasText (codes "sql") items → IsGivenText s
  given_at s same has = (has.text, same ∙ has.given, has.no_liquid)

  group_given : block_findings order.Field owner.DimensionGroup object None items ≡ [] → group_findings object items ≡ [] → IsGivenText field_sort.Group
  group_given clear h =
      given_at field_sort.Group refl
      (text_given order.Field owner.DimensionGroup object (codes "sql") refl refl (λ text place. with_true (holds_liquid text)) items spelled clear (not_so (is_missing (codes "sql") items) _ (nil_right _ _ h)))

  measure_given : (o : Option Op) → needs_sql o ≡ true → block_findings order.Field owner.Measure object None items ≡ [] → measure_findings object items o ≡ [] → IsGivenText (field_sort.Measure o)
  measure_given o needs clear h =
      let missing : (needs_sql o && is_missing (codes "sql") items) ≡ false = not_so (needs_sql o && is_missing (codes "sql") items) _ (nil_right _ _ (nil_left _ _ (nil_left _ _ h))) in
      given_at (field_sort.Measure o) refl
      (text_given order.Field owner.Measure object (codes "sql") refl refl (λ text place. with_true (holds_liquid text)) items spelled clear (sym (ap (λ b. b && is_missing (codes "sql") items) needs) ∙ missing))

  -- a dimension without `sql` is the column of its name
  dimension_given : (t : Option DimensionType) → block_findings order.Field owner.Dimension object None items ≡ [] → IsGivenText (field_sort.Dimension t)
  dimension_given t clear = of_missing (is_missing (codes "sql") items) refl
    where
      absent : is_missing (codes "sql") items ≡ true → code_at (codes "sql") items ≡ None
      absent missing = of_last (last_named (codes "sql") items) missing
        where
          of_last : (o : Option Item) → not (is_some o) ≡ true → option_and_then (λ (i : Item). values.code i.value) o ≡ None
          of_last None h = refl
          of_last (Some item) h = absurd (false≢true h)

      of_missing : (b : Bool) → is_missing (codes "sql") items ≡ b → IsGivenText (field_sort.Dimension t)
      of_missing true is = (codes "${TABLE}." ++ own, ap (λ o. option_or o (Some (codes "${TABLE}." ++ own))) (absent is), column)
      of_missing false is =
          let has = text_given order.Field owner.Dimension object (codes "sql") refl refl (λ text place. with_true (holds_liquid text)) items spelled clear is in
          (has.text, ap (λ o. option_or o (Some (codes "${TABLE}." ++ own))) has.given, has.no_liquid)

  sort_coded : (s : FieldSort) → IsCode (is_over_measures s) (sql_text s own items) c → block_findings order.Field (owner_of s) object None items ≡ [] → sort_findings object items s ≡ []
      → code_findings order.Field object (codes "sql") c ≡ [] → has_code s c ≡ true
  sort_coded (field_sort.Dimension t) is clear sorts none = expression_of (field_sort.Dimension t) refl (dimension_given t clear) is none
  sort_coded field_sort.Group is clear sorts none = expression_of field_sort.Group refl (group_given clear sorts) is none
  sort_coded (field_sort.Measure None) is clear sorts none = refl
  sort_coded (field_sort.Measure (Some op.Count)) is clear sorts none = refl
  sort_coded (field_sort.Measure (Some op.Number)) is clear sorts none =
      let given = measure_given (Some op.Number) refl clear sorts in
      calculation_read order.Field object (codes "sql") given.0 c (no_liquid true given.0 c (subst (λ t. IsCode true t c) given.1 is) given.2) none
  sort_coded (field_sort.Measure (Some op.CountDistinct)) is clear sorts none = expression_of (field_sort.Measure (Some op.CountDistinct)) refl (measure_given (Some op.CountDistinct) refl clear sorts) is none
  sort_coded (field_sort.Measure (Some op.Sum)) is clear sorts none = expression_of (field_sort.Measure (Some op.Sum)) refl (measure_given (Some op.Sum) refl clear sorts) is none
  sort_coded (field_sort.Measure (Some op.Average)) is clear sorts none = expression_of (field_sort.Measure (Some op.Average)) refl (measure_given (Some op.Average) refl clear sorts) is none
  sort_coded (field_sort.Measure (Some op.Min)) is clear sorts none = expression_of (field_sort.Measure (Some op.Min)) refl (measure_given (Some op.Min) refl clear sorts) is none
  sort_coded (field_sort.Measure (Some op.Max)) is clear sorts none = expression_of (field_sort.Measure (Some op.Max)) refl (measure_given (Some op.Max) refl clear sorts) is none
  sort_coded (field_sort.Measure (Some op.SumDistinct)) is clear sorts none = expression_of (field_sort.Measure (Some op.SumDistinct)) refl (measure_given (Some op.SumDistinct) refl clear sorts) is none
  sort_coded (field_sort.Measure (Some op.AverageDistinct)) is clear sorts none = expression_of (field_sort.Measure (Some op.AverageDistinct)) refl (measure_given (Some op.AverageDistinct) refl clear sorts) is none

pub field_coded : (view kind own : List ℕ) (items : List Item) (f : DeclaredField) → IsField view kind own items f → f.first ≡ None → AllByRecursion IsSpelled items → holds_liquid (codes "${TABLE}." ++ own) ≡ false
    → has_code f.sort f.sql ≡ true
field_coded view kind own items f is none spelled column =
    let object = full_name view own in
    let blocks : List Finding = block_findings order.Field (owner_of f.sort) object None items in
    let all = none_soonest (own_findings object items f.sort f.sql f.key) (sym is.first_is ∙ none) in
    let front = nil_left (blocks ++ sort_findings object items f.sort ++ code_findings order.Field object (codes "sql") f.sql) (code_findings order.Field object (codes "sql_distinct_key") f.key) all in
    let two = nil_left (blocks ++ sort_findings object items f.sort) (code_findings order.Field object (codes "sql") f.sql) front in
    sort_coded object own items spelled column f.sql f.sort is.sql_is (nil_left blocks (sort_findings object items f.sort) two) (nil_right blocks (sort_findings object items f.sort) two)
    (nil_right (blocks ++ sort_findings object items f.sort) (code_findings order.Field object (codes "sql") f.sql) front)
