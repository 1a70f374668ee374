-- Each join that a text spells has a condition or is a cross, where it has no fault.
use Rattle.std.proofs.Common.{◌≡◌, ◌∙◌, ℕ, Bool, true, false, ◌&&◌, ◌||◌, List, [], ◌++◌, refl, ap, sym, subst, Some, None}
use Rattle.std.specs.Prelude.{codes, if◌then◌else◌, is_some, not}
use Rattle.std.specs.List.{AllByRecursion}
use Rattle.std.specs.Option.{option_and_then}
use Rattle.std.proofs.lemmas.Bool.{false≢true}
use Rattle.lk_read.specs.declared.tree.Item.{Item}
use Rattle.lk_types.specs.declared.explore.JoinKind.{JoinKind}
use Rattle.lk_types.specs.declared.explore.JoinKind.TheVariants as join_kind
use Rattle.lk_params.specs.declared.finding.Finding.{Finding}
use Rattle.lk_params.specs.declared.number.Order.TheVariants as order
use Rattle.lk_params.specs.declared.owner.Owner.TheVariants as owner
use Rattle.lk_params.specs.Known.{block_findings, holds_liquid}
use Rattle.lk_params.specs.Parameters.{last_named}
use Rattle.lk_params.specs.Values.{scalar}
use Rattle.lk_objects.specs.declared.code.Code.{Code}
use Rattle.lk_objects.specs.declared.code.Code.TheVariants as code
use Rattle.lk_objects.specs.declared.explore.DeclaredJoin.{DeclaredJoin}
use Rattle.lk_semantics.specs.Joins.{is_cross}
use Rattle.lk_written.specs.CodeFindings.{code_findings}
use Rattle.lk_written.specs.Codes.{IsCode}
use Rattle.lk_written.specs.Values.{is_missing, is_wrong_at}
use Rattle.lk_explore.specs.Joins as joins
use Rattle.lk_explore.specs.Joins.{IsJoin, condition_findings, join_findings, kind_of, lacks_condition, name_findings, sort_findings}
use Rattle.lk_explore.specs.Values.{are_no_words, is_no_text, wrong_at}
use Rattle.lk_model_laws.specs.Conditions.{has_condition, is_written}
use Rattle.lk_model_laws.specs.Typed.{is_expression}
use Rattle.lk_model_laws.proofs.PieceLaws.{nil_left, nil_right, none_soonest, not_so}
use Rattle.lk_model_laws.proofs.SpelledCodeLaws.{expression_read, no_liquid, with_true}
use Rattle.lk_model_laws.proofs.SpelledLaws.{IsSpelled, text_given}
use Rattle.lk_model_laws.proofs.ViewObjectLaws.{not_false, some_of}

written_so : (c : Code) → is_expression c ≡ true → is_written c ≡ true
written_so (code.Expr written) h = refl
written_so (code.Number written) h = absurd (false≢true h)
written_so code.Absent h = absurd (false≢true h)
written_so code.Liquid h = absurd (false≢true h)
written_so (code.Syntax place) h = absurd (false≢true h)

crosses : (k : JoinKind) → joins.is_cross k ≡ is_cross k
crosses join_kind.Cross = refl
crosses join_kind.Left = refl
crosses join_kind.Full = refl
crosses join_kind.Inner = refl

one_here : (a b c : Bool) → b ≡ true → (a || b || c) ≡ true
one_here true b c h = refl
one_here false b c h = ap (λ t. t || c) h

last_here : (a b c : Bool) → c ≡ true → (a || b || c) ≡ true
last_here true b c h = refl
last_here false true c h = refl
last_here false false c h = h

module _ (name : List ℕ) (items : List Item) (spelled : AllByRecursion IsSpelled items) (join : DeclaredJoin) (is : IsJoin name items join) (none : join.first ≡ None) where
  abbrev blocks : List Finding
  blocks = block_findings order.Object owner.Join name None items

  front : blocks ++ sort_findings name items ++ name_findings name items ++ condition_findings name items ++ code_findings order.Object name (codes "sql_on") join.on ≡ []
  front = none_soonest (join_findings name items join.on) (sym is.first_is ∙ none)

  four : blocks ++ sort_findings name items ++ name_findings name items ++ condition_findings name items ≡ []
  four = nil_left (blocks ++ sort_findings name items ++ name_findings name items ++ condition_findings name items) (code_findings order.Object name (codes "sql_on") join.on) front

  three : blocks ++ sort_findings name items ++ name_findings name items ≡ []
  three = nil_left (blocks ++ sort_findings name items ++ name_findings name items) (condition_findings name items) four

  -- where `sql_on` is there, it is an expression
  on_written : is_missing (codes "sql_on") items ≡ false → is_written join.on ≡ true
  on_written there =
      let clear = nil_left blocks (sort_findings name items) (nil_left (blocks ++ sort_findings name items) (name_findings name items) three) in
      let given = text_given order.Object owner.Join name (codes "sql_on") refl refl (λ text place. with_true (holds_liquid text)) items spelled clear there in
      written_so join.on
      (expression_read order.Object name (codes "sql_on") given.text join.on
      (no_liquid false given.text join.on (subst (λ t. IsCode false t join.on) given.given is.on_is) given.no_liquid)
      (nil_right (blocks ++ sort_findings name items ++ name_findings name items ++ condition_findings name items) (code_findings order.Object name (codes "sql_on") join.on) front))

  -- and where `foreign_key` is, it is a name
  key_given : is_missing (codes "foreign_key") items ≡ false → is_some join.foreign_key ≡ true
  key_given there =
      let last = some_of (last_named (codes "foreign_key") items) (not_false (is_some (last_named (codes "foreign_key") items)) there) in
      let names = nil_right (blocks ++ sort_findings name items) (name_findings name items) three in
      let wrong : is_wrong_at is_no_text (codes "foreign_key") items ≡ false =
      not_so (is_wrong_at is_no_text (codes "foreign_key") items) _
      (nil_left (wrong_at name (codes "foreign_key") (is_wrong_at is_no_text (codes "foreign_key") items)) (wrong_at name (codes "required_joins") (is_wrong_at are_no_words (codes "required_joins") items)) names) in
      ap is_some (is.key_is ∙ ap (option_and_then (λ (i : Item). scalar i.value)) last.1)
      ∙ not_false (is_some (scalar last.0.value)) (of_last last.0 last.1 wrong)
    where
      of_last : (item : Item) → last_named (codes "foreign_key") items ≡ Some item → is_wrong_at is_no_text (codes "foreign_key") items ≡ false → is_no_text item.value ≡ false
      of_last item at wrong = rw at at wrong

  pub join_conditioned : has_condition join ≡ true
  join_conditioned = of_cross (is_cross join.kind) refl
    where
      lacking : is_cross join.kind ≡ false → lacks_condition items ≡ false
      lacking other =
          let rule : (not (joins.is_cross (kind_of items)) && lacks_condition items) ≡ false =
          not_so (not (joins.is_cross (kind_of items)) && lacks_condition items) _ (nil_right (blocks ++ sort_findings name items ++ name_findings name items) (condition_findings name items) four) in
          sym (ap (λ b. not b && lacks_condition items) (crosses (kind_of items) ∙ ap is_cross (sym is.kind_is) ∙ other)) ∙ rule

      of_on : (b : Bool) → is_missing (codes "sql_on") items ≡ b → (if b then is_missing (codes "foreign_key") items else not (is_missing (codes "foreign_key") items)) ≡ false → has_condition join ≡ true
      of_on true at lacks = last_here (is_cross join.kind) (is_written join.on) (is_some join.foreign_key) (key_given lacks)
      of_on false at lacks = one_here (is_cross join.kind) (is_written join.on) (is_some join.foreign_key) (on_written at)

      of_cross : (b : Bool) → is_cross join.kind ≡ b → has_condition join ≡ true
      of_cross true cross = ap (λ b. b || is_written join.on || is_some join.foreign_key) cross
      of_cross false other = of_on (is_missing (codes "sql_on") items) refl (lacking other)
