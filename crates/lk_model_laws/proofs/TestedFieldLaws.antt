-- What the test of a field says: its formula is not too large, and it has some kind that its type takes.
use Rattle.std.proofs.Common.{◌≡◌, ◌∙◌, ℕ, Bool, true, false, ◌||◌, ◌^◌, ◌-◌, min, List, refl, ap, sym, subst, Some, None, arith}
use Rattle.std.specs.Prelude.{if◌then◌else◌, nat_lt}
use Rattle.std.specs.List.{list_any}
use Rattle.lk_types.specs.Kinds.{every_kind}
use Rattle.lk_types.specs.declared.schema.Schema.{Schema}
use Rattle.lk_objects.specs.declared.field.DeclaredField.{DeclaredField}
use Rattle.lk_objects.specs.declared.field.FieldSort.{FieldSort}
use Rattle.lk_objects.specs.declared.view.DeclaredView.{DeclaredView}
use Rattle.lk_params.specs.declared.number.Number.TheVariants.{N15, E3}
use Rattle.lk_fields.specs.declared.scope.Place.{Place}
use Rattle.lk_fields.specs.declared.scope.Scope.{Scope}
use Rattle.lk_fields.specs.Existing.{exists, field_at, referred}
use Rattle.lk_fields.specs.Substituted.{nodes_in}
use Rattle.lk_formulas.specs.declared.columns.ColumnKinds.{ColumnKinds}
use Rattle.lk_formulas.specs.declared.columns.UnknownColumn.TheVariants.{Kept, Null}
use Rattle.lk_formulas.specs.declared.resolved.ResolvedCode.{ResolvedCode}
use Rattle.lk_formulas.specs.FieldKinds.{field_clashes, field_kinds, is_number, key_clashes, misses_kind, sort_clashes, takes_no_number}
use Rattle.lk_formulas.specs.FormulaKinds.{kinds_in}
use Rattle.lk_formulas.specs.Formulas.{dated_of, ends, formula_of}
use Rattle.lk_formulas.specs.NumberSizes.{number_nodes, told}
use Rattle.lk_formulas.specs.Resolved.{most_nodes, resolved_field}
use Rattle.lk_field_faults.specs.ExploreFields.{explore_fields_fault}
use Rattle.lk_field_faults.specs.Expressions.{is_key_over, is_large, is_over, number_with}
use Rattle.lk_resolved.specs.Formulas.{expr_in, field_formula, or_null}
use Rattle.lk_model_laws.proofs.CycleLaws.{expression_clear, fields_end}
use Rattle.lk_model_laws.proofs.PieceLaws.{some_none}
use Rattle.lk_model_laws.proofs.SameCountLaws.{same_count}
use Rattle.lk_model_laws.proofs.TierLaws.{or_first}
use Rattle.lk_model_laws.proofs.TypedLaws.{no_clash}

no_large : (large clash : Bool) → (if large then Some N15 else if clash then Some E3 else None) ≡ None → large ≡ false
no_large true clash h = absurd (some_none h)
no_large false clash h = refl

not_over : (n : ℕ) → nat_lt most_nodes (min n (2 ^ 64 - 1)) ≡ false → nat_lt most_nodes n ≡ false
not_over n h = grind arith

module _ (schema : Schema) (views : List DeclaredView) (scope : Scope) (columns : ColumnKinds) (clear : explore_fields_fault schema views scope columns ≡ None)
    (place : Place) (field : DeclaredField) (at : field_at views scope place ≡ Some field) (there : exists views scope place ≡ true) where
  abbrev told_field : ResolvedCode
  told_field = resolved_field schema views scope columns Null place

  pub ended : ends views scope place ≡ true
  ended = fields_end schema views scope columns clear place there

  numberless : number_with schema views scope columns place field (Some told_field) ≡ None
  numberless =
      ap (λ b. number_with schema views scope columns place field (if b then Some told_field else None)) (sym ended) ∙ expression_clear schema views scope columns clear place field at there

  few_nodes : nat_lt most_nodes (nodes_in (formula_of schema views scope columns Kept place)) ≡ false
  few_nodes =
      let small = no_large (is_large schema views scope columns place field told_field.size) (field_clashes schema views scope columns Null place field) numberless in
      let over = or_first (is_over told_field.size) (is_over (told (number_nodes views scope place)))
      (or_first (is_over told_field.size || is_over (told (number_nodes views scope place))) (is_key_over schema views scope columns place.part field.key) small) in
      not_over (nodes_in (formula_of schema views scope columns Kept place)) (ap (λ n. nat_lt most_nodes (min n (2 ^ 64 - 1))) (sym (same_count schema views scope columns place)) ∙ over)

  -- the formula in the model is the whole one
  pub formula_is : field_formula schema views scope columns place ≡ dated_of schema views scope columns Kept place
  formula_is =
      ap (λ b. or_null (expr_in (if b then Some (resolved_field schema views scope columns Kept place) else None))) ended
      ∙ ap (λ b. or_null (if b then None else Some (dated_of schema views scope columns Kept place))) few_nodes

  -- the kinds that are tested suit the field's type
  pub tested : (s : FieldSort) → field.sort ≡ s → is_number s ≡ false → misses_kind s (kinds_in columns (dated_of schema views scope columns Null place)) ≡ false
  tested s is other =
      let kinds = kinds_in columns (dated_of schema views scope columns Null place) in
      let unclashing : sort_clashes schema views scope columns Null place field ≡ false =
      or_first (sort_clashes schema views scope columns Null place field) (key_clashes schema views scope columns Null place.part field.key)
      (no_clash (is_large schema views scope columns place field told_field.size) (field_clashes schema views scope columns Null place field) numberless) in
      let clash = subst (λ z. (if is_number z then list_any (takes_no_number schema views scope columns Null) (referred views scope place.part field) else misses_kind z (field_kinds schema views scope columns Null place)) ≡ false) is unclashing in
      sym (ap (λ b. misses_kind s (if b then kinds else every_kind)) ended)
      ∙ (sym (ap (λ b. if b then list_any (takes_no_number schema views scope columns Null) (referred views scope place.part field) else misses_kind s (field_kinds schema views scope columns Null place)) other) ∙ clash)
