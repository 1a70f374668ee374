-- The equation of a foreign key is yes or no, where its sides compare as they were tested.
use Rattle.std.proofs.Common.{◌≡◌, ◌∙◌, ℕ, ◌+◌, ◌^◌, Bool, true, false, ◌||◌, List, refl, ap, sym, Option, Some, None, arith, ◌&&◌, [], ◌∷◌, subst}
use Rattle.std.specs.Prelude.{◌-◌, if◌then◌else◌, min, nat_lt, is_none, not}
use Rattle.std.specs.List.{AllByRecursion}
use Rattle.lk_types.specs.Dates.{are_literals_dated}
use Rattle.lk_types.specs.Formula.{Formula}
use Rattle.lk_types.specs.Kinds.{do_compare, has_kind, kind_at, kinds_of, truth_if}
use Rattle.lk_types.specs.declared.expr.Comparison.TheVariants as comparison
use Rattle.lk_types.specs.declared.kind_set.KindSet.{KindSet}
use Rattle.lk_types.specs.declared.kind_set.Leaves.{Leaves}
use Rattle.lk_types.specs.declared.schema.Frame.{Frame}
use Rattle.lk_types.specs.declared.schema.Kind.{Kind}
use Rattle.lk_types.specs.declared.schema.Kind.TheVariants as kind
use Rattle.lk_types.specs.declared.schema.Schema.{Schema}
use Rattle.lk_params.specs.declared.number.Number.TheVariants.{N15, E3}
use Rattle.lk_objects.specs.declared.view.DeclaredView.{DeclaredView}
use Rattle.lk_dated.specs.Dated.{compare_sides, compared, read_beside}
use Rattle.lk_dated.specs.Sides.{do_sides_compare, side_of}
use Rattle.lk_dated.proofs.SideLaws.{meet}
use Rattle.lk_fields.specs.declared.scope.Found.{Found}
use Rattle.lk_fields.specs.declared.scope.Place.{Place}
use Rattle.lk_fields.specs.declared.scope.Scope.{Scope}
use Rattle.lk_fields.specs.Existing.{exists}
use Rattle.lk_fields.specs.Substituted.{nodes_in}
use Rattle.lk_formulas.specs.declared.columns.ColumnKinds.{ColumnKinds}
use Rattle.lk_formulas.specs.declared.columns.UnknownColumn.TheVariants.{Kept, Null}
use Rattle.lk_formulas.specs.Columns.{column_named, known_kind}
use Rattle.lk_formulas.specs.FieldKinds.{field_clashes}
use Rattle.lk_formulas.specs.FormulaKinds.{kinds_at, kinds_in}
use Rattle.lk_formulas.specs.Formulas.{dated_of, ends, formula_of, framed}
use Rattle.lk_formulas.specs.NumberSizes.{number_nodes, told}
use Rattle.lk_formulas.specs.Referents.{readings_kept, side_framed, side_through}
use Rattle.lk_formulas.specs.Resolved.{code_told, most_nodes, resolved_field}
use Rattle.lk_field_faults.specs.ExploreFields.{explore_fields_fault}
use Rattle.lk_field_faults.specs.Expressions.{is_key_over, is_large, is_over, number_with}
use Rattle.lk_explore_faults.specs.Conditions.{keys_number, nodes_told}
use Rattle.lk_semantics.specs.Resolved.{is_typed}
use Rattle.lk_semantics.proofs.EveryLaws.{both}
use Rattle.lk_resolved.specs.Explores.{found_formula}
use Rattle.lk_resolved.specs.Formulas.{expr_in, field_formula, or_null}
use Rattle.lk_model_laws.proofs.CycleLaws.{expression_clear, fields_end}
use Rattle.lk_model_laws.proofs.DatedCodeLaws.{HasDatedCodes}
use Rattle.lk_model_laws.proofs.DatedLiteralLaws.{compared_dated}
use Rattle.lk_model_laws.proofs.ExistingLaws.{field_there}
use Rattle.lk_model_laws.proofs.PieceLaws.{some_none, nil_left, nil_right, not_so}
use Rattle.lk_model_laws.proofs.SameFormulaLaws.{same_dated, same_formula}
use Rattle.lk_model_laws.proofs.TierLaws.{or_first}
use Rattle.lk_model_laws.proofs.TypedLaws.{kinds_agree, of_field_dated, truth_given}
use Rattle.lk_explore_faults.specs.JoinFaults.{join_line, key_findings, lacks_key, view_findings}
use Rattle.lk_explore_faults.specs.JoinFaults as faults
use Rattle.lk_scope.specs.Keys.{key_in, key_of, place_if_exists}
use Rattle.lk_scope.specs.ExploreNames.{dimension_named}
use Rattle.lk_fields.specs.Scopes.{view_at}
use Rattle.lk_objects.specs.declared.field.DeclaredField.{DeclaredField}
use Rattle.lk_objects.specs.declared.explore.DeclaredJoin.{DeclaredJoin}
use Rattle.std.proofs.lemmas.Bool.{false≢true}

-- ---- what has no number of a fault

no_large : (large clash : Bool) → (if large then Some N15 else if clash then Some E3 else None) ≡ None → large ≡ false
no_large true clash h = absurd (some_none h)
no_large false clash h = refl

not_over : (n : ℕ) → nat_lt most_nodes (min n (2 ^ 64 - 1)) ≡ false → nat_lt most_nodes n ≡ false
not_over n h = grind arith

truth_of_if : (b : Bool) → (truth_if b).truth ≡ b
truth_of_if true = refl
truth_of_if false = refl

framed_dated : (f : Option Frame) (e : Formula) → are_literals_dated e ≡ true → are_literals_dated (framed f e) ≡ true
framed_dated None e h = h
framed_dated (Some f) e h = h

some_of_none : {A : Type 0} (o : Option A) → is_none o ≡ false → (x : A) × (o ≡ Some x)
some_of_none None h = absurd (false≢true (sym h))
some_of_none (Some x) h = (x, refl)

-- ---- keys

module _ (views : List DeclaredView) (scope : Scope) where
  pub key_exists : (part n : ℕ) (own : List DeclaredField) (place : Place) → key_in views scope part n own ≡ Some place → exists views scope place ≡ true
  key_exists part n [] place h = absurd (some_none (sym h))
  key_exists part n (field ∷ own) place h = of_key (key_exists part (n + 1) own place) field.is_key h
    where
      here : Place
      here = record { part = part; field = n }

      of_there : (b : Bool) → exists views scope here ≡ b → (if b then Some here else None) ≡ Some place → exists views scope place ≡ true
      of_there true is e = let same_place : here ≡ place = cc in subst (λ p. exists views scope p ≡ true) same_place is
      of_there false is e = absurd (some_none (sym e))

      of_key : (key_in views scope part (n + 1) own ≡ Some place → exists views scope place ≡ true) → (b : Bool) → (if b then place_if_exists views scope here else key_in views scope part (n + 1) own) ≡ Some place
          → exists views scope place ≡ true
      of_key later true e = of_there (exists views scope here) refl e
      of_key later false e = later e

  -- a foreign key names a dimension, and the view of a join that is no cross has a key
  pub record HasKeys (part : ℕ) (name : List ℕ) : Type 0 where
    pub found : Found
    pub named : dimension_named views scope name ≡ Some found
    pub key : Place
    pub key_is : key_of views scope part ≡ Some key

  pub keys_given : (at : List ℕ) (part : ℕ) (join : DeclaredJoin) (name : List ℕ) → key_findings views scope at part join (Some name) ≡ [] → faults.is_cross join.kind ≡ false → is_none (view_at views scope part) ≡ false
      → HasKeys part name
  keys_given at part join name h other seen =
      let found = some_of_none (dimension_named views scope name) (not_so (is_none (dimension_named views scope name)) _ (nil_left _ _ h)) in
      let lacks : (not (faults.is_cross join.kind) && lacks_key views scope part) ≡ false = not_so (not (faults.is_cross join.kind) && lacks_key views scope part) _ (nil_right _ _ h) in
      let key = some_of_none (key_of views scope part) (sym (λ i. not (other i) && (not (seen i) && is_none (key_of views scope part))) ∙ lacks) in
      record { found = found.0; named = found.1; key = key.0; key_is = key.1 }

module _ (schema : Schema) (views : List DeclaredView) (scope : Scope) (columns : ColumnKinds) (leaves : Leaves)
    (known : (p : ℕ) (name : List ℕ) (c : ℕ) → column_named schema views scope p name ≡ Some c → (k : Kind) × (known_kind columns p c ≡ Some k))
    (same : (p c : ℕ) → known_kind columns p c ≡ kind_at leaves p c)
    (codes : AllByRecursion (λ v. AllByRecursion HasDatedCodes v.fields) views)
    (clear : explore_fields_fault schema views scope columns ≡ None) where
  -- ---- the field of a foreign key

  -- as it is read
  abbrev read : Place → Formula
  read place = dated_of schema views scope columns Kept place

  module _ (place : Place) (there : exists views scope place ≡ true) where
    end : ends views scope place ≡ true
    end = fields_end schema views scope columns clear place there

    few_nodes : nat_lt most_nodes (nodes_in (formula_of schema views scope columns Null place)) ≡ false
    few_nodes =
        let at = field_there views scope place there in
        let code = resolved_field schema views scope columns Null place in
        let number : number_with schema views scope columns place at.0 (Some code) ≡ None =
        ap (λ b. number_with schema views scope columns place at.0 (if b then Some code else None)) (sym end) ∙ expression_clear schema views scope columns clear place at.0 at.1 there in
        let small = no_large (is_large schema views scope columns place at.0 code.size) (field_clashes schema views scope columns Null place at.0) number in
        not_over (nodes_in (formula_of schema views scope columns Null place))
        (or_first (is_over code.size) (is_over (told (number_nodes views scope place)))
        (or_first (is_over code.size || is_over (told (number_nodes views scope place))) (is_key_over schema views scope columns place.part at.0.key) small))

    formula_is : field_formula schema views scope columns place ≡ read place
    formula_is =
        ap (λ b. or_null (expr_in (if b then Some (resolved_field schema views scope columns Kept place) else None))) end
        ∙ ap (λ b. or_null (if b then None else Some (read place))) (ap (λ e. nat_lt most_nodes (nodes_in e)) (sym (same_formula schema views scope columns known place)) ∙ few_nodes)

    side_is : (f : Option Frame) → side_through f (code_told schema views scope columns Null place) ≡ side_of (kinds_at columns) (framed f (read place))
    side_is f =
        ap (λ b. side_through f (if b then Some (resolved_field schema views scope columns Null place) else None)) end
        ∙ ap (λ b. side_framed f (record { kinds = kinds_in columns (dated_of schema views scope columns Null place); literal = readings_kept (if b then None else Some (dated_of schema views scope columns Null place)) })) few_nodes
        ∙ ap (λ e. side_framed f (side_of (kinds_at columns) e)) (same_dated schema views scope columns known place)
        ∙ of_frame f
      where
        of_frame : (o : Option Frame) → side_framed o (side_of (kinds_at columns) (read place)) ≡ side_of (kinds_at columns) (framed o (read place))
        of_frame None = refl
        of_frame (Some fr) = refl

  -- ---- conditions

  pub equation_typed : (found : Found) (key : Place) → exists views scope found.place ≡ true → exists views scope key ≡ true → keys_number schema views scope columns found (Some key) ≡ None
      → is_typed leaves kind.Truth (compare_sides comparison.Equal (compared (kinds_in columns) (found_formula schema views scope columns found) (field_formula schema views scope columns key))) ≡ true
  equation_typed found key there key_there none =
      let a = framed found.frame (read found.place) in
      let b = read key in
      let k : Formula → KindSet = kinds_in columns in
      let sides = compared k a b in
      let told_field = code_told schema views scope columns Null found.place in
      let told_key = code_told schema views scope columns Null key in
      let compare : do_compare (k (read_beside (k b) a)) (k (read_beside (k a) b)) ≡ true =
      sym (meet (kinds_at columns) a b) ∙ sym (λ i. do_sides_compare (side_is found.place there found.frame i) (side_is key key_there None i))
      ∙ truth_given (told (nodes_told found.frame told_field + nodes_told None told_key + 1)) (do_sides_compare (side_through found.frame told_field) (side_through None told_key)) none in
      let e = compare_sides comparison.Equal sides in
      let truth : has_kind kind.Truth (kinds_of leaves e) ≡ true =
      ap (has_kind kind.Truth) (sym (kinds_agree schema views scope columns leaves known same codes e)) ∙ (truth_of_if (do_compare (k (read_beside (k b) a)) (k (read_beside (k a) b))) ∙ compare) in
      (λ i. is_typed leaves kind.Truth (compare_sides comparison.Equal (compared k (framed found.frame (formula_is found.place there i)) (formula_is key key_there i))))
      ∙ both (has_kind kind.Truth (kinds_of leaves e)) (are_literals_dated e) truth
      (compared_dated k a b (framed_dated found.frame (read found.place) (of_field_dated schema views scope columns codes Kept found.place)) (of_field_dated schema views scope columns codes Kept key))
