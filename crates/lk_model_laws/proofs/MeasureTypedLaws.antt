-- The measures of the model have what their types compute with, extremes and calculations aside.
use Rattle.std.proofs.Common.{◌≡◌, ◌∙◌, ℕ, Bool, true, false, ◌&&◌, ◌||◌, List, [], ◌∷◌, refl, ap, sym, subst, Some, None}
use Rattle.std.specs.Prelude.{flat_map, if◌then◌else◌, nat_lt, not}
use Rattle.std.specs.List.{AllByRecursion, list_all, list_any}
use Rattle.std.specs.Option.{option_and_then}
use Rattle.std.proofs.lemmas.Bool.{false≢true}
use Rattle.lk_types.specs.Dates.{are_literals_dated}
use Rattle.lk_types.specs.Formula.{Formula}
use Rattle.lk_types.specs.Kinds.{every_kind, has_kind, is_empty, kind_at, kinds_of}
use Rattle.lk_types.specs.declared.explore.Measure.{Measure}
use Rattle.lk_types.specs.declared.explore.Op.{Op}
use Rattle.lk_types.specs.declared.explore.Op.TheVariants as op
use Rattle.lk_types.specs.declared.kind_set.KindSet.{KindSet}
use Rattle.lk_types.specs.declared.kind_set.Leaves.{Leaves}
use Rattle.lk_types.specs.declared.schema.Kind.{Kind}
use Rattle.lk_types.specs.declared.schema.Kind.TheVariants as kind
use Rattle.lk_types.specs.declared.schema.Schema.{Schema}
use Rattle.lk_objects.specs.declared.code.Code.{Code}
use Rattle.lk_objects.specs.declared.code.Code.TheVariants as code
use Rattle.lk_objects.specs.declared.field.DeclaredField.{DeclaredField}
use Rattle.lk_objects.specs.declared.field.FieldSort.{FieldSort}
use Rattle.lk_objects.specs.declared.field.FieldSort.TheVariants as field_sort
use Rattle.lk_objects.specs.declared.view.DeclaredView.{DeclaredView}
use Rattle.lk_fields.specs.declared.scope.Place.{Place}
use Rattle.lk_fields.specs.declared.scope.Scope.{Scope}
use Rattle.lk_fields.specs.declared.scope.Sort.TheVariants as sort
use Rattle.lk_fields.specs.declared.scope.Writer.TheVariants as writer
use Rattle.lk_fields.specs.Existing.{exists, field_at, referred}
use Rattle.lk_fields.specs.Substituted.{nodes_in}
use Rattle.lk_formulas.specs.declared.columns.ColumnKinds.{ColumnKinds}
use Rattle.lk_formulas.specs.declared.columns.UnknownColumn.TheVariants.{Kept, Null}
use Rattle.lk_formulas.specs.Columns.{column_named, known_kind}
use Rattle.lk_formulas.specs.FieldKinds.{adds_numbers, extreme_kind, field_clashes, field_kinds, is_number, key_clashes, kind_of_measure, misses_kind, sort_clashes, takes_no_number}
use Rattle.lk_formulas.specs.FormulaKinds.{kinds_in}
use Rattle.lk_formulas.specs.Formulas.{dated_in, dated_of, ends, formula_in, formula_of}
use Rattle.lk_formulas.specs.Resolved.{kept, most_nodes, resolved_field}
use Rattle.lk_field_faults.specs.ExploreFields.{explore_fields_fault}
use Rattle.lk_field_faults.specs.Expressions.{is_large, number_with}
use Rattle.lk_fields.specs.Scopes.{has_sort}
use Rattle.lk_semantics.specs.Resolved.{has_calculation, has_operands, has_own_kind, is_calculated_rightly, is_some_known, is_typed, is_typed_measure}
use Rattle.lk_semantics.proofs.EveryLaws.{Every, both, every-append}
use Rattle.lk_resolved.specs.Fields.{all_measures, key_if, measure_at, measure_if, measure_with, op_with, or_number, value_if}
use Rattle.lk_resolved.specs.Fields as resolved_fields
use Rattle.lk_resolved.specs.Formulas.{code_formula, expr_in, field_formula, or_null}
use Rattle.lk_resolved.specs.Names.{measures}
use Rattle.lk_model_laws.specs.Typed.{is_open}
use Rattle.lk_model_laws.proofs.CycleLaws.{expression_clear, fields_end}
use Rattle.lk_model_laws.proofs.DatedCodeLaws.{HasDatedCodes, IsDatedCode}
use Rattle.lk_model_laws.proofs.NamedTypes.{NamedMeasure}
use Rattle.lk_model_laws.proofs.NumberLaws.{IsOfField, measures_of_fields}
use Rattle.lk_model_laws.proofs.SortedCodeLaws.{IsSortedCode}
use Rattle.lk_model_laws.proofs.SameFormulaLaws.{same_dated, same_dated_in}
use Rattle.lk_model_laws.proofs.TypedLaws.{field_typed, kinds_agree, no_clash, of_code_dated, of_field_dated, unclashing}
use Rattle.lk_model_laws.proofs.ViewObjectLaws.{not_false}
use Rattle.lk_model_laws.proofs.WholeExploreLaws.{placed_field}

-- ---- some kind

listed : (t n r d m dated : Bool) → dated ≡ true → not (t || (n || (r || (d || m)))) ≡ false → ((t && dated) || ((n && dated) || ((r && dated) || ((d && dated) || ((m && dated) || false))))) ≡ true
listed true true true true true true d h = refl
listed true true true true false true d h = refl
listed true true true false true true d h = refl
listed true true true false false true d h = refl
listed true true false true true true d h = refl
listed true true false true false true d h = refl
listed true true false false true true d h = refl
listed true true false false false true d h = refl
listed true false true true true true d h = refl
listed true false true true false true d h = refl
listed true false true false true true d h = refl
listed true false true false false true d h = refl
listed true false false true true true d h = refl
listed true false false true false true d h = refl
listed true false false false true true d h = refl
listed true false false false false true d h = refl
listed false true true true true true d h = refl
listed false true true true false true d h = refl
listed false true true false true true d h = refl
listed false true true false false true d h = refl
listed false true false true true true d h = refl
listed false true false true false true d h = refl
listed false true false false true true d h = refl
listed false true false false false true d h = refl
listed false false true true true true d h = refl
listed false false true true false true d h = refl
listed false false true false true true d h = refl
listed false false true false false true d h = refl
listed false false false true true true d h = refl
listed false false false true false true d h = refl
listed false false false false true true d h = refl
listed false false false false false true d h = absurd (false≢true (sym h))
listed t n r d m false e h = absurd (false≢true e)

known_of : (leaves : Leaves) (e : Formula) → is_empty (kinds_of leaves e) ≡ false → are_literals_dated e ≡ true → is_some_known leaves (Some e) ≡ true
known_of leaves e h d = let s = kinds_of leaves e in listed s.text s.number s.truth s.day s.moment (are_literals_dated e) d h

or_second : (a b : Bool) → (a || b) ≡ false → b ≡ false
or_second true b h = absurd (false≢true (sym h))
or_second false b h = h

module _ (schema : Schema) (views : List DeclaredView) (scope : Scope) (columns : ColumnKinds) (leaves : Leaves)
    (known : (p : ℕ) (name : List ℕ) (c : ℕ) → column_named schema views scope p name ≡ Some c → (k : Kind) × (known_kind columns p c ≡ Some k))
    (same : (p c : ℕ) → known_kind columns p c ≡ kind_at leaves p c)
    (codes : AllByRecursion (λ v. AllByRecursion HasDatedCodes v.fields) views) (sorted : AllByRecursion (λ v. AllByRecursion (λ f. IsSortedCode f.sort f.sql) v.fields) views)
    (clear : explore_fields_fault schema views scope columns ≡ None) where
  kept_known : (e read : Formula) → is_empty (kinds_of leaves read) ≡ false → are_literals_dated read ≡ true → is_some_known leaves (Some (or_null (kept e read))) ≡ true
  kept_known e read h d =
      elim (nat_lt most_nodes (nodes_in e)) as (λ b. is_some_known leaves (Some (or_null (if b then None else Some read))) ≡ true) [
        | true ↦ refl
        | false ↦ known_of leaves read h d
      ]

  pub field_known : (place : Place) → ends views scope place ≡ true → is_empty (kinds_in columns (dated_of schema views scope columns Null place)) ≡ false → is_some_known leaves (Some (field_formula schema views scope columns place)) ≡ true
  field_known place end h =
      ap (λ b. is_some_known leaves (Some (or_null (expr_in (if b then Some (resolved_field schema views scope columns Kept place) else None))))) end
      ∙ kept_known (formula_of schema views scope columns Kept place) (dated_of schema views scope columns Kept place)
      (ap is_empty (sym (kinds_agree schema views scope columns leaves known same codes (dated_of schema views scope columns Kept place))) ∙ ap (λ e. is_empty (kinds_in columns e)) (sym (same_dated schema views scope columns known place)) ∙ h)
      (of_field_dated schema views scope columns codes Kept place)

  key_known : (part : ℕ) (c : Code) → IsDatedCode c → key_clashes schema views scope columns Null part c ≡ false → is_some_known leaves (Some (code_formula schema views scope columns (writer.Field part) c)) ≡ true
  key_known part (code.Expr written) d h =
      let w = writer.Field part in
      let c = code.Expr written in
      kept_known (formula_in schema views scope columns Kept w c) (dated_in schema views scope columns Kept w c)
      (ap is_empty (sym (kinds_agree schema views scope columns leaves known same codes (dated_in schema views scope columns Kept w c))) ∙ ap (λ e. is_empty (kinds_in columns e)) (sym (same_dated_in schema views scope columns known w c)) ∙ h)
      (of_code_dated schema views scope columns codes Kept w c d)
  key_known part (code.Number written) d h = refl
  key_known part code.Absent d h = refl
  key_known part code.Liquid d h = refl
  key_known part (code.Syntax place) d h = refl

  -- what a measure without a fault has
  module _ (place : Place) (field : DeclaredField) (at : field_at views scope place ≡ Some field) (there : exists views scope place ≡ true) where
    abbrev kinds : KindSet
    kinds = kinds_in columns (dated_of schema views scope columns Null place)

    pub end : ends views scope place ≡ true
    end = fields_end schema views scope columns clear place there

    key_clear : key_clashes schema views scope columns Null place.part field.key ≡ false
    key_clear =
        let told = resolved_field schema views scope columns Null place in
        let number : number_with schema views scope columns place field (Some told) ≡ None =
        ap (λ b. number_with schema views scope columns place field (if b then Some told else None)) (sym end) ∙ expression_clear schema views scope columns clear place field at there in
        or_second (sort_clashes schema views scope columns Null place field) (key_clashes schema views scope columns Null place.part field.key)
        (no_clash (is_large schema views scope columns place field told.size) (field_clashes schema views scope columns Null place field) number)

    pub missed : (s : FieldSort) → field.sort ≡ s → is_number s ≡ false → misses_kind s kinds ≡ false
    missed s is other =
        let clash = subst (λ z. (if is_number z then list_any (takes_no_number schema views scope columns Null) (referred views scope place.part field) else misses_kind z (field_kinds schema views scope columns Null place)) ≡ false) is
        (unclashing schema views scope columns leaves known same codes clear place field at there) in
        sym (ap (λ b. misses_kind s (if b then kinds else every_kind)) end) ∙ (sym (ap (λ b. if b then list_any (takes_no_number schema views scope columns Null) (referred views scope place.part field) else misses_kind s (field_kinds schema views scope columns Null place)) other) ∙ clash)

    adding : (o : Op) → field.sort ≡ field_sort.Measure (Some o) → is_number (field_sort.Measure (Some o)) ≡ false → adds_numbers (Some o) ≡ true → is_typed leaves kind.Number (field_formula schema views scope columns place) ≡ true
    adding o is other adds =
        field_typed schema views scope columns leaves known same codes kind.Number place end
        (not_false (has_kind kind.Number kinds) (sym (ap (λ b. if b then not (has_kind kind.Number kinds) else is_empty kinds) adds) ∙ missed (field_sort.Measure (Some o)) is other))

    keyed : is_some_known leaves (Some (code_formula schema views scope columns (writer.Field place.part) field.key)) ≡ true
    keyed = key_known place.part field.key (placed_field HasDatedCodes views codes scope place field at).1 key_clear

    uncalculated : (s : FieldSort) (c : Code) → IsSortedCode s c → is_number s ≡ false → not (has_calculation (resolved_fields.number_with views scope place.part c)) ≡ true
    uncalculated s (code.Number written) h other = absurd (false≢true (sym other ∙ h))
    uncalculated s (code.Expr written) h other = refl
    uncalculated s code.Absent h other = refl
    uncalculated s code.Liquid h other = refl
    uncalculated s (code.Syntax p) h other = refl

    pub calculated : (s : FieldSort) → field.sort ≡ s → is_number s ≡ false → not (has_calculation (resolved_fields.number_with views scope place.part field.sql)) ≡ true
    calculated s is other = uncalculated s field.sql (subst (λ z. IsSortedCode z field.sql) is (placed_field (λ f. IsSortedCode f.sort f.sql) views sorted scope place field at)) other

    abbrev Typed : FieldSort → Type 0
    Typed s =
        (is_open (op_with s)
        || (has_operands leaves (op_with s) (or_number (kind_of_measure s (extreme_kind schema views scope columns Kept place))) (value_if (op_with s) (field_formula schema views scope columns place))
        (key_if (op_with s) (code_formula schema views scope columns (writer.Field place.part) field.key))
        && has_own_kind (op_with s) (or_number (kind_of_measure s (extreme_kind schema views scope columns Kept place)))
        && is_calculated_rightly (op_with s) (resolved_fields.number_with views scope place.part field.sql))) ≡ true

    sort_typed : (s : FieldSort) → field.sort ≡ s → has_sort sort.Measure s ≡ true → Typed s
    sort_typed (field_sort.Measure None) is own = calculated (field_sort.Measure None) is refl
    sort_typed (field_sort.Measure (Some op.Count)) is own = calculated (field_sort.Measure (Some op.Count)) is refl
    sort_typed (field_sort.Measure (Some op.CountDistinct)) is own =
        let known_value = is_some_known leaves (Some (field_formula schema views scope columns place)) in
        both (known_value && true && true) (not (has_calculation (resolved_fields.number_with views scope place.part field.sql)))
        (both (known_value && true) true (both known_value true (field_known place end (missed (field_sort.Measure (Some op.CountDistinct)) is refl)) refl) refl) (calculated (field_sort.Measure (Some op.CountDistinct)) is refl)
    sort_typed (field_sort.Measure (Some op.Sum)) is own =
        let typed_value = is_typed leaves kind.Number (field_formula schema views scope columns place) in
        both (typed_value && true && true) (not (has_calculation (resolved_fields.number_with views scope place.part field.sql)))
        (both (typed_value && true) true (both typed_value true (adding op.Sum is refl refl) refl) refl) (calculated (field_sort.Measure (Some op.Sum)) is refl)
    sort_typed (field_sort.Measure (Some op.Average)) is own =
        let typed_value = is_typed leaves kind.Number (field_formula schema views scope columns place) in
        both (typed_value && true && true) (not (has_calculation (resolved_fields.number_with views scope place.part field.sql)))
        (both (typed_value && true) true (both typed_value true (adding op.Average is refl refl) refl) refl) (calculated (field_sort.Measure (Some op.Average)) is refl)
    sort_typed (field_sort.Measure (Some op.SumDistinct)) is own =
        let typed_value = is_typed leaves kind.Number (field_formula schema views scope columns place) in
        let known_key = is_some_known leaves (Some (code_formula schema views scope columns (writer.Field place.part) field.key)) in
        both (typed_value && known_key && true) (not (has_calculation (resolved_fields.number_with views scope place.part field.sql)))
        (both (typed_value && known_key) true (both typed_value known_key (adding op.SumDistinct is refl refl) keyed) refl) (calculated (field_sort.Measure (Some op.SumDistinct)) is refl)
    sort_typed (field_sort.Measure (Some op.AverageDistinct)) is own =
        let typed_value = is_typed leaves kind.Number (field_formula schema views scope columns place) in
        let known_key = is_some_known leaves (Some (code_formula schema views scope columns (writer.Field place.part) field.key)) in
        both (typed_value && known_key && true) (not (has_calculation (resolved_fields.number_with views scope place.part field.sql)))
        (both (typed_value && known_key) true (both typed_value known_key (adding op.AverageDistinct is refl refl) keyed) refl) (calculated (field_sort.Measure (Some op.AverageDistinct)) is refl)
    sort_typed (field_sort.Measure (Some op.Min)) is own = refl
    sort_typed (field_sort.Measure (Some op.Max)) is own = refl
    sort_typed (field_sort.Measure (Some op.Number)) is own = refl
    sort_typed (field_sort.Dimension t) is own = absurd (false≢true own)
    sort_typed field_sort.Group is own = absurd (false≢true own)

  pub with_typed : (m : NamedMeasure) (field : DeclaredField) → field_at views scope m.place ≡ Some field → exists views scope m.place ≡ true → has_sort sort.Measure field.sort ≡ true
      → (is_open (measure_with schema views scope columns m field).op || is_typed_measure leaves (measure_with schema views scope columns m field)) ≡ true
  with_typed m field at there own =
      let made = measure_with schema views scope columns m field in
      let kind_is : made.kind ≡ or_number (kind_of_measure field.sort (extreme_kind schema views scope columns Kept m.place)) =
      ap (λ o. or_number (option_and_then (λ (f : DeclaredField). kind_of_measure f.sort (extreme_kind schema views scope columns Kept m.place)) o)) at in
      ap (λ k. is_open made.op || (has_operands leaves made.op k made.value made.key && has_own_kind made.op k && is_calculated_rightly made.op made.number)) kind_is
      ∙ sort_typed m.place field at there field.sort refl own

  measure_if_typed : (m : NamedMeasure) → IsOfField views scope m → Every (λ n. is_open n.op || is_typed_measure leaves n) (measure_at schema views scope columns m)
  measure_if_typed m is =
      ap (λ o. list_all (λ (n : Measure). is_open n.op || is_typed_measure leaves n) (measure_if schema views scope columns m o)) is.at
      ∙ both (is_open (measure_with schema views scope columns m is.field).op || is_typed_measure leaves (measure_with schema views scope columns m is.field)) true (with_typed m is.field is.at is.there is.sort_is) refl

  pub measures_typed : list_all (λ n. is_open n.op || is_typed_measure leaves n) (all_measures schema views scope columns) ≡ true
  measures_typed = each (measures views scope) (measures_of_fields views scope)
    where
      each : (named : List NamedMeasure) → AllByRecursion (IsOfField views scope) named → list_all (λ (n : Measure). is_open n.op || is_typed_measure leaves n) (flat_map (measure_at schema views scope columns) named) ≡ true
      each [] h = refl
      each (m ∷ named) h =
          every-append (λ n. is_open n.op || is_typed_measure leaves n) (measure_at schema views scope columns m) (flat_map (measure_at schema views scope columns) named) (measure_if_typed m h.0) (each named h.1)
