-- The measures of the model have what their types compute with, where each field has the code that its type takes.
use Rattle.std.proofs.Common.{◌≡◌, ◌∙◌, ℕ, Bool, true, false, ◌&&◌, ◌||◌, List, [], ◌∷◌, refl, ap, sym, subst, Option, Some, None}
use Rattle.std.specs.Prelude.{flat_map, if◌then◌else◌, not, unwrap_or}
use Rattle.std.specs.List.{AllByRecursion, list_all}
use Rattle.std.specs.Option.{option_and_then, option_or}
use Rattle.std.proofs.lemmas.Bool.{false≢true}
use Rattle.lk_types.specs.Dates.{are_literals_dated}
use Rattle.lk_types.specs.Formula.{Formula}
use Rattle.lk_types.specs.Kinds.{every_kind, is_empty, is_same_kind, kind_at, kinds_of, single}
use Rattle.lk_types.specs.declared.explore.Measure.{Measure}
use Rattle.lk_types.specs.declared.explore.Op.{Op}
use Rattle.lk_types.specs.declared.explore.Op.TheVariants as op
use Rattle.lk_types.specs.declared.kind_set.Leaves.{Leaves}
use Rattle.lk_types.specs.declared.schema.Kind.{Kind}
use Rattle.lk_types.specs.declared.schema.Kind.TheVariants as kind
use Rattle.lk_types.specs.declared.schema.Schema.{Schema}
use Rattle.lk_objects.specs.declared.code.Code.{Code}
use Rattle.lk_objects.specs.declared.code.Code.TheVariants as code
use Rattle.lk_objects.specs.declared.field.DeclaredField.{DeclaredField}
use Rattle.lk_objects.specs.declared.field.FieldSort.{FieldSort}
use Rattle.lk_objects.specs.declared.field.FieldSort.TheVariants as field_sort
use Rattle.lk_objects.specs.declared.view.DeclaredView.{DeclaredView}
use Rattle.lk_fields.specs.declared.scope.Place.{Place}
use Rattle.lk_fields.specs.declared.scope.Scope.{Scope}
use Rattle.lk_fields.specs.Existing.{exists, field_at}
use Rattle.lk_formulas.specs.declared.columns.ColumnKinds.{ColumnKinds}
use Rattle.lk_formulas.specs.declared.columns.UnknownColumn.TheVariants.{Kept, Null}
use Rattle.lk_formulas.specs.Columns.{column_named, known_kind}
use Rattle.lk_formulas.specs.FieldKinds.{extreme_kind, is_number, is_sure, kind_of_measure, value_kind}
use Rattle.lk_formulas.specs.FormulaKinds.{kinds_in}
use Rattle.lk_formulas.specs.Formulas.{dated_of, ends, is_certain}
use Rattle.lk_field_faults.specs.ExploreFields.{explore_fields_fault}
use Rattle.lk_fields.specs.Scopes.{has_sort}
use Rattle.lk_fields.specs.declared.scope.Sort.TheVariants as sort
use Rattle.lk_semantics.specs.Resolved.{has_calculation, is_settled, is_some_settled, is_typed_measure, settled_kind}
use Rattle.lk_semantics.proofs.EveryLaws.{both, every-append}
use Rattle.lk_resolved.specs.Fields as resolved_fields
use Rattle.lk_resolved.specs.Fields.{all_measures, measure_at, measure_if, measure_with, or_number}
use Rattle.lk_resolved.specs.Formulas.{field_formula}
use Rattle.lk_resolved.specs.Names.{measures}
use Rattle.lk_model_laws.specs.Typed.{has_code, is_calculation, is_expression, is_open, takes_expression}
use Rattle.lk_model_laws.proofs.CertainLaws.{IsWritten, certain}
use Rattle.lk_model_laws.proofs.ColumnLaws.{HasColumns}
use Rattle.lk_model_laws.proofs.CycleLaws.{fields_end}
use Rattle.lk_model_laws.proofs.DatedCodeLaws.{HasDatedCodes}
use Rattle.lk_model_laws.proofs.FieldTypedLaws.{same_itself}
use Rattle.lk_model_laws.proofs.KeyTypedLaws.{not_missed}
use Rattle.lk_model_laws.proofs.ListLaws.{all_more}
use Rattle.lk_model_laws.proofs.MeasureTypedLaws.{calculated, missed, with_typed}
use Rattle.lk_model_laws.proofs.NamedTypes.{NamedMeasure}
use Rattle.lk_model_laws.proofs.NumberLaws.{IsOfField, measures_of_fields}
use Rattle.lk_model_laws.proofs.SameFormulaLaws.{same_dated}
use Rattle.lk_model_laws.proofs.SortedCodeLaws.{HasSortedCode}
use Rattle.lk_model_laws.proofs.TestedFieldLaws.{formula_is}
use Rattle.lk_model_laws.proofs.TypedLaws.{kinds_agree, of_field_dated}
use Rattle.lk_model_laws.proofs.WholeExploreLaws.{placed_field}

-- ---- codes

abbrev pub HasCode : DeclaredField → Type 0
HasCode f = has_code f.sort f.sql ≡ true

written_given : (s : FieldSort) (c : Code) → has_code s c ≡ true → takes_expression s ≡ true → is_expression c ≡ true
written_given (field_sort.Dimension t) c h takes = h
written_given field_sort.Group c h takes = h
written_given (field_sort.Measure None) c h takes = absurd (false≢true takes)
written_given (field_sort.Measure (Some op.Count)) c h takes = absurd (false≢true takes)
written_given (field_sort.Measure (Some op.Number)) c h takes = absurd (false≢true takes)
written_given (field_sort.Measure (Some op.CountDistinct)) c h takes = h
written_given (field_sort.Measure (Some op.Sum)) c h takes = h
written_given (field_sort.Measure (Some op.Average)) c h takes = h
written_given (field_sort.Measure (Some op.Min)) c h takes = h
written_given (field_sort.Measure (Some op.Max)) c h takes = h
written_given (field_sort.Measure (Some op.SumDistinct)) c h takes = h
written_given (field_sort.Measure (Some op.AverageDistinct)) c h takes = h

pub all_written : (views : List DeclaredView) → AllByRecursion (λ v. AllByRecursion HasCode v.fields) views → AllByRecursion (λ v. AllByRecursion IsWritten v.fields) views
all_written views given =
    all_more (λ v. AllByRecursion HasCode v.fields) (λ v. AllByRecursion IsWritten v.fields) (λ v h. all_more HasCode IsWritten (λ f g. written_given f.sort f.sql g) v.fields h) views given

-- ---- kinds

extreme_same : (k : Option Kind) → is_same_kind (or_number (option_or k (Some kind.Text))) (unwrap_or k kind.Text) ≡ true
extreme_same None = refl
extreme_same (Some k) = same_itself k

module _ (schema : Schema) (views : List DeclaredView) (scope : Scope) (columns : ColumnKinds) (leaves : Leaves)
    (known : (p : ℕ) (name : List ℕ) (c : ℕ) → column_named schema views scope p name ≡ Some c → (k : Kind) × (known_kind columns p c ≡ Some k))
    (same : (p c : ℕ) → known_kind columns p c ≡ kind_at leaves p c)
    (codes : AllByRecursion (λ v. AllByRecursion HasDatedCodes v.fields) views) (sorted : AllByRecursion (λ v. AllByRecursion HasSortedCode v.fields) views)
    (have : AllByRecursion (λ v. AllByRecursion (HasColumns schema v) v.fields) views) (given : AllByRecursion (λ v. AllByRecursion HasCode v.fields) views)
    (clear : explore_fields_fault schema views scope columns ≡ None) where
  module _ (place : Place) (field : DeclaredField) (at : field_at views scope place ≡ Some field) (there : exists views scope place ≡ true) where
    abbrev read : Formula
    read = dated_of schema views scope columns Kept place

    pub ended : ends views scope place ≡ true
    ended = fields_end schema views scope columns clear place there

    pub expr_is : field_formula schema views scope columns place ≡ read
    expr_is = formula_is schema views scope columns clear place field at there

    extreme_typed : (s : FieldSort) → field.sort ≡ s → is_number s ≡ false → takes_expression s ≡ true
        → is_some_settled leaves kind.Text (or_number (extreme_kind schema views scope columns Kept place)) (Some (field_formula schema views scope columns place)) ≡ true
    extreme_typed s is other takes =
        let kinds = kinds_of leaves read in
        let agree = kinds_agree schema views scope columns leaves known same codes read in
        let filled : is_empty kinds ≡ false =
        ap is_empty (sym agree) ∙ ap (λ e. is_empty (kinds_in columns e)) (sym (same_dated schema views scope columns known place))
        ∙ not_missed s (kinds_in columns (dated_of schema views scope columns Null place)) (missed schema views scope columns leaves known same codes sorted clear place field at there s is other) in
        let sure : is_sure schema views scope columns Kept place ≡ true =
        both (ends views scope place) (is_certain schema views scope columns Kept place) ended
        (certain schema views scope columns Kept known have (all_written views given) (fields_end schema views scope columns clear) place field at (subst (λ z. takes_expression z ≡ true) (sym is) takes) there) in
        let extreme : extreme_kind schema views scope columns Kept place ≡ option_or (single kinds) (Some kind.Text) =
        ap (λ b. value_kind (if b then kinds_in columns read else every_kind) (is_sure schema views scope columns Kept place)) ended
        ∙ ap (value_kind (kinds_in columns read)) sure ∙ ap (λ ks. value_kind ks true) agree ∙ ap (λ b. if b then None else option_or (single kinds) (Some kind.Text)) filled in
        ap (λ e. is_some_settled leaves kind.Text (or_number (extreme_kind schema views scope columns Kept place)) (Some e)) expr_is
        ∙ ap (λ o. is_settled leaves kind.Text (or_number o) read) extreme
        ∙ both (not (is_empty kinds) && is_same_kind (or_number (option_or (single kinds) (Some kind.Text))) (settled_kind leaves kind.Text read)) (are_literals_dated read)
        (both (not (is_empty kinds)) (is_same_kind (or_number (option_or (single kinds) (Some kind.Text))) (settled_kind leaves kind.Text read)) (ap not filled) (extreme_same (single kinds)))
        (of_field_dated schema views scope columns codes Kept place)

    calculation_there : (c : Code) → is_calculation c ≡ true → has_calculation (resolved_fields.number_with views scope place.part c) ≡ true
    calculation_there (code.Number written) h = refl
    calculation_there (code.Expr written) h = absurd (false≢true h)
    calculation_there code.Absent h = absurd (false≢true h)
    calculation_there code.Liquid h = absurd (false≢true h)
    calculation_there (code.Syntax p) h = absurd (false≢true h)

  -- one of the open types
  opened : (m : NamedMeasure) (field : DeclaredField) → field_at views scope m.place ≡ Some field → exists views scope m.place ≡ true → has_sort sort.Measure field.sort ≡ true
      → is_open (resolved_fields.op_with field.sort) ≡ true → is_typed_measure leaves (measure_with schema views scope columns m field) ≡ true
  opened m field at there own is_one = ap (λ k. typed_of k) kind_is ∙ of_sort field.sort refl is_one
    where
      made : Measure
      made = measure_with schema views scope columns m field

      typed_of : Kind → Bool
      typed_of k = is_typed_measure leaves (record made { kind = k })

      kind_is : made.kind ≡ or_number (kind_of_measure field.sort (extreme_kind schema views scope columns Kept m.place))
      kind_is = ap (λ o. or_number (option_and_then (λ (f : DeclaredField). kind_of_measure f.sort (extreme_kind schema views scope columns Kept m.place)) o)) at

      extreme : (o : Op) → field.sort ≡ field_sort.Measure (Some o) → is_number (field_sort.Measure (Some o)) ≡ false → takes_expression (field_sort.Measure (Some o)) ≡ true
          → (is_some_settled leaves kind.Text (or_number (extreme_kind schema views scope columns Kept m.place)) (Some (field_formula schema views scope columns m.place)) && true && true && not (has_calculation (resolved_fields.number_with views scope m.place.part field.sql))) ≡ true
      extreme o is other takes =
          let settled = is_some_settled leaves kind.Text (or_number (extreme_kind schema views scope columns Kept m.place)) (Some (field_formula schema views scope columns m.place)) in
          both (settled && true && true) (not (has_calculation (resolved_fields.number_with views scope m.place.part field.sql)))
          (both (settled && true) true (both settled true (extreme_typed m.place field at there (field_sort.Measure (Some o)) is other takes) refl) refl)
          (calculated schema views scope columns leaves known same codes sorted clear m.place field at there (field_sort.Measure (Some o)) is other)

      by_sort : FieldSort → Bool
      by_sort s =
          Rattle.lk_semantics.specs.Resolved.has_operands leaves (resolved_fields.op_with s) (or_number (kind_of_measure s (extreme_kind schema views scope columns Kept m.place)))
          (resolved_fields.value_if (resolved_fields.op_with s) (field_formula schema views scope columns m.place))
          (resolved_fields.key_if (resolved_fields.op_with s) made_key)
          && Rattle.lk_semantics.specs.Resolved.has_own_kind (resolved_fields.op_with s) (or_number (kind_of_measure s (extreme_kind schema views scope columns Kept m.place)))
          && Rattle.lk_semantics.specs.Resolved.is_calculated_rightly (resolved_fields.op_with s) (resolved_fields.number_with views scope m.place.part field.sql)
        where
          made_key : Formula
          made_key = Rattle.lk_resolved.specs.Formulas.code_formula schema views scope columns (Rattle.lk_fields.specs.declared.scope.Writer.TheVariants.Field m.place.part) field.key

      of_sort : (s : FieldSort) → field.sort ≡ s → is_open (resolved_fields.op_with s) ≡ true → by_sort s ≡ true
      of_sort (field_sort.Measure (Some op.Min)) is h = extreme op.Min is refl refl
      of_sort (field_sort.Measure (Some op.Max)) is h = extreme op.Max is refl refl
      of_sort (field_sort.Measure (Some op.Number)) is h =
          calculation_there m.place field at there field.sql (ap (λ s. has_code s field.sql) (sym is) ∙ placed_field HasCode views given scope m.place field at)
      of_sort (field_sort.Measure (Some op.Count)) is h = absurd (false≢true h)
      of_sort (field_sort.Measure (Some op.CountDistinct)) is h = absurd (false≢true h)
      of_sort (field_sort.Measure (Some op.Sum)) is h = absurd (false≢true h)
      of_sort (field_sort.Measure (Some op.Average)) is h = absurd (false≢true h)
      of_sort (field_sort.Measure (Some op.SumDistinct)) is h = absurd (false≢true h)
      of_sort (field_sort.Measure (Some op.AverageDistinct)) is h = absurd (false≢true h)
      of_sort (field_sort.Measure None) is h = absurd (false≢true h)
      of_sort (field_sort.Dimension t) is h = absurd (false≢true h)
      of_sort field_sort.Group is h = absurd (false≢true h)

  with_all : (m : NamedMeasure) (field : DeclaredField) → field_at views scope m.place ≡ Some field → exists views scope m.place ≡ true → has_sort sort.Measure field.sort ≡ true
      → is_typed_measure leaves (measure_with schema views scope columns m field) ≡ true
  with_all m field at there own = of_open (is_open (resolved_fields.op_with field.sort)) refl
    where
      of_open : (b : Bool) → is_open (resolved_fields.op_with field.sort) ≡ b → is_typed_measure leaves (measure_with schema views scope columns m field) ≡ true
      of_open true is = opened m field at there own is
      of_open false is =
          sym (ap (λ b. b || is_typed_measure leaves (measure_with schema views scope columns m field)) is) ∙ with_typed schema views scope columns leaves known same codes sorted clear m field at there own

  pub all_typed : list_all (is_typed_measure leaves) (all_measures schema views scope columns) ≡ true
  all_typed = each (measures views scope) (measures_of_fields views scope)
    where
      each : (named : List NamedMeasure) → AllByRecursion (IsOfField views scope) named → list_all (is_typed_measure leaves) (flat_map (measure_at schema views scope columns) named) ≡ true
      each [] h = refl
      each (m ∷ named) h =
          every-append (is_typed_measure leaves) (measure_at schema views scope columns m) (flat_map (measure_at schema views scope columns) named)
          (ap (λ o. list_all (is_typed_measure leaves) (measure_if schema views scope columns m o)) h.0.at
          ∙ both (is_typed_measure leaves (measure_with schema views scope columns m h.0.field)) true (with_all m h.0.field h.0.at h.0.there h.0.sort_is) refl)
          (each named h.1)
