-- Raw times of the model have the kinds of their groups, where each field has the code that its type takes.
use Rattle.std.proofs.Common.{◌≡◌, ◌∙◌, ℕ, Bool, true, false, ◌&&◌, ◌||◌, List, [], ◌∷◌, map, refl, ap, sym, subst, ◌⊎◌, inl, inr, Option, Some, None}
use Rattle.std.specs.Prelude.{if◌then◌else◌, ℤ, not, unwrap_or}
use Rattle.std.specs.List.{AllByRecursion, list_all}
use Rattle.std.specs.Option.{option_and_then, option_or}
use Rattle.std.proofs.lemmas.Bool.{false≢true}
use Rattle.lk_val.specs.declared.value.Value.{Value}
use Rattle.lk_val.specs.declared.value.Value.TheVariants as value
use Rattle.lk_types.specs.Dates.{are_literals_dated}
use Rattle.lk_types.specs.Formula.{Formula, Column, Literal, Framed, Not, And, Or, Compare, IsNull, In, Between, Like, Number, Negate, Concat, Lower, Upper, Case, Coalesce, NullIf, Formulas, no_more, more, Cases, without_else, otherwise, when}
use Rattle.lk_types.specs.Kinds.{comparable, do_all_compare, do_compare, every_kind, has_time, is_empty, is_same_kind, kind_at, kinds_framed, kinds_if, kinds_of, kinds_of_all, kinds_of_cases, kinds_of_column, kinds_of_value, only, shared, single, single_of}
use Rattle.lk_types.specs.declared.explore.Field.{Field}
use Rattle.lk_types.specs.declared.explore.Shape.TheVariants as shape
use Rattle.lk_types.specs.declared.kind_set.KindSet.{KindSet}
use Rattle.lk_types.specs.declared.kind_set.Leaves.{Leaves}
use Rattle.lk_types.specs.declared.schema.Frame.{Frame}
use Rattle.lk_types.specs.declared.schema.Frame.TheVariants as frame
use Rattle.lk_types.specs.declared.schema.Kind.{Kind}
use Rattle.lk_types.specs.declared.schema.Kind.TheVariants as kind
use Rattle.lk_types.specs.declared.schema.Schema.{Schema}
use Rattle.lk_objects.specs.declared.field.DeclaredField.{DeclaredField}
use Rattle.lk_objects.specs.declared.field.DimensionType.{DimensionType}
use Rattle.lk_objects.specs.declared.field.DimensionType.TheVariants as type
use Rattle.lk_objects.specs.declared.field.FieldSort.{FieldSort}
use Rattle.lk_objects.specs.declared.field.FieldSort.TheVariants as field_sort
use Rattle.lk_objects.specs.declared.view.DeclaredView.{DeclaredView}
use Rattle.lk_fields.specs.declared.scope.Place.{Place}
use Rattle.lk_fields.specs.declared.scope.Scope.{Scope}
use Rattle.lk_fields.specs.Existing.{exists, field_at}
use Rattle.lk_formulas.specs.declared.columns.ColumnKinds.{ColumnKinds}
use Rattle.lk_formulas.specs.declared.columns.UnknownColumn.TheVariants.{Kept, Null}
use Rattle.lk_formulas.specs.Columns.{column_named, known_kind}
use Rattle.lk_formulas.specs.FieldKinds.{dimension_kind, group_kind, is_sure, or_text, time_kind}
use Rattle.lk_formulas.specs.FormulaKinds.{kinds_in}
use Rattle.lk_formulas.specs.Formulas.{dated_of, ends, is_certain}
use Rattle.lk_field_faults.specs.ExploreFields.{explore_fields_fault}
use Rattle.lk_semantics.specs.Resolved.{has_shape_kind, has_tiers, is_settled, is_time_kind, is_typed_field, settled_kind}
use Rattle.lk_semantics.proofs.EveryLaws.{both}
use Rattle.lk_resolved.specs.Fields.{field_with, fields, shape_if, shape_with}
use Rattle.lk_resolved.specs.Formulas.{field_formula}
use Rattle.lk_resolved.specs.Names.{dimensions, group_number, groups}
use Rattle.lk_model_laws.specs.Typed.{is_raw, takes_expression}
use Rattle.lk_model_laws.proofs.CertainLaws.{certain}
use Rattle.lk_model_laws.proofs.ColumnLaws.{HasColumns}
use Rattle.lk_model_laws.proofs.CycleLaws.{fields_end}
use Rattle.lk_model_laws.proofs.DatedCodeLaws.{HasDatedCodes}
use Rattle.lk_model_laws.proofs.ExtremeTypedLaws.{HasCode, all_written, ended, expr_is}
use Rattle.lk_model_laws.proofs.FieldTypedLaws.{IsFramed, IsSorted, base_time, dimensions_sorted, made_typed, same_itself}
use Rattle.lk_model_laws.proofs.KeyTypedLaws.{not_missed}
use Rattle.lk_model_laws.proofs.MeasureTypedLaws.{missed}
use Rattle.lk_model_laws.proofs.NamedTypes.{NamedDimension}
use Rattle.lk_model_laws.proofs.SameFormulaLaws.{same_dated}
use Rattle.lk_model_laws.proofs.SortedCodeLaws.{HasSortedCode}
use Rattle.lk_model_laws.proofs.TierLaws.{HasBounds, place_tiers}
use Rattle.lk_model_laws.proofs.TypedLaws.{kinds_agree, of_field_dated}
use Rattle.lk_model_laws.proofs.ViewObjectLaws.{not_false}

-- ---- sets of kinds

abbrev IsTimeless : KindSet → Type 0
IsTimeless s = (s.day ≡ false) × (s.moment ≡ false)

abbrev IsTime : KindSet → Type 0
IsTime s = (s.text ≡ false) × (s.number ≡ false) × (s.truth ≡ false)

-- times stand by themselves or among all kinds
abbrev pub IsApart : KindSet → Type 0
IsApart s = IsTimeless s ⊎ (IsTime s ⊎ (s ≡ every_kind))

only_apart : (k : Kind) → IsApart (only k)
only_apart kind.Text = inl (refl, refl)
only_apart kind.Number = inl (refl, refl)
only_apart kind.Truth = inl (refl, refl)
only_apart kind.Day = inr (inl (refl, refl, refl))
only_apart kind.Moment = inr (inl (refl, refl, refl))

if_apart : (b : Bool) (s : KindSet) → IsApart s → IsApart (kinds_if b s)
if_apart true s h = h
if_apart false s h = inl (refl, refl)

shared_apart : (s t : KindSet) → IsApart s → IsApart t → IsApart (shared s t)
shared_apart s t (inl h) k = inl (ap (λ b. b && t.day) h.0, ap (λ b. b && t.moment) h.1)
shared_apart s t (inr (inl h)) k = inr (inl (ap (λ b. b && t.text) h.0, ap (λ b. b && t.number) h.1, ap (λ b. b && t.truth) h.2))
shared_apart s t (inr (inr h)) k = subst (λ z. IsApart (shared z t)) (sym h) k

comparable_apart : (s : KindSet) → IsApart s → IsApart (comparable s)
comparable_apart s (inl h) = let none : has_time s ≡ false = (λ i. h.0 i || s.moment) ∙ h.1 in inl (none, none)
comparable_apart s (inr (inl h)) = inr (inl h)
comparable_apart s (inr (inr h)) = inr (inr (ap comparable h))

column_apart : (k : Option Kind) → IsApart (kinds_of_column k)
column_apart None = inl (refl, refl)
column_apart (Some k) = only_apart k

value_apart : (v : Value) → IsApart (kinds_of_value v)
value_apart value.Null = inr (inr refl)
value_apart (value.Text t) = inl (refl, refl)
value_apart (value.Num n) = inl (refl, refl)
value_apart (value.Truth b) = inl (refl, refl)
value_apart (value.Day d) = inr (inl (refl, refl, refl))
value_apart (value.Moment m) = inr (inl (refl, refl, refl))

framed_apart : (f : Frame) (s : KindSet) → IsApart (kinds_framed f s)
framed_apart frame.Raw s = inr (inl (refl, refl, refl))
framed_apart frame.Time s = if_apart (has_time s) (only kind.Moment) (only_apart kind.Moment)
framed_apart frame.HourOfDay s = if_apart (has_time s) (only kind.Number) (only_apart kind.Number)
framed_apart frame.DayOfMonth s = if_apart (has_time s) (only kind.Number) (only_apart kind.Number)
framed_apart frame.MonthNum s = if_apart (has_time s) (only kind.Number) (only_apart kind.Number)
framed_apart frame.DayOfWeek s = if_apart (has_time s) (only kind.Text) (only_apart kind.Text)
framed_apart frame.Date s = if_apart (has_time s) (only kind.Day) (only_apart kind.Day)
framed_apart frame.Week s = if_apart (has_time s) (only kind.Day) (only_apart kind.Day)
framed_apart frame.Month s = if_apart (has_time s) (only kind.Day) (only_apart kind.Day)
framed_apart frame.Quarter s = if_apart (has_time s) (only kind.Day) (only_apart kind.Day)
framed_apart frame.Year s = if_apart (has_time s) (only kind.Day) (only_apart kind.Day)

truth_apart : (b : Bool) → IsApart (kinds_if b (only kind.Truth))
truth_apart b = if_apart b (only kind.Truth) (only_apart kind.Truth)

number_apart : (b : Bool) → IsApart (kinds_if b (only kind.Number))
number_apart b = if_apart b (only kind.Number) (only_apart kind.Number)

text_apart : (b : Bool) → IsApart (kinds_if b (only kind.Text))
text_apart b = if_apart b (only kind.Text) (only_apart kind.Text)

module _ (leaves : Leaves) where
  mutual
    pub kinds_apart : (e : Formula) → IsApart (kinds_of leaves e)
    kinds_apart (Column p c) = column_apart (kind_at leaves p c)
    kinds_apart (Literal v) = value_apart v
    kinds_apart (Framed f a) = framed_apart f (kinds_of leaves a)
    kinds_apart (Not a) = truth_apart (kinds_of leaves a).truth
    kinds_apart (And a b) = truth_apart ((kinds_of leaves a).truth && (kinds_of leaves b).truth)
    kinds_apart (Or a b) = truth_apart ((kinds_of leaves a).truth && (kinds_of leaves b).truth)
    kinds_apart (Compare c a b) = truth_apart (do_compare (kinds_of leaves a) (kinds_of leaves b))
    kinds_apart (IsNull a) = truth_apart (not (is_empty (kinds_of leaves a)))
    kinds_apart (In a xs) = truth_apart (not (is_empty (kinds_of leaves a)) && do_all_compare leaves (kinds_of leaves a) xs)
    kinds_apart (Between a low high) = truth_apart (do_compare (kinds_of leaves a) (kinds_of leaves low) && do_compare (kinds_of leaves a) (kinds_of leaves high))
    kinds_apart (Like a pieces) = truth_apart (kinds_of leaves a).text
    kinds_apart (Number o a b) = number_apart ((kinds_of leaves a).number && (kinds_of leaves b).number)
    kinds_apart (Negate a) = number_apart (kinds_of leaves a).number
    kinds_apart (Concat a b) = text_apart ((kinds_of leaves a).text && (kinds_of leaves b).text)
    kinds_apart (Lower a) = text_apart (kinds_of leaves a).text
    kinds_apart (Upper a) = text_apart (kinds_of leaves a).text
    kinds_apart (Case cases) = cases_apart cases
    kinds_apart (Coalesce xs) = all_apart xs
    kinds_apart (NullIf a b) = shared_apart (kinds_of leaves a) (comparable (kinds_of leaves b)) (kinds_apart a) (comparable_apart (kinds_of leaves b) (kinds_apart b))

    all_apart : (xs : Formulas) → IsApart (kinds_of_all leaves xs)
    all_apart no_more = inr (inr refl)
    all_apart (more a xs) = shared_apart (kinds_of leaves a) (kinds_of_all leaves xs) (kinds_apart a) (all_apart xs)

    cases_apart : (cases : Cases) → IsApart (kinds_of_cases leaves cases)
    cases_apart without_else = inr (inr refl)
    cases_apart (otherwise a) = kinds_apart a
    cases_apart (when c a rest) =
        if_apart (kinds_of leaves c).truth (shared (kinds_of leaves a) (kinds_of_cases leaves rest)) (shared_apart (kinds_of leaves a) (kinds_of_cases leaves rest) (kinds_apart a) (cases_apart rest))

-- the one of day and moment is the one kind
pub raw_single : (s : KindSet) → IsApart s → has_time s ≡ true → single (kinds_framed frame.Raw s) ≡ single s
raw_single s (inl h) time = let none : has_time s ≡ false = (λ i. h.0 i || s.moment) ∙ h.1 in absurd (false≢true (sym none ∙ time))
raw_single s (inr (inl h)) time = λ i. single_of (sym h.0 i) (sym h.1 i) (sym h.2 i) s.day s.moment
raw_single s (inr (inr h)) time = ap (λ z. single (kinds_framed frame.Raw z)) h ∙ sym (ap single h)

time_same : (k : Option Kind) → is_same_kind (or_text (option_or k (Some kind.Moment))) (unwrap_or k kind.Moment) ≡ true
time_same None = refl
time_same (Some k) = same_itself k

plain_other : (g : ℕ) (t : Option DimensionType) (tiers : List ℤ) → is_raw (shape_with g None (field_sort.Dimension t) tiers) ≡ false
plain_other g None tiers = refl
plain_other g (Some type.Text) tiers = refl
plain_other g (Some type.Number) tiers = refl
plain_other g (Some type.Tier) tiers = refl
plain_other g (Some type.Truth) tiers = refl

-- ---- fields

module _ (schema : Schema) (views : List DeclaredView) (scope : Scope) (columns : ColumnKinds) (leaves : Leaves)
    (known : (p : ℕ) (name : List ℕ) (c : ℕ) → column_named schema views scope p name ≡ Some c → (k : Kind) × (known_kind columns p c ≡ Some k))
    (same : (p c : ℕ) → known_kind columns p c ≡ kind_at leaves p c)
    (codes : AllByRecursion (λ v. AllByRecursion HasDatedCodes v.fields) views) (sorted : AllByRecursion (λ v. AllByRecursion HasSortedCode v.fields) views)
    (bounds : AllByRecursion (λ v. AllByRecursion HasBounds v.fields) views)
    (have : AllByRecursion (λ v. AllByRecursion (HasColumns schema v) v.fields) views) (given : AllByRecursion (λ v. AllByRecursion HasCode v.fields) views)
    (clear : explore_fields_fault schema views scope columns ≡ None) where
  raw_typed : (place : Place) (field : DeclaredField) (g : ℕ) → field_at views scope place ≡ Some field → exists views scope place ≡ true → field.sort ≡ field_sort.Group
      → has_shape_kind leaves (shape.Frame g frame.Raw) (or_text (group_kind schema views scope columns Kept place)) (field_formula schema views scope columns place) ≡ true
  raw_typed place field g at there is =
      let read = dated_of schema views scope columns Kept place in
      let kinds = kinds_of leaves read in
      let base = settled_kind leaves kind.Moment read in
      let agree = kinds_agree schema views scope columns leaves known same codes read in
      let ending = ended schema views scope columns leaves known same codes sorted have given clear place field at there in
      let tested = missed schema views scope columns leaves known same codes sorted clear place field at there field_sort.Group is refl in
      let null_kinds = kinds_in columns (dated_of schema views scope columns Null place) in
      let timed : has_time kinds ≡ true =
      ap has_time (sym agree) ∙ ap (λ e. has_time (kinds_in columns e)) (sym (same_dated schema views scope columns known place)) ∙ not_false (has_time null_kinds) tested in
      let some : is_empty kinds ≡ false =
      ap is_empty (sym agree) ∙ ap (λ e. is_empty (kinds_in columns e)) (sym (same_dated schema views scope columns known place)) ∙ not_missed field_sort.Group null_kinds tested in
      let sure : is_sure schema views scope columns Kept place ≡ true =
      both (ends views scope place) (is_certain schema views scope columns Kept place) ending
      (certain schema views scope columns Kept known have (all_written views given) (fields_end schema views scope columns clear) place field at (subst (λ z. takes_expression z ≡ true) (sym is) refl) there) in
      let group : group_kind schema views scope columns Kept place ≡ option_or (single kinds) (Some kind.Moment) =
      ap (λ b. time_kind (if b then kinds_in columns read else every_kind) (is_sure schema views scope columns Kept place)) ending
      ∙ ap (time_kind (kinds_in columns read)) sure ∙ ap (λ ks. time_kind ks true) agree
      ∙ ap (λ b. if b then None else option_or (single (kinds_framed frame.Raw kinds)) (Some kind.Moment)) some
      ∙ ap (λ o. option_or o (Some kind.Moment)) (raw_single kinds (kinds_apart leaves read) timed) in
      ap (λ e. has_shape_kind leaves (shape.Frame g frame.Raw) (or_text (group_kind schema views scope columns Kept place)) e) (expr_is schema views scope columns leaves known same codes sorted have given clear place field at there)
      ∙ ap (λ o. has_shape_kind leaves (shape.Frame g frame.Raw) (or_text o) read) group
      ∙ both (is_time_kind base && is_settled leaves kind.Moment base read) (is_same_kind (or_text (option_or (single kinds) (Some kind.Moment))) base)
      (both (is_time_kind base) (is_settled leaves kind.Moment base read) (base_time kinds.text kinds.number kinds.truth kinds.day kinds.moment timed)
      (both (not (is_empty kinds) && is_same_kind base base) (are_literals_dated read)
      (both (not (is_empty kinds)) (is_same_kind base base) (ap not some) (same_itself base)) (of_field_dated schema views scope columns codes Kept place)))
      (time_same (single kinds))

  shape_raw : (d : NamedDimension) (field : DeclaredField) (g : ℕ) (s : FieldSort) (f : Option Frame) → field_at views scope d.found.place ≡ Some field → exists views scope d.found.place ≡ true → field.sort ≡ s → IsFramed s f
      → is_raw (shape_with g f s field.tiers) ≡ true
      → has_shape_kind leaves (shape_with g f s field.tiers) (or_text (dimension_kind s f (group_kind schema views scope columns Kept d.found.place))) (field_formula schema views scope columns d.found.place) ≡ true
  shape_raw d field g field_sort.Group (Some frame.Raw) at there is framed raw = raw_typed d.found.place field g at there is
  shape_raw d field g field_sort.Group (Some frame.Time) at there is framed raw = absurd (false≢true raw)
  shape_raw d field g field_sort.Group (Some frame.Date) at there is framed raw = absurd (false≢true raw)
  shape_raw d field g field_sort.Group (Some frame.Week) at there is framed raw = absurd (false≢true raw)
  shape_raw d field g field_sort.Group (Some frame.Month) at there is framed raw = absurd (false≢true raw)
  shape_raw d field g field_sort.Group (Some frame.Quarter) at there is framed raw = absurd (false≢true raw)
  shape_raw d field g field_sort.Group (Some frame.Year) at there is framed raw = absurd (false≢true raw)
  shape_raw d field g field_sort.Group (Some frame.HourOfDay) at there is framed raw = absurd (false≢true raw)
  shape_raw d field g field_sort.Group (Some frame.DayOfWeek) at there is framed raw = absurd (false≢true raw)
  shape_raw d field g field_sort.Group (Some frame.DayOfMonth) at there is framed raw = absurd (false≢true raw)
  shape_raw d field g field_sort.Group (Some frame.MonthNum) at there is framed raw = absurd (false≢true raw)
  shape_raw d field g (field_sort.Dimension t) None at there is framed raw = absurd (false≢true (sym (plain_other g t field.tiers) ∙ raw))
  shape_raw d field g (field_sort.Dimension t) (Some f) at there is framed raw = absurd framed
  shape_raw d field g field_sort.Group None at there is framed raw = absurd framed
  shape_raw d field g (field_sort.Measure o) f at there is framed raw = absurd framed

  every_typed : (d : NamedDimension) → IsSorted views scope d → is_typed_field leaves (field_with schema views scope columns d) ≡ true
  every_typed d is = of_raw (is_raw made.shape) refl
    where
      made : Field
      made = field_with schema views scope columns d

      g : ℕ
      g = group_number (groups views scope) d.found.place

      shape_is : made.shape ≡ shape_with g d.found.frame is.field.sort is.field.tiers
      shape_is = ap (shape_if g d.found.frame) is.at

      kind_is : made.kind ≡ or_text (dimension_kind is.field.sort d.found.frame (group_kind schema views scope columns Kept d.found.place))
      kind_is = ap (λ o. or_text (option_and_then (λ (field : DeclaredField). dimension_kind field.sort d.found.frame (group_kind schema views scope columns Kept d.found.place)) o)) is.at

      of_raw : (b : Bool) → is_raw made.shape ≡ b → is_typed_field leaves made ≡ true
      of_raw true e =
          both (has_tiers made.shape) (has_shape_kind leaves made.shape made.kind made.expr) (place_tiers schema views scope columns bounds g d.found.frame d.found.place (field_at views scope d.found.place) refl)
          ((λ i. has_shape_kind leaves (shape_is i) (kind_is i) made.expr)
          ∙ shape_raw d is.field g is.field.sort d.found.frame is.at is.there refl is.framed (sym (ap is_raw shape_is) ∙ e))
      of_raw false e = sym (ap (λ b. b || is_typed_field leaves made) e) ∙ made_typed schema views scope columns leaves known same codes bounds clear d is

  pub all_fields_typed : list_all (is_typed_field leaves) (fields schema views scope columns) ≡ true
  all_fields_typed = each (dimensions views scope) (dimensions_sorted views scope)
    where
      each : (named : List NamedDimension) → AllByRecursion (IsSorted views scope) named → list_all (is_typed_field leaves) (map (field_with schema views scope columns) named) ≡ true
      each [] is = refl
      each (d ∷ named) is =
          both (is_typed_field leaves (field_with schema views scope columns d)) (list_all (is_typed_field leaves) (map (field_with schema views scope columns) named)) (every_typed d is.0) (each named is.1)
