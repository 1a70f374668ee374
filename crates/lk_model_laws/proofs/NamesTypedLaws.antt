-- Each measure that a measure of type number of the model names is a number.
use Rattle.std.proofs.Common.{◌≡◌, ◌∙◌, ℕ, zero, suc, Bool, true, false, ◌&&◌, ◌||◌, List, [], ◌∷◌, ◌++◌, map, length, refl, ap, sym, subst, Option, Some, None}
use Rattle.std.specs.Prelude.{flat_map, if◌then◌else◌, is_none, slice_get}
use Rattle.std.specs.List.{AllByRecursion, list_all, list_any}
use Rattle.std.specs.Option.{option_and_then}
use Rattle.std.proofs.lemmas.Bool.{false≢true}
use Rattle.lk_types.specs.Kinds.{every_kind, is_same_kind, kind_at}
use Rattle.lk_types.specs.declared.explore.Explore.{Explore}
use Rattle.lk_types.specs.declared.explore.Measure.{Measure}
use Rattle.lk_types.specs.declared.kind_set.Leaves.{Leaves}
use Rattle.lk_types.specs.declared.schema.Kind.{Kind}
use Rattle.lk_types.specs.declared.schema.Kind.TheVariants as kind
use Rattle.lk_types.specs.declared.schema.Schema.{Schema}
use Rattle.lk_objects.specs.declared.code.Code.{Code}
use Rattle.lk_objects.specs.declared.code.Code.TheVariants as code
use Rattle.lk_objects.specs.declared.code.Reference.{Reference}
use Rattle.lk_objects.specs.declared.code.Reference.TheVariants as reference
use Rattle.lk_objects.specs.declared.code.WrittenNumber.{WrittenNumber}
use Rattle.lk_objects.specs.declared.explore.DeclaredExplore.{DeclaredExplore}
use Rattle.lk_objects.specs.declared.field.DeclaredField.{DeclaredField}
use Rattle.lk_objects.specs.declared.view.DeclaredView.{DeclaredView}
use Rattle.lk_fields.specs.declared.scope.Found.{Found}
use Rattle.lk_fields.specs.declared.scope.Place.{Place}
use Rattle.lk_fields.specs.declared.scope.Scope.{Scope}
use Rattle.lk_fields.specs.declared.scope.Sort.TheVariants as sort
use Rattle.lk_fields.specs.declared.scope.Writer.{Writer}
use Rattle.lk_fields.specs.declared.scope.Writer.TheVariants as writer
use Rattle.lk_fields.specs.Existing as existing
use Rattle.lk_fields.specs.Existing.{all_places, exists, field_at, is_same_place, meant, referred}
use Rattle.lk_fields.proofs.LostLaws.{same_exact}
use Rattle.lk_formulas.specs.declared.columns.ColumnKinds.{ColumnKinds}
use Rattle.lk_formulas.specs.declared.columns.UnknownColumn.TheVariants.{Kept, Null}
use Rattle.lk_formulas.specs.Columns.{column_named, known_kind}
use Rattle.lk_formulas.specs.FieldKinds.{field_kinds, is_no_number, is_number, kind_of_measure, measure_kind, misses_kind, takes_no_number, value_kind}
use Rattle.lk_formulas.specs.FormulaKinds.{kinds_in}
use Rattle.lk_formulas.specs.Formulas.{certain_within, ends, field_named, is_certain, knows, knows_all, knows_field, knows_through}
use Rattle.lk_field_faults.specs.ExploreFields.{explore_fields_fault}
use Rattle.lk_semantics.specs.Answers as answers
use Rattle.lk_semantics.specs.Answers.{measures_in, no_measure}
use Rattle.lk_semantics.specs.Resolved.{named_measures, names_numbers}
use Rattle.lk_semantics.proofs.EveryLaws.{Every, both, every-append}
use Rattle.lk_resolved.specs.Explores.{explore_of}
use Rattle.lk_resolved.specs.Fields as resolved_fields
use Rattle.lk_resolved.specs.Fields.{all_measures, measure_at, measure_if, measure_with, number_named, or_number}
use Rattle.lk_resolved.specs.Names.{measures, or_zero}
use Rattle.lk_model_laws.proofs.DatedCodeLaws.{HasDatedCodes}
use Rattle.lk_model_laws.proofs.ExistingLaws.{IsKnownName, sql_known}
use Rattle.lk_model_laws.proofs.GroundedLaws.{IsReferred, IsReferredCode, IsToField, aligned, known_reference, meant_measure, number_is, renumbered_measures}
use Rattle.lk_model_laws.proofs.ListLaws.{got_or, position_at, position_found}
use Rattle.lk_model_laws.proofs.NamedTypes.{NamedMeasure}
use Rattle.lk_model_laws.proofs.NumberLaws.{IsOfField, measures_of_fields}
use Rattle.lk_model_laws.proofs.PieceLaws.{some_none}
use Rattle.lk_model_laws.proofs.SameFormulaLaws.{same_dated}
use Rattle.lk_model_laws.proofs.SortedCodeLaws.{HasSortedCode, IsSortedCode}
use Rattle.lk_model_laws.proofs.TypedLaws.{unclashing}
use Rattle.lk_model_laws.proofs.WholeExploreLaws.{placed_field}

-- ---- none of a list

any_none : {A : Type 0} (test : A → Bool) (xs ys : List A) → list_any test (xs ++ ys) ≡ false → list_any test xs ≡ false
any_none test [] ys h = refl
any_none test (x ∷ xs) ys h =
    elim (test x) as (λ b. (b || list_any test (xs ++ ys)) ≡ false → (b || list_any test xs) ≡ false) [ true ↦ λ e. e | false ↦ λ e. any_none test xs ys e ] h

any_rest : {A : Type 0} (test : A → Bool) (xs ys : List A) → list_any test (xs ++ ys) ≡ false → list_any test ys ≡ false
any_rest test [] ys h = h
any_rest test (x ∷ xs) ys h =
    elim (test x) as (λ b. (b || list_any test (xs ++ ys)) ≡ false → list_any test ys ≡ false) [ true ↦ λ e. absurd (false≢true (sym e)) | false ↦ λ e. any_rest test xs ys e ] h

any_first : {A : Type 0} (test : A → Bool) (x : A) (xs : List A) → list_any test (x ∷ xs) ≡ false → test x ≡ false
any_first test x xs h = elim (test x) as (λ b. (b || list_any test xs) ≡ false → b ≡ false) [ true ↦ λ e. e | false ↦ λ e. refl ] h

is_number_kind : (k : Option Kind) → is_no_number k ≡ false → is_same_kind (or_number k) kind.Number ≡ true
is_number_kind None h = refl
is_number_kind (Some kind.Number) h = refl
is_number_kind (Some kind.Text) h = absurd (false≢true (sym h))
is_number_kind (Some kind.Truth) h = absurd (false≢true (sym h))
is_number_kind (Some kind.Day) h = absurd (false≢true (sym h))
is_number_kind (Some kind.Moment) h = absurd (false≢true (sym h))

-- ---- what is certain does not depend on unknown columns

module _ (schema : Schema) (views : List DeclaredView) (scope : Scope) (columns : ColumnKinds) where
  module _ (f g : Place → Bool) (agree : (p : Place) → f p ≡ g p) where
    same_through : (o : Option Found) → knows_through schema views scope columns Null f o ≡ knows_through schema views scope columns Kept g o
    same_through None = refl
    same_through (Some found) = ap (λ b. ends views scope found.place && b) (agree found.place)

    same_knows : (w : Writer) (r : Reference) → knows schema views scope columns Null f w r ≡ knows schema views scope columns Kept g w r
    same_knows w (reference.Column name) = refl
    same_knows w (reference.Own name) = same_through (field_named views scope w sort.Dimension (reference.Own name))
    same_knows w (reference.Of view name) = same_through (field_named views scope w sort.Dimension (reference.Of view name))

    same_all : (w : Writer) (rs : List Reference) → list_all (knows schema views scope columns Null f w) rs ≡ list_all (knows schema views scope columns Kept g w) rs
    same_all w [] = refl
    same_all w (r ∷ rs) = λ i. same_knows w r i && same_all w rs i

    same_code : (w : Writer) (c : Code) → knows_all schema views scope columns Null f w c ≡ knows_all schema views scope columns Kept g w c
    same_code w (code.Expr written) = ap (λ b. is_none written.unknown_call && b) (same_all w written.references)
    same_code w (code.Number written) = refl
    same_code w code.Absent = refl
    same_code w code.Liquid = refl
    same_code w (code.Syntax place) = refl

    same_field : (part : ℕ) (o : Option DeclaredField) → knows_field schema views scope columns Null f part o ≡ knows_field schema views scope columns Kept g part o
    same_field part None = refl
    same_field part (Some field) = same_code (writer.Field part) field.sql

  same_within : (n : ℕ) (p : Place) → certain_within schema views scope columns Null n p ≡ certain_within schema views scope columns Kept n p
  same_within zero p = refl
  same_within (suc n) p = same_field (certain_within schema views scope columns Null n) (certain_within schema views scope columns Kept n) (same_within n) p.part (field_at views scope p)

  pub same_certain : (p : Place) → is_certain schema views scope columns Null p ≡ is_certain schema views scope columns Kept p
  same_certain p = same_within (length (all_places views scope)) p

module _ (schema : Schema) (views : List DeclaredView) (scope : Scope) (columns : ColumnKinds) (leaves : Leaves)
    (known : (p : ℕ) (name : List ℕ) (c : ℕ) → column_named schema views scope p name ≡ Some c → (k : Kind) × (known_kind columns p c ≡ Some k))
    (same : (p c : ℕ) → known_kind columns p c ≡ kind_at leaves p c)
    (codes : AllByRecursion (λ v. AllByRecursion HasDatedCodes v.fields) views) (sorted : AllByRecursion (λ v. AllByRecursion HasSortedCode v.fields) views)
    (clear : explore_fields_fault schema views scope columns ≡ None) where
  same_measure : (p : Place) → measure_kind schema views scope columns Null p ≡ measure_kind schema views scope columns Kept p
  same_measure p =
      ap (λ extreme. option_and_then (λ (field : DeclaredField). kind_of_measure field.sort extreme) (field_at views scope p)) (λ i. value_kind (kinds_same i) (ends views scope p && same_certain schema views scope columns p i))
    where
      kinds_same : field_kinds schema views scope columns Null p ≡ field_kinds schema views scope columns Kept p
      kinds_same = ap (λ e. if ends views scope p then kinds_in columns e else every_kind) (same_dated schema views scope columns known p)

  module _ (datagroup : Option (List ℕ) → ℕ) (x : DeclaredExplore) (right : (place : Place) (field : DeclaredField) → field_at views scope place ≡ Some field → IsReferredCode field.sql) where
    abbrev y : Explore
    y = explore_of schema views scope columns datagroup x

    abbrev IsNumbered : ℕ → Bool
    IsNumbered n = is_same_kind (answers.measure_at y n).kind kind.Number

    -- the measure that a name means is a number
    found_number : (found : Found) → exists views scope found.place ≡ true → list_any (λ (m : NamedMeasure). is_same_place m.place found.place) (measures views scope) ≡ true
        → takes_no_number schema views scope columns Null (Some found) ≡ false → IsNumbered (Rattle.lk_resolved.specs.Names.measure_number (measures views scope) found.place) ≡ true
    found_number found there inside fine =
        let k = position_found (λ (m : NamedMeasure). is_same_place m.place found.place) (measures views scope) inside in
        let at = position_at (λ (m : NamedMeasure). is_same_place m.place found.place) (measures views scope) k.0 k.1 in
        let of = aligned views scope schema columns (measures views scope) (measures_of_fields views scope) k.0 at.0 at.1 in
        let made = measure_with schema views scope columns at.0 of.0.field in
        let made_at : answers.measure_at y k.0 ≡ made = got_or y.measures k.0 no_measure made of.1 in
        ap (λ o. IsNumbered (or_zero o)) k.1
        ∙ ap (λ (m : Measure). is_same_kind m.kind kind.Number) made_at
        ∙ ap (λ (p : Place). is_same_kind (or_number (measure_kind schema views scope columns Kept p)) kind.Number) (same_exact at.0.place found.place at.2)
        ∙ ap (λ o. is_same_kind (or_number o) kind.Number) (sym (same_measure found.place))
        ∙ is_number_kind (measure_kind schema views scope columns Null found.place) fine

    -- that of a reference
    reference_fine : (part : ℕ) (rs : List Reference) (i : ℕ) (r : Reference) → slice_get rs i ≡ Some r → IsToField r
        → list_any (takes_no_number schema views scope columns Null) (flat_map (meant views scope part sort.Measure) rs) ≡ false → takes_no_number schema views scope columns Null (field_named views scope (writer.Field part) sort.Measure r) ≡ false
    reference_fine part [] i r at to h = absurd (some_none (sym at))
    reference_fine part (q ∷ rs) zero r at to h =
        let is : q ≡ r = cc in
        of_one r to (subst (λ z. list_any (takes_no_number schema views scope columns Null) (meant views scope part sort.Measure z) ≡ false) is
        (any_none (takes_no_number schema views scope columns Null) (meant views scope part sort.Measure q) (flat_map (meant views scope part sort.Measure) rs) h))
      where
        of_one : (z : Reference) → IsToField z → list_any (takes_no_number schema views scope columns Null) (meant views scope part sort.Measure z) ≡ false → takes_no_number schema views scope columns Null (field_named views scope (writer.Field part) sort.Measure z) ≡ false
        of_one (reference.Own name) to e = any_first (takes_no_number schema views scope columns Null) (field_named views scope (writer.Field part) sort.Measure (reference.Own name)) [] e
        of_one (reference.Of view name) to e = any_first (takes_no_number schema views scope columns Null) (field_named views scope (writer.Field part) sort.Measure (reference.Of view name)) [] e
        of_one (reference.Column name) to e = absurd to
    reference_fine part (q ∷ rs) (suc i) r at to h =
        reference_fine part rs i r at to (any_rest (takes_no_number schema views scope columns Null) (meant views scope part sort.Measure q) (flat_map (meant views scope part sort.Measure) rs) h)

    calculation_typed : (part : ℕ) (written : WrittenNumber) → AllByRecursion (IsKnownName views scope) (flat_map (meant views scope part sort.Measure) written.references)
        → list_any (takes_no_number schema views scope columns Null) (flat_map (meant views scope part sort.Measure) written.references) ≡ false
        → (is : List ℕ) → AllByRecursion (IsReferred written.references) is → list_all IsNumbered (map (λ i. number_named views scope part (slice_get written.references i)) is) ≡ true
    calculation_typed part written names fine [] to = refl
    calculation_typed part written names fine (i ∷ is) to =
        let s : ℕ → ℕ = λ j. number_named views scope part (slice_get written.references j) in
        both (IsNumbered (s i)) (list_all IsNumbered (map s is)) (one to.0) (calculation_typed part written names fine is to.1)
      where
        one : IsReferred written.references i → IsNumbered (number_named views scope part (slice_get written.references i)) ≡ true
        one of =
            let name = known_reference views scope part sort.Measure written.references i of.0 of.1 of.2 names in
            ap (λ o. IsNumbered (number_named views scope part o)) of.1 ∙ ap IsNumbered (number_is views scope part of.0 name.0 name.1)
            ∙ found_number name.0 name.2 (meant_measure views scope part of.0 name.0 name.1 name.2)
            (ap (takes_no_number schema views scope columns Null) (sym name.1) ∙ reference_fine part written.references i of.0 of.1 of.2 fine)

    code_typed : (part : ℕ) (field : DeclaredField) (c : Code) (made : Measure) → field.sql ≡ c → IsReferredCode c → IsSortedCode field.sort c → AllByRecursion (IsKnownName views scope) (existing.meant_in views scope part c)
        → (is_number field.sort ≡ true → list_any (takes_no_number schema views scope columns Null) (existing.meant_in views scope part c) ≡ false)
        → list_all IsNumbered (named_measures (record made { number = resolved_fields.number_with views scope part c })) ≡ true
    code_typed part field (code.Number written) made is right_code own names fine =
        ap (list_all IsNumbered) (renumbered_measures (λ i. number_named views scope part (slice_get written.references i)) written.expr)
        ∙ calculation_typed part written names (fine own) (measures_in written.expr) right_code
    code_typed part field (code.Expr written) made is right_code own names fine = refl
    code_typed part field code.Absent made is right_code own names fine = refl
    code_typed part field code.Liquid made is right_code own names fine = refl
    code_typed part field (code.Syntax place) made is right_code own names fine = refl

    with_names : (m : NamedMeasure) (field : DeclaredField) → field_at views scope m.place ≡ Some field → exists views scope m.place ≡ true → names_numbers y (measure_with schema views scope columns m field) ≡ true
    with_names m field at there =
        code_typed m.place.part field field.sql (measure_with schema views scope columns m field) refl (right m.place field at) (placed_field HasSortedCode views sorted scope m.place field at) (sql_known views scope m.place field at there)
        (λ is. any_none (takes_no_number schema views scope columns Null) (existing.meant_in views scope m.place.part field.sql) (existing.meant_in views scope m.place.part field.key)
        (sym (ap (λ b. if b then list_any (takes_no_number schema views scope columns Null) (referred views scope m.place.part field) else misses_kind field.sort (field_kinds schema views scope columns Null m.place)) is)
        ∙ unclashing schema views scope columns leaves known same codes clear m.place field at there))

    measure_if_names : (m : NamedMeasure) → IsOfField views scope m → Every (names_numbers y) (measure_at schema views scope columns m)
    measure_if_names m is =
        ap (λ o. list_all (names_numbers y) (measure_if schema views scope columns m o)) is.at
        ∙ both (names_numbers y (measure_with schema views scope columns m is.field)) true (with_names m is.field is.at is.there) refl

    pub all_names_numbers : list_all (names_numbers y) y.measures ≡ true
    all_names_numbers = each (measures views scope) (measures_of_fields views scope)
      where
        each : (named : List NamedMeasure) → AllByRecursion (IsOfField views scope) named → list_all (names_numbers y) (flat_map (measure_at schema views scope columns) named) ≡ true
        each [] h = refl
        each (m ∷ named) h = every-append (names_numbers y) (measure_at schema views scope columns m) (flat_map (measure_at schema views scope columns) named) (measure_if_names m h.0) (each named h.1)
