-- The key of each view of the model has some kind, as each of its fields has.
use Rattle.std.proofs.Common.{◌≡◌, ◌∙◌, ℕ, zero, suc, ◌+◌, Bool, true, false, ◌||◌, List, [], ◌∷◌, length, refl, ap, sym, subst, Option, Some, None}
use Rattle.std.specs.Prelude.{if◌then◌else◌, not}
use Rattle.std.specs.List.{AllByRecursion, list_all}
use Rattle.std.specs.Option.{option_map}
use Rattle.std.proofs.lemmas.Bool.{false≢true}
use Rattle.lk_types.specs.Kinds.{has_kind, has_time, is_empty, kind_at}
use Rattle.lk_types.specs.declared.kind_set.KindSet.{KindSet}
use Rattle.lk_types.specs.declared.kind_set.Leaves.{Leaves}
use Rattle.lk_types.specs.declared.schema.Kind.{Kind}
use Rattle.lk_types.specs.declared.schema.Kind.TheVariants as kind
use Rattle.lk_types.specs.declared.schema.Schema.{Schema}
use Rattle.lk_objects.specs.declared.code.Code.{Code}
use Rattle.lk_objects.specs.declared.code.Code.TheVariants as code
use Rattle.lk_objects.specs.declared.field.DeclaredField.{DeclaredField}
use Rattle.lk_objects.specs.declared.field.FieldSort.{FieldSort}
use Rattle.lk_objects.specs.declared.field.FieldSort.TheVariants as field_sort
use Rattle.lk_objects.specs.declared.view.DeclaredView.{DeclaredView}
use Rattle.lk_fields.specs.declared.scope.Place.{Place}
use Rattle.lk_fields.specs.declared.scope.Scope.{Scope}
use Rattle.lk_fields.specs.declared.scope.ScopePart.{ScopePart}
use Rattle.lk_fields.specs.declared.scope.Writer.TheVariants as writer
use Rattle.lk_fields.specs.Existing.{all_places, exists, field_at, fields_at}
use Rattle.lk_formulas.specs.declared.columns.ColumnKinds.{ColumnKinds}
use Rattle.lk_formulas.specs.declared.columns.UnknownColumn.TheVariants.{Null}
use Rattle.lk_formulas.specs.Columns.{column_named, known_kind}
use Rattle.lk_formulas.specs.FieldKinds.{adds_numbers, is_number, kind_of_type, misses_kind, or_text}
use Rattle.lk_formulas.specs.FormulaKinds.{kinds_in}
use Rattle.lk_formulas.specs.Formulas.{as_read, dated_of, expanded, expanded_field, formula_within, null}
use Rattle.lk_field_faults.specs.ExploreFields.{explore_fields_fault}
use Rattle.lk_scope.specs.Keys.{key_in, key_of, place_if_exists}
use Rattle.lk_semantics.specs.Resolved.{has_typed_key, is_some_known}
use Rattle.lk_semantics.proofs.EveryLaws.{both}
use Rattle.lk_resolved.specs.Explores.{part_with, parts_from}
use Rattle.lk_resolved.specs.Formulas.{field_formula}
use Rattle.lk_model_laws.proofs.DatedCodeLaws.{HasDatedCodes}
use Rattle.lk_model_laws.proofs.ExistingLaws.{field_there}
use Rattle.lk_model_laws.proofs.MeasureTypedLaws.{end, field_known, missed}
use Rattle.lk_model_laws.proofs.PieceLaws.{some_none}
use Rattle.lk_model_laws.proofs.PlaceLaws.{or_left, or_right}
use Rattle.lk_model_laws.proofs.SortedCodeLaws.{HasSortedCode, IsSortedCode}
use Rattle.lk_model_laws.proofs.ViewObjectLaws.{not_false}
use Rattle.lk_model_laws.proofs.WholeExploreLaws.{placed_field}

-- ---- sets that are not empty

some_kind : (k : Kind) (s : KindSet) → has_kind k s ≡ true → is_empty s ≡ false
some_kind kind.Text s h = ap not (or_left s.text (s.number || (s.truth || (s.day || s.moment))) h)
some_kind kind.Number s h = ap not (or_right s.text (s.number || (s.truth || (s.day || s.moment))) (or_left s.number (s.truth || (s.day || s.moment)) h))
some_kind kind.Truth s h = ap not (or_right s.text (s.number || (s.truth || (s.day || s.moment))) (or_right s.number (s.truth || (s.day || s.moment)) (or_left s.truth (s.day || s.moment) h)))
some_kind kind.Day s h =
    ap not (or_right s.text (s.number || (s.truth || (s.day || s.moment))) (or_right s.number (s.truth || (s.day || s.moment)) (or_right s.truth (s.day || s.moment) (or_left s.day s.moment h))))
some_kind kind.Moment s h =
    ap not (or_right s.text (s.number || (s.truth || (s.day || s.moment))) (or_right s.number (s.truth || (s.day || s.moment)) (or_right s.truth (s.day || s.moment) (or_right s.day s.moment h))))

some_time : (s : KindSet) → has_time s ≡ true → is_empty s ≡ false
some_time s h = ap not (or_right s.text (s.number || (s.truth || (s.day || s.moment))) (or_right s.number (s.truth || (s.day || s.moment)) (or_right s.truth (s.day || s.moment) h)))

pub not_missed : (s : FieldSort) (kinds : KindSet) → misses_kind s kinds ≡ false → is_empty kinds ≡ false
not_missed (field_sort.Dimension t) kinds h = some_kind (or_text (kind_of_type t)) kinds (not_false (has_kind (or_text (kind_of_type t)) kinds) h)
not_missed field_sort.Group kinds h = some_time kinds (not_false (has_time kinds) h)
not_missed (field_sort.Measure o) kinds h = of_adding (adds_numbers o) h
  where
    of_adding : (b : Bool) → (if b then not (has_kind kind.Number kinds) else is_empty kinds) ≡ false → is_empty kinds ≡ false
    of_adding true e = some_kind kind.Number kinds (not_false (has_kind kind.Number kinds) e)
    of_adding false e = e

module _ (schema : Schema) (views : List DeclaredView) (scope : Scope) (columns : ColumnKinds) (leaves : Leaves)
    (known : (p : ℕ) (name : List ℕ) (c : ℕ) → column_named schema views scope p name ≡ Some c → (k : Kind) × (known_kind columns p c ≡ Some k))
    (same : (p c : ℕ) → known_kind columns p c ≡ kind_at leaves p c)
    (codes : AllByRecursion (λ v. AllByRecursion HasDatedCodes v.fields) views) (sorted : AllByRecursion (λ v. AllByRecursion HasSortedCode v.fields) views)
    (clear : explore_fields_fault schema views scope columns ≡ None) where
  -- a calculation is no expression
  code_null : (further : Place → _) (part : ℕ) (s : FieldSort) (c : Code) → is_number s ≡ true → IsSortedCode s c → expanded schema views scope columns Null (as_read columns) further (writer.Field part) c ≡ null
  code_null further part s (code.Expr written) is h = absurd (false≢true (sym h ∙ is))
  code_null further part s (code.Number written) is h = refl
  code_null further part s code.Absent is h = refl
  code_null further part s code.Liquid is h = refl
  code_null further part s (code.Syntax place) is h = refl

  within_null : (n : ℕ) (place : Place) (field : DeclaredField) → field_at views scope place ≡ Some field → is_number field.sort ≡ true → formula_within schema views scope columns Null (as_read columns) n place ≡ null
  within_null zero place field at is = refl
  within_null (suc n) place field at is =
      ap (expanded_field schema views scope columns Null (as_read columns) (formula_within schema views scope columns Null (as_read columns) n) place.part) at
      ∙ code_null (formula_within schema views scope columns Null (as_read columns) n) place.part field.sort field.sql is (placed_field HasSortedCode views sorted scope place field at)

  -- each field has some kind
  pub some_known : (place : Place) → exists views scope place ≡ true → is_some_known leaves (Some (field_formula schema views scope columns place)) ≡ true
  some_known place there =
      let at = field_there views scope place there in
      field_known schema views scope columns leaves known same codes sorted clear place (end schema views scope columns leaves known same codes sorted clear place at.0 at.1 there) (of_number at.0 at.1 (is_number at.0.sort) refl)
    where
      of_number : (field : DeclaredField) → field_at views scope place ≡ Some field → (b : Bool) → is_number field.sort ≡ b → is_empty (kinds_in columns (dated_of schema views scope columns Null place)) ≡ false
      of_number field at true is = ap (λ e. is_empty (kinds_in columns e)) (within_null (length (all_places views scope)) place field at is)
      of_number field at false is = not_missed field.sort (kinds_in columns (dated_of schema views scope columns Null place)) (missed schema views scope columns leaves known same codes sorted clear place field at there field.sort refl is)

  -- ---- keys

  key_there : (part n : ℕ) (own : List DeclaredField) (place : Place) → key_in views scope part n own ≡ Some place → exists views scope place ≡ true
  key_there part n [] place h = absurd (some_none (sym h))
  key_there part n (field ∷ own) place h = of_key (key_there part (n + 1) own place) field.is_key h
    where
      here : Place
      here = record { part = part; field = n }

      of_there : (b : Bool) → exists views scope here ≡ b → (if b then Some here else None) ≡ Some place → exists views scope place ≡ true
      of_there true is e = let same_place : here ≡ place = cc in subst (λ p. exists views scope p ≡ true) same_place is
      of_there false is e = absurd (some_none (sym e))

      of_key : (key_in views scope part (n + 1) own ≡ Some place → exists views scope place ≡ true) → (b : Bool) → (if b then place_if_exists views scope here else key_in views scope part (n + 1) own) ≡ Some place
          → exists views scope place ≡ true
      of_key later true e = of_there (exists views scope here) refl e
      of_key later false e = later e

  key_typed : (number : ℕ) (part : ScopePart) (o : Option Place) → key_of views scope number ≡ o → has_typed_key leaves (part_with schema views scope columns number part) ≡ true
  key_typed number part None is = ap (λ o. has_typed_key leaves (record (part_with schema views scope columns number part) { key = option_map (field_formula schema views scope columns) o })) is
  key_typed number part (Some place) is =
      ap (λ o. has_typed_key leaves (record (part_with schema views scope columns number part) { key = option_map (field_formula schema views scope columns) o })) is
      ∙ some_known place (key_there number 0 (fields_at views scope number) place is)

  pub keys_typed : (number : ℕ) (parts : List ScopePart) → list_all (has_typed_key leaves) (parts_from schema views scope columns number parts) ≡ true
  keys_typed number [] = refl
  keys_typed number (part ∷ parts) =
      both (has_typed_key leaves (part_with schema views scope columns number part)) (list_all (has_typed_key leaves) (parts_from schema views scope columns (number + 1) parts))
      (key_typed number part (key_of views scope number) refl) (keys_typed (number + 1) parts)
