-- A whole name means the very dimension that has its number, where the views of an explore have names of their own.
use Rattle.std.proofs.Common.{◌≡◌, ◌∙◌, ◌<◌, ℕ, zero, suc, Bool, true, false, List, [], ◌∷◌, map, length, refl, ap, sym, subst, Option, Some, None, arith}
use Rattle.std.specs.Prelude.{flat_map, slice_get}
use Rattle.std.specs.List.{AllByRecursion, list_any}
use Rattle.std.specs.Option.{option_map}
use Rattle.std.proofs.lemmas.Bool.{false≢true}
use Rattle.lk_val.specs.Least.{is_in}
use Rattle.lk_val.specs.Texts.{is_same_text}
use Rattle.lk_types.specs.declared.schema.Frame.{Frame}
use Rattle.lk_objects.specs.declared.field.DeclaredField.{DeclaredField}
use Rattle.lk_objects.specs.declared.field.FieldSort.{FieldSort}
use Rattle.lk_objects.specs.declared.field.FieldSort.TheVariants as field_sort
use Rattle.lk_objects.specs.declared.view.DeclaredView.{DeclaredView}
use Rattle.lk_fields.specs.declared.scope.Found.{Found}
use Rattle.lk_fields.specs.declared.scope.Place.{Place}
use Rattle.lk_fields.specs.declared.scope.Scope.{Scope}
use Rattle.lk_fields.specs.declared.scope.ScopePart.{ScopePart}
use Rattle.lk_fields.specs.declared.scope.Sort.TheVariants as sort
use Rattle.lk_fields.specs.Existing.{exists, field_at, fields_at, is_same_place}
use Rattle.lk_fields.specs.Scopes.{has_sort, is_dot, made, split_name}
use Rattle.lk_scope.specs.ExploreNames.{full_name_of}
use Rattle.lk_scope.specs.Scopes.{full_name, name_with, part_name}
use Rattle.lk_field_faults.specs.MadeNames.{names_made, names_of}
use Rattle.lk_resolved.specs.Names.{dimension_made, dimension_number, dimensions, dimensions_at, dimensions_by_sort, dimensions_with, existing, or_zero}
use Rattle.lk_model_laws.proofs.DimensionLaws.{all_by_name, all_there}
use Rattle.lk_model_laws.proofs.ListLaws.{all_at, all_flat, got_map, position_at, position_found}
use Rattle.lk_model_laws.proofs.NameLaws.{IsMeant, same_dimensions, some_dimension}
use Rattle.lk_model_laws.proofs.NamedTypes.{NamedDimension}
use Rattle.lk_model_laws.proofs.OwnNameLaws.{AreApart, names_apart, named_once}
use Rattle.lk_model_laws.proofs.PlaceLaws.{part_below, there_exists}
use Rattle.lk_model_laws.proofs.TextLaws as text

pub got_at : {A : Type 0} (xs : List A) (k : ℕ) → k < length xs → (x : A) × (slice_get xs k ≡ Some x)
got_at [] k less = absurd (omega arith)
got_at (x ∷ xs) zero less = (x, refl)
got_at (x ∷ xs) (suc k) less = got_at xs k (omega arith)

one_got : {A : Type 0} (x y : A) → Some x ≡ Some y → x ≡ y
one_got x y h = cc

no_dimensions : (part : List ℕ) (place : Place) (s : FieldSort) (name : List ℕ) (frames : List Frame) → has_sort sort.Dimension s ≡ false → dimensions_by_sort part place s name frames ≡ []
no_dimensions part place (field_sort.Measure o) name frames h = refl
no_dimensions part place (field_sort.Dimension t) name frames h = absurd (false≢true (sym h))
no_dimensions part place field_sort.Group name frames h = absurd (false≢true (sym h))

module _ (views : List DeclaredView) (scope : Scope) where
  -- ---- what a dimension is made by

  -- a field of the explore makes it, by one of the names that it makes, behind that of its view
  pub record IsNamedBy (d : NamedDimension) : Type 0 where
    pub field : DeclaredField
    pub at : field_at views scope d.found.place ≡ Some field
    pub there : exists views scope d.found.place ≡ true
    pub place : ℕ
    pub entry : List ℕ × Option Frame
    pub made_at : slice_get (made field) place ≡ Some entry
    pub named : d.name ≡ full_name (part_name scope d.found.place.part) entry.0
    pub framed : d.found.frame ≡ entry.1

  module _ (place : Place) (there : exists views scope place ≡ true) (field : DeclaredField) (at : field_at views scope place ≡ Some field) where
    entries_named : (entries : List (List ℕ × Option Frame)) → ((k : ℕ) (e : List ℕ × Option Frame) → slice_get entries k ≡ Some e → (j : ℕ) × (slice_get (made field) j ≡ Some e))
        → AllByRecursion IsNamedBy (map (dimension_made (part_name scope place.part) place) entries)
    entries_named [] from = tt
    entries_named (e ∷ entries) from =
        let here = from zero e refl in
        (record { field = field; at = at; there = there; place = here.0; entry = e; made_at = here.1; named = refl; framed = refl }, entries_named entries (λ k d got. from (suc k) d got))

    field_named : AllByRecursion IsNamedBy (dimensions_with scope place (Some field))
    field_named = of_sort (has_sort sort.Dimension field.sort) refl
      where
        of_sort : (b : Bool) → has_sort sort.Dimension field.sort ≡ b → AllByRecursion IsNamedBy (dimensions_by_sort (part_name scope place.part) place field.sort field.name field.frames)
        of_sort true is =
            subst (AllByRecursion IsNamedBy) (sym (same_dimensions views scope (part_name scope place.part) place field.sort field.name field.frames is))
            (entries_named (made field) (λ k e got. (k, got)))
        of_sort false is = subst (AllByRecursion IsNamedBy) (sym (no_dimensions (part_name scope place.part) place field.sort field.name field.frames is)) tt

  place_named : (place : Place) → exists views scope place ≡ true → (o : Option DeclaredField) → field_at views scope place ≡ o → AllByRecursion IsNamedBy (dimensions_with scope place o)
  place_named place there None at = tt
  place_named place there (Some field) at = field_named place there field at

  dimensions_named : AllByRecursion IsNamedBy (dimensions views scope)
  dimensions_named =
      all_by_name IsNamedBy (flat_map (dimensions_at views scope) (existing views scope))
      (all_flat IsNamedBy (λ place. is_in is_same_place place (existing views scope) ≡ true) (dimensions_at views scope)
      (λ place inside. place_named place (there_exists views scope place inside) (field_at views scope place) refl) (existing views scope) (all_there (existing views scope)))

  -- ---- the dimension of a name

  module _ (apart : AreApart (map (λ (part : ScopePart). part.name) scope.parts)) (plain : (k : ℕ) (part : ScopePart) → slice_get scope.parts k ≡ Some part → list_any is_dot part.name ≡ false)
      (once : (part : ℕ) → AreApart (names_made (fields_at views scope part))) where
    part_got : (place : Place) → exists views scope place ≡ true → (part : ScopePart) × (slice_get scope.parts place.part ≡ Some part) × (part_name scope place.part ≡ part.name)
    part_got place there = let got = got_at scope.parts place.part (part_below views scope place there) in (got.0, got.1, ap name_with got.1)

    name_at : (k : ℕ) (part : ScopePart) → slice_get scope.parts k ≡ Some part → slice_get (map (λ (part : ScopePart). part.name) scope.parts) k ≡ Some part.name
    name_at k part at = got_map (λ (part : ScopePart). part.name) scope.parts k ∙ ap (option_map (λ (part : ScopePart). part.name)) at

    made_name : (field : DeclaredField) (k : ℕ) (e : List ℕ × Option Frame) → slice_get (made field) k ≡ Some e → slice_get (names_of field) k ≡ Some e.0
    made_name field k e at = got_map (λ (m : List ℕ × Option Frame). m.0) (made field) k ∙ ap (option_map (λ (m : List ℕ × Option Frame). m.0)) at

    -- two fields of one whole name are one
    same_found : (name : List ℕ) (found : Found) → IsMeant views scope sort.Dimension ((split_name name).1) found → exists views scope found.place ≡ true
        → (d : NamedDimension) → IsNamedBy d → d.name ≡ full_name_of scope found name → d.found ≡ found
    same_found name found is there d by same =
        let own = part_got d.found.place by.there in
        let other = part_got found.place there in
        let meant = is.making in
        let names = names_apart own.0.name other.0.name by.entry.0 ((split_name name).1) (plain d.found.place.part own.0 own.1) (plain found.place.part other.0 other.1)
        (sym (ap (λ p. full_name p by.entry.0) own.2) ∙ (sym by.named ∙ (same ∙ ap (λ p. full_name p ((split_name name).1)) other.2))) in
        let entry_name : meant.entry.0 ≡ by.entry.0 = text.same_exact meant.entry.0 ((split_name name).1) meant.named ∙ sym names.1 in
        let part : d.found.place.part ≡ found.place.part =
        apart d.found.place.part found.place.part own.0.name (name_at d.found.place.part own.0 own.1) (name_at found.place.part other.0 other.1 ∙ ap (λ n. Some n) (sym names.0)) in
        let there_too : slice_get (fields_at views scope found.place.part) d.found.place.field ≡ Some by.field =
        ap (λ p. slice_get (fields_at views scope p) d.found.place.field) (sym part) ∙ by.at in
        let one = named_once names_of (fields_at views scope found.place.part) (once found.place.part) d.found.place.field found.place.field by.field is.field by.place meant.place by.entry.0 there_too is.at
        (made_name by.field by.place by.entry by.made_at) (made_name is.field meant.place meant.entry meant.at ∙ ap (λ n. Some n) entry_name) in
        let field : by.field ≡ is.field = one_got by.field is.field (sym there_too ∙ ap (slice_get (fields_at views scope found.place.part)) one.0 ∙ is.at) in
        let entry : by.entry ≡ meant.entry =
        one_got by.entry meant.entry (sym by.made_at ∙ (λ i. slice_get (made (field i)) (one.1 i)) ∙ meant.at) in
        let frame : d.found.frame ≡ found.frame = by.framed ∙ ap (λ e. e.1) entry ∙ meant.framed in
        λ i. record { place = record { part = part i; field = one.0 i }; frame = frame i }

    -- the dimension of a name's number is what the name means
    pub dimension_at : (name : List ℕ) (found : Found) → IsMeant views scope sort.Dimension ((split_name name).1) found → exists views scope found.place ≡ true
        → (d : NamedDimension) × (slice_get (dimensions views scope) (dimension_number (dimensions views scope) (full_name_of scope found name)) ≡ Some d) × (d.found ≡ found)
    dimension_at name found is there =
        let full = full_name_of scope found name in
        let t : NamedDimension → Bool = λ d. is_same_text d.name full in
        let number = position_found t (dimensions views scope) (some_dimension views scope t ((split_name name).1) found is there (text.same_itself full)) in
        let got = position_at t (dimensions views scope) number.0 number.1 in (
          got.0,
          ap (λ o. slice_get (dimensions views scope) (or_zero o)) number.1 ∙ got.1,
          same_found name found is there got.0 (all_at IsNamedBy (dimensions views scope) dimensions_named number.0 got.0 got.1) (text.same_exact got.0.name full got.2),
        )
