-- All that the text of a field of the explore names is there.
use Rattle.std.proofs.Common.{◌≡◌, ◌∙◌, ℕ, zero, suc, ◌+◌, Bool, true, false, ◌||◌, List, [], ◌∷◌, map, refl, ap, sym, subst, ⊎_elim, Option, Some, None, arith}
use Rattle.std.specs.Prelude.{flat_map, not, slice_get}
use Rattle.std.specs.List.{AllByRecursion, list_any}
use Rattle.std.specs.Option.{option_and_then}
use Rattle.std.proofs.lemmas.Bool.{eq-eqb, false≢true}
use Rattle.lk_val.specs.Least.{is_in}
use Rattle.lk_val.proofs.LeastLaws.{IsEquality, least_set-kept}
use Rattle.lk_objects.specs.declared.code.Code.{Code}
use Rattle.lk_objects.specs.declared.code.Code.TheVariants as code
use Rattle.lk_objects.specs.declared.code.Reference.{Reference}
use Rattle.lk_objects.specs.declared.code.Reference.TheVariants as reference
use Rattle.lk_objects.specs.declared.field.DeclaredField.{DeclaredField}
use Rattle.lk_objects.specs.declared.filter_text.FilterText.{FilterText}
use Rattle.lk_objects.specs.declared.view.DeclaredView.{DeclaredView}
use Rattle.lk_fields.specs.declared.scope.Found.{Found}
use Rattle.lk_fields.specs.declared.scope.Place.{Place}
use Rattle.lk_fields.specs.declared.scope.Scope.{Scope}
use Rattle.lk_fields.specs.declared.scope.ScopePart.{ScopePart}
use Rattle.lk_fields.specs.declared.scope.Sort.{Sort}
use Rattle.lk_fields.specs.declared.scope.Sort.TheVariants as sort
use Rattle.lk_fields.specs.declared.scope.Writer.TheVariants as writer
use Rattle.lk_fields.specs.Existing.{all_places, exists, field_at, fields_at, fields_with, filtered, is_lost_after, is_lost_with, is_same_place, loses, lost, meant, meant_in, named_by, places_from, places_of_parts, referred}
use Rattle.lk_fields.specs.Scopes.{found_in, view_at}
use Rattle.lk_fields.proofs.LostLaws.{same_exact, same_itself}
use Rattle.lk_semantics.proofs.EveryLaws.{both, first, second}
use Rattle.lk_model_laws.proofs.ListLaws.{all_append, all_behind, all_front}
use Rattle.lk_model_laws.proofs.NameLaws as names
use Rattle.lk_model_laws.proofs.PieceLaws.{some_none}
use Rattle.lk_model_laws.proofs.PlaceLaws.{any_left, any_right, one_of, or_left, or_right}

-- places are the same where they are one
pub equality : IsEquality is_same_place
equality = record { itself = same_itself; exact = same_exact }

-- ---- where there is a field there is its place

module _ (views : List DeclaredView) (scope : Scope) where
  in_fields : (part n k : ℕ) (fields : List DeclaredField) (field : DeclaredField) (place : Place) → slice_get fields k ≡ Some field → place.part ≡ part → place.field ≡ n + k
      → is_in is_same_place place (places_from part n fields) ≡ true
  in_fields part n k [] field place at p q = absurd (some_none (sym at))
  in_fields part n zero (f ∷ fields) field place at p q =
      or_left (is_same_place place (record { part = part; field = n })) (is_in is_same_place place (places_from part (n + 1) fields))
      (both _ _ (eq-eqb place.part part p) (eq-eqb place.field n (omega arith)))
  in_fields part n (suc k) (f ∷ fields) field place at p q =
      or_right (is_same_place place (record { part = part; field = n })) (is_in is_same_place place (places_from part (n + 1) fields))
      (in_fields part (n + 1) k fields field place at p (omega arith))

  in_parts : (n k : ℕ) (parts : List ScopePart) (part : ScopePart) (field : DeclaredField) (place : Place) → slice_get parts k ≡ Some part → place.part ≡ n + k
      → slice_get (fields_at views scope place.part) place.field ≡ Some field → is_in is_same_place place (places_of_parts views scope n parts) ≡ true
  in_parts n k [] part field place at p is = absurd (some_none (sym at))
  in_parts n zero (first_part ∷ parts) part field place at p is =
      let same : place.part ≡ n = omega arith in
      any_left (is_same_place place) (places_from n 0 (fields_at views scope n)) (places_of_parts views scope (n + 1) parts)
      (in_fields n 0 place.field (fields_at views scope n) field place (subst (λ m. slice_get (fields_at views scope m) place.field ≡ Some field) same is) same (omega arith))
  in_parts n (suc k) (first_part ∷ parts) part field place at p is =
      any_right (is_same_place place) (places_from n 0 (fields_at views scope n)) (places_of_parts views scope (n + 1) parts)
      (in_parts (n + 1) k parts part field place at (omega arith) is)

  part_given : (o : Option ScopePart) (view : DeclaredView) → option_and_then (λ part. option_and_then (slice_get views) part.view) o ≡ Some view → (part : ScopePart) × (o ≡ Some part)
  part_given None view at = absurd (some_none (sym at))
  part_given (Some part) view at = (part, refl)

  view_given : (o : Option DeclaredView) (k : ℕ) (field : DeclaredField) → slice_get (fields_with o) k ≡ Some field → (view : DeclaredView) × (o ≡ Some view)
  view_given None k field at = absurd (some_none (sym at))
  view_given (Some view) k field at = (view, refl)

  pub placed : (place : Place) (field : DeclaredField) → field_at views scope place ≡ Some field → is_in is_same_place place (all_places views scope) ≡ true
  placed place field at =
      let view = view_given (view_at views scope place.part) place.field field at in
      let part = part_given (slice_get scope.parts place.part) view.0 view.1 in
      in_parts 0 place.part scope.parts part.0 field place part.1 (omega arith) at

  -- ---- what is not lost

  more_lost : (s t : List Place) → ((x : Place) → is_in is_same_place x s ≡ true → is_in is_same_place x t ≡ true) → (o : Option Found) → is_lost_with s o ≡ true → is_lost_with t o ≡ true
  more_lost s t more None h = h
  more_lost s t more (Some found) h = more found.place h

  any_lost : (s t : List Place) → ((x : Place) → is_in is_same_place x s ≡ true → is_in is_same_place x t ≡ true) → (found : List (Option Found)) → list_any (is_lost_with s) found ≡ true → list_any (is_lost_with t) found ≡ true
  any_lost s t more [] h = h
  any_lost s t more (o ∷ found) h =
      ⊎_elim (λ here. or_left (is_lost_with t o) (list_any (is_lost_with t) found) (more_lost s t more o here))
      (λ later. or_right (is_lost_with t o) (list_any (is_lost_with t) found) (any_lost s t more found later)) (one_of (is_lost_with s o) (list_any (is_lost_with s) found) h)

  grows : (s t : List Place) → ((x : Place) → is_in is_same_place x s ≡ true → is_in is_same_place x t ≡ true) → (x : Place) → is_lost_after views scope s x ≡ true → is_lost_after views scope t x ≡ true
  grows s t more x h = of_field (field_at views scope x) h
    where
      of_field : (o : Option DeclaredField) → loses views scope s x o ≡ true → loses views scope t x o ≡ true
      of_field None h = h
      of_field (Some field) h = any_lost s t more (named_by views scope x.part field) h

  -- a name means a field of the explore
  abbrev pub IsKnownName : Option Found → Type 0
  IsKnownName o = (found : Found) × (o ≡ Some found) × (exists views scope found.place ≡ true)

  -- where a name means a field, there is one
  abbrev IsPlacedName : Option Found → Type 0
  IsPlacedName o = (found : Found) → o ≡ Some found → is_in is_same_place found.place (all_places views scope) ≡ true

  none_lost : (set : List Place) (found : List (Option Found)) → list_any (is_lost_with set) found ≡ false → AllByRecursion (λ o. is_lost_with set o ≡ false) found
  none_lost set [] h = tt
  none_lost set (o ∷ found) h = (neither (is_lost_with set o) (list_any (is_lost_with set) found) h, none_lost set found (nor (is_lost_with set o) (list_any (is_lost_with set) found) h))
    where
      neither : (a b : Bool) → (a || b) ≡ false → a ≡ false
      neither true b h = h
      neither false b h = refl

      nor : (a b : Bool) → (a || b) ≡ false → b ≡ false
      nor true b h = absurd (false≢true (sym h))
      nor false b h = h

  known : (o : Option Found) → is_lost_with (lost views scope) o ≡ false → IsPlacedName o → IsKnownName o
  known None h there = absurd (false≢true (sym h))
  known (Some found) h there =
      (found, refl, both (is_in is_same_place found.place (all_places views scope)) (not (is_in is_same_place found.place (lost views scope))) (there found refl) (ap not h))

  all_known : (found : List (Option Found)) → AllByRecursion (λ o. is_lost_with (lost views scope) o ≡ false) found → AllByRecursion IsPlacedName found → AllByRecursion IsKnownName found
  all_known [] h there = tt
  all_known (o ∷ found) h there = (known o h.0 there.0, all_known found h.1 there.1)

  -- ---- what names mean is placed

  placed_in : (part : ℕ) (view : Option (List ℕ)) (name : List ℕ) (s : Sort) → IsPlacedName (found_in views scope (writer.Field part) view name s)
  placed_in part view name s found h = let is = names.meant_in views scope (writer.Field part) view name s found h in placed found.place is.field is.at

  placed_reference : (part : ℕ) (s : Sort) (r : Reference) → AllByRecursion IsPlacedName (meant views scope part s r)
  placed_reference part s (reference.Own name) = (placed_in part None name s, tt)
  placed_reference part s (reference.Of view name) = (placed_in part (Some view) name s, tt)
  placed_reference part s (reference.Column name) = tt

  placed_references : (part : ℕ) (s : Sort) (rs : List Reference) → AllByRecursion IsPlacedName (flat_map (meant views scope part s) rs)
  placed_references part s [] = tt
  placed_references part s (r ∷ rs) = all_append IsPlacedName (meant views scope part s r) (flat_map (meant views scope part s) rs) (placed_reference part s r) (placed_references part s rs)

  placed_code : (part : ℕ) (c : Code) → AllByRecursion IsPlacedName (meant_in views scope part c)
  placed_code part (code.Expr written) = placed_references part sort.Dimension written.references
  placed_code part (code.Number written) = placed_references part sort.Measure written.references
  placed_code part code.Absent = tt
  placed_code part code.Liquid = tt
  placed_code part (code.Syntax place) = tt

  placed_filters : (part : ℕ) (filters : List FilterText) → AllByRecursion IsPlacedName (map (filtered views scope part) filters)
  placed_filters part [] = tt
  placed_filters part (f ∷ filters) =
      ((λ found h. let is = names.meant_by views scope (writer.Field part) f.name sort.Dimension found h in placed found.place is.field is.at), placed_filters part filters)

  -- ---- a field of the explore

  -- there is a field at its place
  pub field_there : (place : Place) → exists views scope place ≡ true → (field : DeclaredField) × (field_at views scope place ≡ Some field)
  field_there place there = of_field (field_at views scope place) refl
    where
      outside : (b : Bool) → not b ≡ true → b ≡ true → ⊥
      outside true h k = false≢true h
      outside false h k = false≢true k

      of_field : (o : Option DeclaredField) → field_at views scope place ≡ o → (field : DeclaredField) × (field_at views scope place ≡ Some field)
      of_field None at =
          absurd (outside (is_in is_same_place place (lost views scope))
          (second (is_in is_same_place place (all_places views scope)) (not (is_in is_same_place place (lost views scope))) there)
          (least_set-kept equality (all_places views scope) (is_lost_after views scope) grows place
          (first (is_in is_same_place place (all_places views scope)) (not (is_in is_same_place place (lost views scope))) there)
          (ap (loses views scope (lost views scope) place) at)))
      of_field (Some field) at = (field, at)

  module _ (place : Place) (field : DeclaredField) (at : field_at views scope place ≡ Some field) (there : exists views scope place ≡ true) where
    not_lost : loses views scope (lost views scope) place (Some field) ≡ false
    not_lost = decided (loses views scope (lost views scope) place (Some field)) refl
      where
        inside : is_in is_same_place place (all_places views scope) ≡ true
        inside = first (is_in is_same_place place (all_places views scope)) (not (is_in is_same_place place (lost views scope))) there

        outside : (b : Bool) → not b ≡ true → b ≡ true → ⊥
        outside true h k = false≢true h
        outside false h k = false≢true k

        decided : (b : Bool) → loses views scope (lost views scope) place (Some field) ≡ b → loses views scope (lost views scope) place (Some field) ≡ false
        decided true is =
            absurd (outside (is_in is_same_place place (lost views scope))
            (second (is_in is_same_place place (all_places views scope)) (not (is_in is_same_place place (lost views scope))) there)
            (least_set-kept equality (all_places views scope) (is_lost_after views scope) grows place inside
            (ap (loses views scope (lost views scope) place) at ∙ is)))
        decided false is = is

    -- all that its text names
    pub names_known : AllByRecursion IsKnownName (named_by views scope place.part field)
    names_known =
        all_known (named_by views scope place.part field) (none_lost (lost views scope) (named_by views scope place.part field) not_lost)
        (all_append IsPlacedName (referred views scope place.part field) (map (filtered views scope place.part) field.filters)
        (all_append IsPlacedName (meant_in views scope place.part field.sql) (meant_in views scope place.part field.key) (placed_code place.part field.sql) (placed_code place.part field.key))
        (placed_filters place.part field.filters))

    -- what its codes refer to
    pub referred_known : AllByRecursion IsKnownName (referred views scope place.part field)
    referred_known = all_front IsKnownName (referred views scope place.part field) (map (filtered views scope place.part) field.filters) names_known

    pub sql_known : AllByRecursion IsKnownName (meant_in views scope place.part field.sql)
    sql_known = all_front IsKnownName (meant_in views scope place.part field.sql) (meant_in views scope place.part field.key) referred_known

    -- and what its filters are on
    pub filters_known : AllByRecursion (λ f. IsKnownName (filtered views scope place.part f)) field.filters
    filters_known = unmapped field.filters (all_behind IsKnownName (referred views scope place.part field) (map (filtered views scope place.part) field.filters) names_known)
      where
        unmapped : (filters : List FilterText) → AllByRecursion IsKnownName (map (filtered views scope place.part) filters) → AllByRecursion (λ f. IsKnownName (filtered views scope place.part f)) filters
        unmapped [] h = tt
        unmapped (f ∷ filters) h = (h.0, unmapped filters h.1)
