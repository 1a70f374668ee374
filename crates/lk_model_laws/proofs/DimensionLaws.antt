-- The dimensions of an explore: each is made by a field of the explore, and one with a timeframe by a dimension group.
use Rattle.std.proofs.Common.{◌≡◌, ◌∙◌, ℕ, zero, suc, true, List, [], ◌∷◌, ◌++◌, map, take, drop, refl, ap, sym, subst, append_assoc, Option, Some, None}
use Rattle.std.specs.Prelude.{flat_map, is_some, slice_get}
use Rattle.std.specs.List.{AllByRecursion, fold, insert, position_or_len}
use Rattle.std.proofs.lemmas.Bool.{false≢true}
use Rattle.lk_val.specs.Least.{is_in}
use Rattle.lk_types.specs.declared.schema.Frame.{Frame}
use Rattle.lk_objects.specs.declared.field.DeclaredField.{DeclaredField}
use Rattle.lk_objects.specs.declared.field.FieldSort.{FieldSort}
use Rattle.lk_objects.specs.declared.field.FieldSort.TheVariants as field_sort
use Rattle.lk_objects.specs.declared.view.DeclaredView.{DeclaredView}
use Rattle.lk_fields.specs.declared.scope.Place.{Place}
use Rattle.lk_fields.specs.declared.scope.Scope.{Scope}
use Rattle.lk_fields.specs.Existing.{field_at, is_same_place}
use Rattle.lk_fields.proofs.LostLaws.{among, passing, same_exact}
use Rattle.lk_scope.specs.Scopes.{part_name}
use Rattle.lk_semantics.proofs.EveryLaws.{both}
use Rattle.lk_model_laws.proofs.NamedTypes.{NamedDimension}
use Rattle.lk_resolved.specs.Names.{by_name, dimensions, dimensions_at, dimensions_by_sort, dimensions_with, existing, frame_dimension, goes_before, group_number, groups, is_group_at, is_group_with, or_zero, put_in}
use Rattle.lk_model_laws.proofs.ListLaws.{all_append, all_flat, position_at, position_found}

-- ---- in order

module _ {A : Type 0} (P : A → Type 0) where
  all_take : (n : ℕ) (xs : List A) → AllByRecursion P xs → AllByRecursion P (take n xs)
  all_take zero xs p = tt
  all_take (suc n) [] p = tt
  all_take (suc n) (x ∷ xs) p = (p.0, all_take n xs p.1)

  all_drop : (n : ℕ) (xs : List A) → AllByRecursion P xs → AllByRecursion P (drop n xs)
  all_drop zero xs p = p
  all_drop (suc n) [] p = tt
  all_drop (suc n) (x ∷ xs) p = all_drop n xs p.1

  pub all_insert : (xs : List A) (n : ℕ) (x : A) → AllByRecursion P xs → P x → AllByRecursion P (insert xs n x)
  all_insert xs n x p q = all_append P (take n xs) (x ∷ drop n xs) (all_take n xs p) (q, all_drop n xs p)

module _ (P : NamedDimension → Type 0) where
  all_folded : (before named : List NamedDimension) → AllByRecursion P before → AllByRecursion P named → AllByRecursion P (fold put_in before named)
  all_folded before [] p q = p
  all_folded before (d ∷ named) p q = all_folded (put_in before d) named (all_insert P before (position_or_len (goes_before d) before) d p q.0) q.1

  pub all_by_name : (named : List NamedDimension) → AllByRecursion P named → AllByRecursion P (by_name named)
  all_by_name named p = all_folded [] named tt p

-- ---- where they come from

there_behind : (front places : List Place) → AllByRecursion (λ place. is_in is_same_place place (front ++ places) ≡ true) places
there_behind front [] = tt
there_behind front (place ∷ places) = (
  among front place places,
  subst (λ all. AllByRecursion (λ p. is_in is_same_place p all ≡ true) places) (append_assoc front (place ∷ []) places) (there_behind (front ++ place ∷ []) places),
)

pub all_there : (places : List Place) → AllByRecursion (λ place. is_in is_same_place place places ≡ true) places
all_there places = there_behind [] places

module _ (views : List DeclaredView) (scope : Scope) where
  -- a field of the explore makes it, and a dimension group where it has a timeframe
  pub record IsMade (d : NamedDimension) : Type 0 where
    pub there : is_in is_same_place d.found.place (existing views scope) ≡ true
    pub grouped : is_some d.found.frame ≡ true → is_group_at views scope d.found.place ≡ true

  module _ (place : Place) (inside : is_in is_same_place place (existing views scope) ≡ true) where
    frames_made : (part group : List ℕ) → is_group_at views scope place ≡ true → (frames : List Frame) → AllByRecursion IsMade (map (frame_dimension part place group) frames)
    frames_made part group is [] = tt
    frames_made part group is (f ∷ frames) = (record { there = inside; grouped = λ framed. is }, frames_made part group is frames)

    sort_made : (part name : List ℕ) (frames : List Frame) (field : DeclaredField) (s : FieldSort) → field_at views scope place ≡ Some field → field.sort ≡ s → AllByRecursion IsMade (dimensions_by_sort part place s name frames)
    sort_made part name frames field (field_sort.Measure o) at is = tt
    sort_made part name frames field (field_sort.Dimension t) at is = (record { there = inside; grouped = λ framed. absurd (false≢true framed) }, tt)
    sort_made part name frames field field_sort.Group at is = frames_made part name (ap (is_group_with views scope) at ∙ of_sort field is) frames
      where
        of_sort : (g : DeclaredField) → g.sort ≡ field_sort.Group → is_group_with views scope (Some g) ≡ true
        of_sort g e = subst (λ s. is_group_with views scope (Some (record g { sort = s })) ≡ true) (sym e) refl

    place_made : (o : Option DeclaredField) → field_at views scope place ≡ o → AllByRecursion IsMade (dimensions_with scope place o)
    place_made None at = tt
    place_made (Some field) at = sort_made (part_name scope place.part) field.name field.frames field field.sort at refl

  -- each of them is
  pub dimensions_made : AllByRecursion IsMade (dimensions views scope)
  dimensions_made =
      all_by_name IsMade (flat_map (dimensions_at views scope) (existing views scope))
      (all_flat IsMade (λ place. is_in is_same_place place (existing views scope) ≡ true) (dimensions_at views scope)
      (λ place inside. place_made place inside (field_at views scope place) refl) (existing views scope) (all_there (existing views scope)))

  -- ---- the numbers of dimension groups

  -- the group of a number is the one that has it
  pub group_numbered : (place : Place) → is_in is_same_place place (existing views scope) ≡ true → is_group_at views scope place ≡ true
      → slice_get (groups views scope) (group_number (groups views scope) place) ≡ Some place
  group_numbered place inside is =
      let among_groups : is_in is_same_place place (groups views scope) ≡ true =
      passing (is_group_at views scope) place (existing views scope) ∙ both (is_group_at views scope place) (is_in is_same_place place (existing views scope)) is inside in
      let found = position_found (is_same_place place) (groups views scope) among_groups in
      let at = position_at (is_same_place place) (groups views scope) found.0 found.1 in
      ap (λ n. slice_get (groups views scope) (or_zero n)) found.1 ∙ at.1 ∙ ap (λ p. Some p) (sym (same_exact place at.0 at.2))
