-- The places of a scope's fields, as they are declared and by name.
use Rattle.std.proofs.Common.{◌≡◌, ◌∙◌, ◌<◌, ◌≤◌, ℕ, zero, suc, ◌+◌, Bool, true, false, ◌||◌, List, [], ◌∷◌, ◌++◌, length, take, drop, refl, ap, sym, subst, inl, inr, ⊎_elim, Some, arith}
use Rattle.std.specs.Prelude.{◌⊎◌, flat_map, nat_eq, not, slice_get}
use Rattle.std.specs.List.{fold, insert, list_any, position_or_len}
use Rattle.std.proofs.lemmas.Bool.{eqb-true, false≢true}
use Rattle.std.proofs.lemmas.List.{take-append-drop}
use Rattle.std.proofs.lemmas.List.Folds.{list_any-append}
use Rattle.lk_val.specs.Least.{is_in}
use Rattle.lk_objects.specs.declared.field.DeclaredField.{DeclaredField}
use Rattle.lk_objects.specs.declared.view.DeclaredView.{DeclaredView}
use Rattle.lk_fields.specs.declared.scope.Place.{Place}
use Rattle.lk_fields.specs.declared.scope.Scope.{Scope}
use Rattle.lk_fields.specs.declared.scope.ScopePart.{ScopePart}
use Rattle.lk_fields.specs.Existing.{all_places, exists, fields_at, is_same_place, lost, places_from, places_of_parts}
use Rattle.lk_fields.proofs.LostLaws.{passing, same_exact}
use Rattle.lk_scope.specs.Order.{goes_before, numbers_from, parts_by_name, places_by_name, places_in}
use Rattle.lk_semantics.proofs.EveryLaws.{both, first}
use Rattle.lk_resolved.specs.Names.{existing}

-- ---- some item passes

pub one_of : (a b : Bool) → (a || b) ≡ true → (a ≡ true) ⊎ (b ≡ true)
one_of true b h = inl refl
one_of false b h = inr h

pub or_left : (a b : Bool) → a ≡ true → (a || b) ≡ true
or_left true b h = refl
or_left false b h = absurd (false≢true h)

pub or_right : (a b : Bool) → b ≡ true → (a || b) ≡ true
or_right true b h = refl
or_right false b h = h

module _ {A : Type 0} (t : A → Bool) where
  pub any_here : (xs : List A) (k : ℕ) (x : A) → slice_get xs k ≡ Some x → t x ≡ true → list_any t xs ≡ true
  any_here [] k x at h = cc
  any_here (y ∷ xs) zero x at h = or_left (t y) (list_any t xs) (let same : y ≡ x = cc in subst (λ z. t z ≡ true) (sym same) h)
  any_here (y ∷ xs) (suc k) x at h = or_right (t y) (list_any t xs) (any_here xs k x at h)

  pub any_left : (xs ys : List A) → list_any t xs ≡ true → list_any t (xs ++ ys) ≡ true
  any_left xs ys h = list_any-append t xs ys ∙ or_left (list_any t xs) (list_any t ys) h

  pub any_right : (xs ys : List A) → list_any t ys ≡ true → list_any t (xs ++ ys) ≡ true
  any_right xs ys h = list_any-append t xs ys ∙ or_right (list_any t xs) (list_any t ys) h

  pub any_either : (xs ys : List A) → list_any t (xs ++ ys) ≡ true → (list_any t xs ≡ true) ⊎ (list_any t ys ≡ true)
  any_either xs ys h = one_of (list_any t xs) (list_any t ys) (sym (list_any-append t xs ys) ∙ h)

  pub any_flat : {B : Type 0} (f : B → List A) (test : B → Bool) → ((x : B) → test x ≡ true → list_any t (f x) ≡ true) → (xs : List B) → list_any test xs ≡ true → list_any t (flat_map f xs) ≡ true
  any_flat f test step [] h = absurd (false≢true h)
  any_flat f test step (x ∷ xs) h =
      ⊎_elim (λ here. any_left (f x) (flat_map f xs) (step x here)) (λ later. any_right (f x) (flat_map f xs) (any_flat f test step xs later))
      (one_of (test x) (list_any test xs) h)

  -- an item put among others
  pub any_insert : (xs : List A) (n : ℕ) (x : A) → (t x || list_any t xs) ≡ true → list_any t (insert xs n x) ≡ true
  any_insert xs n x h =
      ⊎_elim (λ here. any_right (take n xs) (x ∷ drop n xs) (or_left (t x) (list_any t (drop n xs)) here))
      (λ there. ⊎_elim (λ front. any_left (take n xs) (x ∷ drop n xs) front) (λ behind. any_right (take n xs) (x ∷ drop n xs) (or_right (t x) (list_any t (drop n xs)) behind))
      (any_either (take n xs) (drop n xs) (ap (list_any t) (take-append-drop n xs) ∙ there)))
      (one_of (t x) (list_any t xs) h)

  pub any_folded : (place : List A → A → ℕ) (before xs : List A) → (list_any t before || list_any t xs) ≡ true → list_any t (fold (λ ys x. insert ys (place ys x) x) before xs) ≡ true
  any_folded place before [] h = ⊎_elim (λ is. is) (λ none. absurd (false≢true none)) (one_of (list_any t before) false h)
  any_folded place before (x ∷ xs) h =
      any_folded place (insert before (place before x) x) xs
      (⊎_elim (λ is. or_left (list_any t (insert before (place before x) x)) (list_any t xs) (any_insert before (place before x) x (or_right (t x) (list_any t before) is)))
      (λ more. ⊎_elim (λ is. or_left (list_any t (insert before (place before x) x)) (list_any t xs) (any_insert before (place before x) x (or_left (t x) (list_any t before) is)))
      (λ later. or_right (list_any t (insert before (place before x) x)) (list_any t xs) later) (one_of (t x) (list_any t xs) more))
      (one_of (list_any t before) (t x || list_any t xs) h))

-- ---- places

module _ (views : List DeclaredView) (scope : Scope) where
  -- where a place stands: in a part
  pub record IsInPart (place : Place) (low high : ℕ) : Type 0 where
    pub part : ℕ
    pub from : low ≤ part
    pub below : part < high
    pub there : is_in is_same_place place (places_in views scope part) ≡ true

  in_parts : (place : Place) (n : ℕ) (parts : List ScopePart) → is_in is_same_place place (places_of_parts views scope n parts) ≡ true → IsInPart place n (n + length parts)
  in_parts place n [] h = absurd (false≢true h)
  in_parts place n (part ∷ parts) h =
      ⊎_elim (λ here. record { part = n; from = omega arith; below = omega arith; there = here })
      (λ later.
      let rest = in_parts place (n + 1) parts later in
      let from = rest.from in
      let below = rest.below in
      record { part = rest.part; from = omega arith; below = omega arith; there = rest.there })
      (any_either (is_same_place place) (places_from n 0 (fields_at views scope n)) (places_of_parts views scope (n + 1) parts) h)

  numbered : (k n : ℕ) (parts : List ScopePart) → n ≤ k → k < n + length parts → list_any (nat_eq k) (numbers_from n parts) ≡ true
  numbered k n [] low high = absurd (omega arith)
  numbered k n (part ∷ parts) low high =
      elim (nat_eq k n) as (λ b. nat_eq k n ≡ b → (b || list_any (nat_eq k) (numbers_from (n + 1) parts)) ≡ true) [
        | true ↦ λ _. refl
        | false ↦ λ other. numbered k (n + 1) parts (more k n other low) (omega arith)
      ] refl
    where
      more : (k n : ℕ) → nat_eq k n ≡ false → n ≤ k → n + 1 ≤ k
      more k n other low = grind arith

  part_by_name : (k : ℕ) → k < length scope.parts → list_any (nat_eq k) (parts_by_name scope) ≡ true
  part_by_name k high =
      any_folded (nat_eq k) (λ ys x. position_or_len (goes_before scope x) ys) [] (numbers_from 0 scope.parts)
      (numbered k 0 scope.parts (omega arith) (omega arith))

  -- each declared field stands by name
  pub by_name_there : (place : Place) → is_in is_same_place place (all_places views scope) ≡ true → is_in is_same_place place (places_by_name views scope) ≡ true
  by_name_there place h =
      let at = in_parts place 0 scope.parts h in
      let below = at.below in
      any_flat (is_same_place place) (places_in views scope) (nat_eq at.part)
      (λ n same. subst (λ m. is_in is_same_place place (places_in views scope m) ≡ true) (eqb-true at.part n same) at.there)
      (parts_by_name scope) (part_by_name at.part (omega arith))

  -- a field of the explore is among them
  pub exists_there : (place : Place) → exists views scope place ≡ true → is_in is_same_place place (existing views scope) ≡ true
  exists_there place h =
      passing (exists views scope) place (places_by_name views scope)
      ∙ both (exists views scope place) (is_in is_same_place place (places_by_name views scope)) h
      (by_name_there place (first (is_in is_same_place place (all_places views scope)) (not (is_in is_same_place place (lost views scope))) h))

  pub there_exists : (place : Place) → is_in is_same_place place (existing views scope) ≡ true → exists views scope place ≡ true
  there_exists place h =
      first (exists views scope place) (is_in is_same_place place (places_by_name views scope)) (sym (passing (exists views scope) place (places_by_name views scope)) ∙ h)

  -- ---- the part of a place

  own_part : (place : Place) (part n : ℕ) (fields : List DeclaredField) → is_in is_same_place place (places_from part n fields) ≡ true → place.part ≡ part
  own_part place part n [] h = absurd (false≢true h)
  own_part place part n (field ∷ fields) h =
      ⊎_elim (λ here. ap (λ p. p.part) (same_exact place (record { part = part; field = n }) here)) (λ later. own_part place part (n + 1) fields later)
      (one_of (is_same_place place (record { part = part; field = n })) (is_in is_same_place place (places_from part (n + 1) fields)) h)

  -- that of a field of the explore is one of its parts
  pub part_below : (place : Place) → exists views scope place ≡ true → place.part < length scope.parts
  part_below place h =
      let at = in_parts place 0 scope.parts (first (is_in is_same_place place (all_places views scope)) (not (is_in is_same_place place (lost views scope))) h) in
      let below = at.below in
      let same = own_part place at.part 0 (fields_at views scope at.part) at.there in
      omega arith
