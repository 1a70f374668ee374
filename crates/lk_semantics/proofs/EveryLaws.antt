-- Tests that each item of a list passes.
use Rattle.std.proofs.Common.{◌≡◌, ℕ, zero, suc, Bool, true, false, ◌&&◌, List, [], ◌∷◌, ◌++◌, map, refl, sym, ap, ◌∙◌}
use Rattle.std.specs.Prelude.{filter, flat_map, slice_index_or, slice_set, if◌then◌else◌}
use Rattle.std.specs.List.{list_all}
use Rattle.std.proofs.lemmas.Bool.{false≢true}

-- each item passes
abbrev pub Every : {A : Type 0} → (A → Bool) → List A → Type 0
Every t xs = list_all t xs ≡ true

pub both : (a b : Bool) → a ≡ true → b ≡ true → (a && b) ≡ true
both true b p q = q
both false b p q = absurd (false≢true p)

pub first : (a b : Bool) → (a && b) ≡ true → a ≡ true
first true b p = refl
first false b p = absurd (false≢true p)

pub second : (a b : Bool) → (a && b) ≡ true → b ≡ true
second true b p = p
second false b p = absurd (false≢true p)

module _ {A : Type 0} (t : A → Bool) where
  pub every-append : (xs ys : List A) → Every t xs → Every t ys → Every t (xs ++ ys)
  every-append [] ys p q = q
  every-append (x ∷ xs) ys p q = both (t x) (list_all t (xs ++ ys)) (first (t x) (list_all t xs) p) (every-append xs ys (second (t x) (list_all t xs) p) q)

  pub every-filter : (keep : A → Bool) (xs : List A) → Every t xs → Every t (filter keep xs)
  every-filter keep [] p = p
  every-filter keep (x ∷ xs) p =
      let rest = every-filter keep xs (second (t x) (list_all t xs) p) in
      elim (keep x) as (λ b. Every t (if b then x ∷ filter keep xs else filter keep xs)) [
        | true ↦ both (t x) (list_all t (filter keep xs)) (first (t x) (list_all t xs) p) rest
        | false ↦ rest
      ]

  pub every-at : (xs : List A) (n : ℕ) (d : A) → Every t xs → t d ≡ true → t (slice_index_or xs n d) ≡ true
  every-at [] n d p q = q
  every-at (x ∷ xs) zero d p q = first (t x) (list_all t xs) p
  every-at (x ∷ xs) (suc n) d p q = every-at xs n d (second (t x) (list_all t xs) p) q

  pub every-set : (xs : List A) (n : ℕ) (v : A) → Every t xs → t v ≡ true → Every t (slice_set xs n v)
  every-set [] n v p q = p
  every-set (x ∷ xs) zero v p q = both (t v) (list_all t xs) q (second (t x) (list_all t xs) p)
  every-set (x ∷ xs) (suc n) v p q = both (t x) (list_all t (slice_set xs n v)) (first (t x) (list_all t xs) p) (every-set xs n v (second (t x) (list_all t xs) p) q)

  module _ {B : Type 0} (u : B → Bool) where
    pub every-map : (f : B → A) → ((x : B) → u x ≡ true → t (f x) ≡ true) → (xs : List B) → Every u xs → Every t (map f xs)
    every-map f step [] p = refl
    every-map f step (x ∷ xs) p = both (t (f x)) (list_all t (map f xs)) (step x (first (u x) (list_all u xs) p)) (every-map f step xs (second (u x) (list_all u xs) p))

    pub every-flat_map : (f : B → List A) → ((x : B) → u x ≡ true → Every t (f x)) → (xs : List B) → Every u xs → Every t (flat_map f xs)
    every-flat_map f step [] p = refl
    every-flat_map f step (x ∷ xs) p = every-append (f x) (flat_map f xs) (step x (first (u x) (list_all u xs) p)) (every-flat_map f step xs (second (u x) (list_all u xs) p))
