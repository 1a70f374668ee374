-- What is among the items of a list that was mapped, filtered or joined.
use Rattle.std.proofs.Common.{◌≡◌, zero, suc, Bool, true, false, List, [], ◌∷◌, ◌++◌, map, refl, sym, subst, arith, inl, inr}
use Rattle.std.specs.Prelude.{◌⊎◌, filter, flat_map, if◌then◌else◌}
use Rattle.std.specs.List.{Contains}

-- the item is one of the list
abbrev pub Among : {A : Type 0} → List A → A → Type 0
Among [] y = ⊥
Among (x ∷ xs) y = (x ≡ y) ⊎ Among xs y

pub among : {A : Type 0} (xs : List A) (y : A) → Contains xs y → Among xs y
among [] y (k, within, is) = absurd (omega (arith, within))
among (x ∷ xs) y (zero, within, is) = inl is
among (x ∷ xs) y (suc k, within, is) = inr (among xs y (k, omega (arith, within), is))

pub among-append : {A : Type 0} (xs ys : List A) (y : A) → Among (xs ++ ys) y → Among xs y ⊎ Among ys y
among-append [] ys y h = inr h
among-append (x ∷ xs) ys y (inl is) = inl (inl is)
among-append (x ∷ xs) ys y (inr h) = elim (among-append xs ys y h) [ inl first ↦ inl (inr first) | inr second ↦ inr second ]

pub among-map : {A B : Type 0} (f : A → B) (xs : List A) (y : B) → Among (map f xs) y → (x : A) × Among xs x × (f x ≡ y)
among-map f [] y h = absurd h
among-map f (x ∷ xs) y (inl is) = (x, inl refl, is)
among-map f (x ∷ xs) y (inr h) = let found = among-map f xs y h in (found.0, inr found.1, found.2)

pub among-filter : {A : Type 0} (p : A → Bool) (xs : List A) (y : A) → Among (filter p xs) y → Among xs y × (p y ≡ true)
among-filter p [] y h = absurd h
among-filter p (x ∷ xs) y h =
    elim (p x) as (λ b. p x ≡ b → Among (if b then x ∷ filter p xs else filter p xs) y → Among (x ∷ xs) y × (p y ≡ true)) [
      | true ↦ λ passes h. elim h [ inl is ↦ (inl is, subst (λ z. p z ≡ true) is passes) | inr rest ↦ let found = among-filter p xs y rest in (inr found.0, found.1) ]
      | false ↦ λ passes h. let found = among-filter p xs y h in (inr found.0, found.1)
    ] refl h

-- and an item that passes is among those that do
pub filter-among : {A : Type 0} (p : A → Bool) (xs : List A) (y : A) → Among xs y → p y ≡ true → Among (filter p xs) y
filter-among p [] y h passes = absurd h
filter-among p (x ∷ xs) y (inl is) passes =
    subst (λ b. Among (if b then x ∷ filter p xs else filter p xs) y) (sym (subst (λ z. p z ≡ true) (sym is) passes)) (inl is)
filter-among p (x ∷ xs) y (inr h) passes =
    elim (p x) as (λ b. Among (if b then x ∷ filter p xs else filter p xs) y) [ true ↦ inr (filter-among p xs y h passes) | false ↦ filter-among p xs y h passes ]

pub map-among : {A B : Type 0} (f : A → B) (xs : List A) (x : A) → Among xs x → Among (map f xs) (f x)
map-among f [] x h = absurd h
map-among f (z ∷ xs) x (inl is) = inl (λ i. f (is i))
map-among f (z ∷ xs) x (inr h) = inr (map-among f xs x h)

pub among-flat_map : {A B : Type 0} (f : A → List B) (xs : List A) (y : B) → Among (flat_map f xs) y → (x : A) × Among xs x × Among (f x) y
among-flat_map f [] y h = absurd h
among-flat_map f (x ∷ xs) y h =
    elim (among-append (f x) (flat_map f xs) y h) [
      | inl here ↦ (x, inl refl, here)
      | inr there ↦ let found = among-flat_map f xs y there in (found.0, inr found.1, found.2)
    ]
