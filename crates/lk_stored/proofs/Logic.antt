-- Truth values, and items of lists.
use Rattle.std.proofs.Common.{◌≡◌, ℕ, zero, suc, ◌<◌, Bool, true, false, ◌&&◌, ◌||◌, List, [], ◌∷◌, ◌++◌, length, refl, sym, ap, ◌∙◌, inl, inr, ⊎_elim}
use Rattle.std.specs.Prelude.{◌⊎◌, filter, if◌then◌else◌, nat_eq}
use Rattle.std.specs.List.{list_all, list_any}
use Rattle.std.proofs.lemmas.Bool.{eq-eqb, eqb-true, false≢true}
use Rattle.lk_val.specs.Least.{is_in}
use Rattle.lk_val.proofs.LeastLaws.{IsEquality}

pub or_true : (b : Bool) → (b || true) ≡ true
or_true true = refl
or_true false = refl

pub and_true : (b : Bool) → (b && true) ≡ b
and_true true = refl
and_true false = refl

pub one_of : (a b : Bool) → (a || b) ≡ true → (a ≡ true) ⊎ (b ≡ true)
one_of true b h = inl refl
one_of false b h = inr h

pub both : (a b : Bool) → (a && b) ≡ true → (a ≡ true) × (b ≡ true)
both true b h = (refl, h)
both false b h = absurd (false≢true h)

pub together : (a b : Bool) → a ≡ true → b ≡ true → (a && b) ≡ true
together true b p q = q
together false b p q = absurd (false≢true p)

pub same_test : (a b : Bool) → (a ≡ true → b ≡ true) → (b ≡ true → a ≡ true) → a ≡ b
same_test true b f g = sym (f refl)
same_test false true f g = g refl
same_test false false f g = refl

pub or_swap : (a b c : Bool) → (a || (b || c)) ≡ (b || (a || c))
or_swap true b c = sym (or_true b)
or_swap false b c = refl

pub append_none : {A : Type 0} (xs : List A) → xs ++ [] ≡ xs
append_none [] = refl
append_none (x ∷ xs) = ap (λ ys. x ∷ ys) (append_none xs)

pub numbers_equal : IsEquality nat_eq
numbers_equal = record { itself = λ x. eq-eqb x x refl; exact = eqb-true }

-- a test that a number in the list passes is passed by some
pub any_at : (f : ℕ → Bool) (y : ℕ) (xs : List ℕ) → f y ≡ true → is_in nat_eq y xs ≡ true → list_any f xs ≡ true
any_at f y [] h inside = absurd (false≢true inside)
any_at f y (x ∷ xs) h inside =
    ⊎_elim (λ e. ap (λ b. b || list_any f xs) (ap f (sym (eqb-true y x e)) ∙ h)) (λ e. ap (λ b. f x || b) (any_at f y xs h e) ∙ or_true (f x))
    (one_of (nat_eq y x) (is_in nat_eq y xs) inside)

-- some number of a filtered list passes a test
pub any_of : (f q : ℕ → Bool) (xs : List ℕ) → list_any f (filter q xs) ≡ true → (y : ℕ) × (q y ≡ true) × (f y ≡ true)
any_of f q [] h = absurd (false≢true h)
any_of f q (x ∷ xs) h =
    elim (q x) as (λ b. q x ≡ b → list_any f (if b then x ∷ filter q xs else filter q xs) ≡ true → (y : ℕ) × (q y ≡ true) × (f y ≡ true)) [
      | true ↦ λ qx h. ⊎_elim (λ e. (x, qx, e)) (λ e. any_of f q xs e) (one_of (f x) (list_any f (filter q xs)) h)
      | false ↦ λ qx h. any_of f q xs h
    ] refl h

-- two tests that agree on the numbers of a list keep the same of it
pub filter_same : (f g : ℕ → Bool) (xs : List ℕ) → ((d : ℕ) → is_in nat_eq d xs ≡ true → f d ≡ g d) → filter f xs ≡ filter g xs
filter_same f g [] h = refl
filter_same f g (x ∷ xs) h =
    let rest = filter_same f g xs (λ d inside. h d (ap (λ b. nat_eq d x || b) inside ∙ or_true (nat_eq d x))) in
    let here = h x (ap (λ b. b || is_in nat_eq x xs) (eq-eqb x x refl)) in
    (λ i. if here i then x ∷ rest i else rest i)

-- all numbers of a list pass where each one does
pub all_from : (f : ℕ → Bool) (xs : List ℕ) → ((d : ℕ) → is_in nat_eq d xs ≡ true → f d ≡ true) → list_all f xs ≡ true
all_from f [] h = refl
all_from f (x ∷ xs) h =
    together (f x) (list_all f xs) (h x (ap (λ b. b || is_in nat_eq x xs) (eq-eqb x x refl)))
    (all_from f xs (λ d inside. h d (ap (λ b. nat_eq d x || b) inside ∙ or_true (nat_eq d x))))

pub all_has : (f : ℕ → Bool) (xs : List ℕ) → list_all f xs ≡ true → (d : ℕ) → is_in nat_eq d xs ≡ true → f d ≡ true
all_has f [] h d inside = absurd (false≢true inside)
all_has f (x ∷ xs) h d inside =
    let parts = both (f x) (list_all f xs) h in
    ⊎_elim (λ e. ap f (eqb-true d x e) ∙ parts.0) (λ e. all_has f xs parts.1 d e) (one_of (nat_eq d x) (is_in nat_eq d xs) inside)
