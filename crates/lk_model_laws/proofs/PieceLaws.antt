-- What there is where no fault is found.
use Rattle.std.proofs.Common.{◌≡◌, ℕ, ◌+◌, Bool, true, false, List, [], ◌∷◌, ◌++◌, refl, subst, sym, Option, Some, None}
use Rattle.std.specs.Prelude.{if◌then◌else◌}
use Rattle.std.specs.List.{AllByRecursion, flat_map, fold}
use Rattle.std.specs.Option.{option_map, option_or}
use Rattle.lk_val.specs.declared.fault.FaultLine.{FaultLine}
use Rattle.lk_params.specs.declared.finding.Finding.{Finding}
use Rattle.lk_params.specs.Findings.{is_before, soonest, sooner}
use Rattle.lk_params.specs.Known.{along, if_so}
use Rattle.lk_scope.specs.Pieces.{first_along, first_at, first_of, line_with}

-- ---- one of two

abbrev IsNothing : {A : Type 0} → Option A → Type 0
IsNothing None = Unit {0}
IsNothing (Some x) = ⊥

pub some_none : {A : Type 0} {x : A} → Some x ≡ None → ⊥
some_none h = subst IsNothing (sym h) tt

pub none_left : {A : Type 0} (a b : Option A) → option_or a b ≡ None → a ≡ None
none_left None b h = refl
none_left (Some x) b h = absurd (some_none h)

pub none_right : {A : Type 0} (a b : Option A) → option_or a b ≡ None → b ≡ None
none_right None b h = h
none_right (Some x) b h = absurd (some_none h)

pub none_map : {A B : Type 0} (f : A → B) (o : Option A) → option_map f o ≡ None → o ≡ None
none_map f None h = refl
none_map f (Some x) h = absurd (some_none h)

-- ---- items in order

pub none_of : (pieces : List (Option FaultLine)) → first_of pieces ≡ None → AllByRecursion (λ piece. piece ≡ None) pieces
none_of [] h = tt
none_of (piece ∷ pieces) h = (none_left piece (first_of pieces) h, none_of pieces (none_right piece (first_of pieces) h))

module _ {A : Type 0} (test : A → Option FaultLine) where
  pub none_at : (xs : List A) → first_at test xs ≡ None → AllByRecursion (λ x. test x ≡ None) xs
  none_at [] h = tt
  none_at (x ∷ xs) h = (none_left (test x) (first_at test xs) h, none_at xs (none_right (test x) (first_at test xs) h))

-- each item with its number, from one on
abbrev pub EachFrom : {A : Type 0} → (ℕ → A → Type 0) → ℕ → List A → Type 0
EachFrom P n [] = Unit {0}
EachFrom P n (x ∷ xs) = P n x × EachFrom P (n + 1) xs

module _ {A : Type 0} (test : ℕ → A → Option FaultLine) where
  pub none_along : (n : ℕ) (xs : List A) → first_along test n xs ≡ None → EachFrom (λ k x. test k x ≡ None) n xs
  none_along n [] h = tt
  none_along n (x ∷ xs) h =
      (none_left (test n x) (first_along test (n + 1) xs) h, none_along (n + 1) xs (none_right (test n x) (first_along test (n + 1) xs) h))

-- ---- findings

some_stays : (a : Finding) (found : List Finding) → fold sooner (Some a) found ≡ None → ⊥
some_stays a [] h = some_none h
some_stays a (b ∷ found) h =
    elim (is_before b a) as (λ t. fold sooner (if t then Some b else Some a) found ≡ None → ⊥) [
      | true ↦ λ k. some_stays b found k
      | false ↦ λ k. some_stays a found k
    ] h

none_folded : (o : Option Finding) (found : List Finding) → fold sooner o found ≡ None → (o ≡ None) × (found ≡ [])
none_folded None [] h = (refl, refl)
none_folded None (b ∷ found) h = absurd (some_stays b found h)
none_folded (Some a) found h = absurd (some_stays a found h)

-- an object without a fault has none of its own, and none that is found besides
pub none_lined : (first : Option Finding) (found : List Finding) → line_with first found ≡ None → (first ≡ None) × (found ≡ [])
none_lined first found h = none_folded first found (none_map (λ f. f.line) (fold sooner first found) h)

pub none_soonest : (found : List Finding) → soonest found ≡ None → found ≡ []
none_soonest found h = (none_folded None found h).1

pub nil_left : {A : Type 0} (xs ys : List A) → xs ++ ys ≡ [] → xs ≡ []
nil_left [] ys h = refl
nil_left (x ∷ xs) ys h = cc

pub nil_right : {A : Type 0} (xs ys : List A) → xs ++ ys ≡ [] → ys ≡ []
nil_right [] ys h = h
nil_right (x ∷ xs) ys h = cc

pub nil_each : {A B : Type 0} (f : A → List B) (xs : List A) → flat_map f xs ≡ [] → AllByRecursion (λ x. f x ≡ []) xs
nil_each f [] h = tt
nil_each f (x ∷ xs) h = (nil_left (f x) (flat_map f xs) h, nil_each f xs (nil_right (f x) (flat_map f xs) h))

pub not_so : (b : Bool) (f : Finding) → if_so b f ≡ [] → b ≡ false
not_so true f h = cc
not_so false f h = refl

-- what a rule finds at each item, given some items before it
pub nil_along : {A B : Type 0} (rule : List A → A → List B) (before xs : List A) → along rule before xs ≡ [] → AllByRecursion (λ x. (front : List A) × (rule front x ≡ [])) xs
nil_along rule before [] h = tt
nil_along {A} rule before (x ∷ xs) h =
    ((before, nil_left (rule before x) (along rule (before ++ x ∷ []) xs) h), nil_along rule (before ++ x ∷ []) xs (nil_right (rule before x) (along rule (before ++ x ∷ []) xs) h))
