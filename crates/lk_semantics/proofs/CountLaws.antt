-- Of two tests of which the second passes what the first does, the first keeps no more numbers, and fewer where some number differs.
use Rattle.std.proofs.Common.{◌≡◌, ℕ, suc, ◌<◌, ◌≤◌, Bool, true, false, ◌||◌, List, [], ◌∷◌, length, refl, sym, ap, subst, ◌∙◌, arith}
use Rattle.std.specs.Prelude.{filter, nat_eq, if◌then◌else◌}
use Rattle.std.proofs.lemmas.Bool.{false≢true, eqb-true}
use Rattle.lk_types.specs.Expressions.{has_number}

dropped : (p : ℕ → Bool) (x : ℕ) (xs : List ℕ) → p x ≡ false → filter p (x ∷ xs) ≡ filter p xs
dropped p x xs e = λ i. if e i then x ∷ filter p xs else filter p xs

kept : (p : ℕ → Bool) (x : ℕ) (xs : List ℕ) → p x ≡ true → filter p (x ∷ xs) ≡ x ∷ filter p xs
kept p x xs e = λ i. if e i then x ∷ filter p xs else filter p xs

module _ (p q : ℕ → Bool) (imp : (x : ℕ) → p x ≡ true → q x ≡ true) where
  pub no_more : (xs : List ℕ) → length (filter p xs) ≤ length (filter q xs)
  no_more [] = omega arith
  no_more (y ∷ ys) =
      let rest : length (filter p ys) ≤ length (filter q ys) = no_more ys in
      elim (p y) as (λ a. p y ≡ a → length (if a then y ∷ filter p ys else filter p ys) ≤ length (filter q (y ∷ ys))) [
        | true ↦ λ py. subst (λ l. suc (length (filter p ys)) ≤ length l) (sym (kept q y ys (imp y py))) (omega arith)
        | false ↦ λ _. elim (q y) as (λ b. length (filter p ys) ≤ length (if b then y ∷ filter q ys else filter q ys)) [ true ↦ omega arith | false ↦ rest ]
      ] refl

  pub fewer : (y : ℕ) → p y ≡ false → q y ≡ true → (xs : List ℕ) → has_number y xs ≡ true → length (filter p xs) < length (filter q xs)
  fewer y py qy [] h = absurd (false≢true h)
  fewer y py qy (x ∷ xs) h =
      elim (nat_eq y x) as (λ b. nat_eq y x ≡ b → (b || has_number y xs) ≡ true → length (filter p (x ∷ xs)) < length (filter q (x ∷ xs))) [
        | true ↦ λ same _.
            let is : y ≡ x = eqb-true y x same in
            let rest : length (filter p xs) ≤ length (filter q xs) = no_more xs in
            subst (λ l. length l < length (filter q (x ∷ xs))) (sym (dropped p x xs (subst (λ z. p z ≡ false) is py)))
            (subst (λ l. length (filter p xs) < length l) (sym (kept q x xs (subst (λ z. q z ≡ true) is qy))) (omega arith))
        | false ↦ λ _ later.
            let rest : length (filter p xs) < length (filter q xs) = fewer y py qy xs later in
            elim (p x) as (λ a. p x ≡ a → length (if a then x ∷ filter p xs else filter p xs) < length (filter q (x ∷ xs))) [
              | true ↦ λ px. subst (λ l. suc (length (filter p xs)) < length l) (sym (kept q x xs (imp x px))) (omega arith)
              | false ↦ λ _. elim (q x) as (λ b. length (filter p xs) < length (if b then x ∷ filter q xs else filter q xs)) [ true ↦ omega arith | false ↦ rest ]
            ] refl
      ] refl h

pub all_kept : (xs : List ℕ) → length (filter (λ x. true) xs) ≡ length xs
all_kept [] = refl
all_kept (x ∷ xs) = ap suc (all_kept xs)
