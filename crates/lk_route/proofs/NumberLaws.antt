-- Numbers below one.
use Rattle.std.proofs.Common.{◌≡◌, ◌<◌, ℕ, zero, suc, ◌+◌, length, map, true, false, ◌||◌, [], ◌∷◌, ◌++◌, refl, sym, ap, ◌∙◌, arith}
use Rattle.std.specs.Prelude.{nat_eq, nat_le, nat_lt, slice_index_or}
use Rattle.std.proofs.lemmas.List.{get_or_append_left, get_or_push, length-append, length-map, map_push}
use Rattle.std.proofs.lemmas.List.Folds.{list_any-append}
use Rattle.lk_types.specs.Expressions.{has_number}
use Rattle.lk_semantics.specs.Joins.{numbers_below}

last_or_less : (p n : ℕ) → (nat_lt p n || (nat_eq p n || false)) ≡ nat_lt p (suc n)
last_or_less p n = grind arith

pub is_below : (p n : ℕ) → has_number p (numbers_below n) ≡ nat_lt p n
is_below p zero = grind arith
is_below p (suc n) = list_any-append (nat_eq p) (numbers_below n) (n ∷ []) ∙ ap (λ b. b || (nat_eq p n || false)) (is_below p n) ∙ last_or_less p n

less_or_same : (p n : ℕ) → nat_lt p (n + 1) ≡ nat_le p n
less_or_same p n = grind arith

-- the numbers up to one
pub is_at_most : (n p : ℕ) → has_number p (numbers_below (n + 1)) ≡ nat_le p n
is_at_most n p = is_below p (n + 1) ∙ less_or_same p n

-- ---- lists over the numbers below one

pub length_below : (n : ℕ) → length (numbers_below n) ≡ n
length_below zero = refl
length_below (suc n) = length-append (numbers_below n) (n ∷ []) ∙ (let rest : length (numbers_below n) ≡ n = length_below n in omega arith)

pub of_test : (a b : ℕ) → nat_lt a b ≡ true → a < b
of_test a b h = grind (arith, h)

last_or_below : (k n : ℕ) → nat_lt k (suc n) ≡ true → nat_lt k n ≡ false → k ≡ n
last_or_below k n h more = grind (arith, h, more)

pub at_below : {B : Type 0} (f : ℕ → B) (n k : ℕ) (none : B) → nat_lt k n ≡ true → slice_index_or (map f (numbers_below n)) k none ≡ f k
at_below f zero k none h = absurd (omega (arith, of_test k 0 h))
at_below f (suc n) k none h =
    let long : length (map f (numbers_below n)) ≡ n = length-map (numbers_below n) f ∙ length_below n in
    ap (λ xs. slice_index_or xs k none) (map_push f (numbers_below n) n)
    ∙ elim (nat_lt k n) as (λ b. nat_lt k n ≡ b → slice_index_or (map f (numbers_below n) ++ f n ∷ []) k none ≡ f k) [
      | true ↦ λ less. let under : k < n = of_test k n less in
          get_or_append_left (map f (numbers_below n)) (f n ∷ []) none k (omega (arith, long, under)) ∙ at_below f n k none less
      | false ↦ λ more. let same : k ≡ n = last_or_below k n h more in
          get_or_push (map f (numbers_below n)) (f n) none k (long ∙ sym same) ∙ ap f (sym same)
    ] refl

pub number_at : (n k : ℕ) → k < n → slice_index_or (numbers_below n) k 0 ≡ k
number_at zero k h = absurd (omega arith)
number_at (suc n) k h =
    let long : length (numbers_below n) ≡ n = length_below n in
    elim (nat_lt k n) as (λ b. nat_lt k n ≡ b → slice_index_or (numbers_below n ++ n ∷ []) k 0 ≡ k) [
      | true ↦ λ less. let under : k < n = of_test k n less in
          get_or_append_left (numbers_below n) (n ∷ []) 0 k (omega (arith, long, under)) ∙ number_at n k under
      | false ↦ λ more. let same : k ≡ n = grind (arith, h, more) in
          get_or_push (numbers_below n) n 0 k (long ∙ sym same) ∙ sym same
    ] refl
