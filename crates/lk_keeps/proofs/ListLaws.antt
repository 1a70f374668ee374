-- Lists made of numbers and of what is numbered, item by item.
use Rattle.std.proofs.Common.{◌≡◌, ℕ, zero, suc, ◌+◌, ◌<◌, Bool, true, false, ◌||◌, List, [], ◌∷◌, ◌++◌, map, length, refl, sym, ap, subst, ◌∙◌, arith}
use Rattle.std.specs.Prelude.{nat_eq, nat_lt, flat_map, slice_index_or}
use Rattle.std.specs.List.{enumerate_from, list_all}
use Rattle.std.proofs.lemmas.Bool.{false≢true}
use Rattle.std.proofs.lemmas.List.{get_or_push, get_or_append_left, length-append, length-map, map_push}
use Rattle.lk_types.specs.Expressions.{has_number}
use Rattle.lk_semantics.specs.Joins.{numbers_below}
use Rattle.lk_semantics.proofs.EveryLaws.{first, second}
use Rattle.lk_semantics.proofs.JoinLaws.{numbers_equal}

-- ---- tests of numbers

pub of_test : (a b : ℕ) → nat_lt a b ≡ true → a < b
of_test a b h = grind (arith, h)

or_left : (a b : Bool) → a ≡ true → (a || b) ≡ true
or_left true b h = refl
or_left false b h = absurd (false≢true h)

or_right : (a b : Bool) → b ≡ true → (a || b) ≡ true
or_right true b h = refl
or_right false b h = h

-- ---- numbers in lists

pub is_there : (e : ℕ) → has_number e (e ∷ []) ≡ true
is_there e = or_left (nat_eq e e) false (numbers_equal.itself e)

pub in_left : (e : ℕ) (xs ys : List ℕ) → has_number e xs ≡ true → has_number e (xs ++ ys) ≡ true
in_left e [] ys h = absurd (false≢true h)
in_left e (x ∷ xs) ys h =
    elim (nat_eq e x) as (λ b. (b || has_number e xs) ≡ true → (b || has_number e (xs ++ ys)) ≡ true) [
      | true ↦ λ _. refl
      | false ↦ λ later. in_left e xs ys later
    ] h

pub in_right : (e : ℕ) (xs ys : List ℕ) → has_number e ys ≡ true → has_number e (xs ++ ys) ≡ true
in_right e [] ys h = h
in_right e (x ∷ xs) ys h = or_right (nat_eq e x) (has_number e (xs ++ ys)) (in_right e xs ys h)

pub below_there : (n k : ℕ) → k < n → has_number k (numbers_below n) ≡ true
below_there zero k h = absurd (omega arith)
below_there (suc n) k h =
    elim (nat_lt k n) as (λ b. nat_lt k n ≡ b → has_number k (numbers_below n ++ n ∷ []) ≡ true) [
      | true ↦ λ less. in_left k (numbers_below n) (n ∷ []) (below_there n k (of_test k n less))
      | false ↦ λ more. let same : k ≡ n = grind (arith, h, more) in
          subst (λ j. has_number k (numbers_below n ++ j ∷ []) ≡ true) same (in_right k (numbers_below n) (k ∷ []) (is_there k))
    ] refl

-- ---- lists over the numbers below one

pub length_below : (n : ℕ) → length (numbers_below n) ≡ n
length_below zero = refl
length_below (suc n) = length-append (numbers_below n) (n ∷ []) ∙ (let rest : length (numbers_below n) ≡ n = length_below n in omega arith)

module _ {B : Type 0} where
  pub map_below : (f g : ℕ → B) (n : ℕ) → ((k : ℕ) → k < n → f k ≡ g k) → map f (numbers_below n) ≡ map g (numbers_below n)
  map_below f g zero h = refl
  map_below f g (suc n) h =
      map_push f (numbers_below n) n ∙ (λ i. map_below f g n (λ k less. h k (omega arith)) i ++ h n (omega arith) i ∷ []) ∙ sym (map_push g (numbers_below n) n)

  pub at_below : (f : ℕ → B) (n k : ℕ) (none : B) → k < n → slice_index_or (map f (numbers_below n)) k none ≡ f k
  at_below f zero k none h = absurd (omega arith)
  at_below f (suc n) k none h =
      let long : length (map f (numbers_below n)) ≡ n = length-map (numbers_below n) f ∙ length_below n in
      ap (λ xs. slice_index_or xs k none) (map_push f (numbers_below n) n)
      ∙ elim (nat_lt k n) as (λ b. nat_lt k n ≡ b → slice_index_or (map f (numbers_below n) ++ f n ∷ []) k none ≡ f k) [
        | true ↦ λ less. let under : k < n = of_test k n less in
            get_or_append_left (map f (numbers_below n)) (f n ∷ []) none k (omega (arith, long, under)) ∙ at_below f n k none under
        | false ↦ λ more. let same : k ≡ n = grind (arith, h, more) in
            get_or_push (map f (numbers_below n)) (f n) none k (long ∙ sym same) ∙ ap f (sym same)
      ] refl

-- ---- lists over what is numbered

module _ {A : Type 0} where
  -- what an item gives is in what all give
  pub in_numbered : (f : ℕ × A → List ℕ) (k : ℕ) (xs : List A) (i e : ℕ) (none : A) → i < length xs → has_number e (f (k + i, slice_index_or xs i none)) ≡ true
      → has_number e (flat_map f (enumerate_from k xs)) ≡ true
  in_numbered f k [] i e none less h = absurd (omega arith)
  in_numbered f k (x ∷ xs) zero e none less h =
      let here : k + 0 ≡ k = omega arith in
      in_left e (f (k, x)) (flat_map f (enumerate_from (k + 1) xs)) (subst (λ j. has_number e (f (j, x)) ≡ true) here h)
  in_numbered f k (x ∷ xs) (suc i) e none less h =
      let next : k + suc i ≡ k + 1 + i = omega arith in
      in_right e (f (k, x)) (flat_map f (enumerate_from (k + 1) xs))
      (in_numbered f (k + 1) xs i e none (omega arith) (subst (λ j. has_number e (f (j, slice_index_or xs i none)) ≡ true) next h))

  pub passes_at : (t : A → Bool) (xs : List A) (i : ℕ) (none : A) → list_all t xs ≡ true → i < length xs → t (slice_index_or xs i none) ≡ true
  passes_at t [] i none all less = absurd (omega arith)
  passes_at t (x ∷ xs) zero none all less = first (t x) (list_all t xs) all
  passes_at t (x ∷ xs) (suc i) none all less = passes_at t xs i none (second (t x) (list_all t xs) all) (omega arith)

  pub in_each : (f : A → List ℕ) (xs : List A) (i e : ℕ) (none : A) → i < length xs → has_number e (f (slice_index_or xs i none)) ≡ true
      → has_number e (flat_map f xs) ≡ true
  in_each f [] i e none less h = absurd (omega arith)
  in_each f (x ∷ xs) zero e none less h = in_left e (f x) (flat_map f xs) h
  in_each f (x ∷ xs) (suc i) e none less h = in_right e (f x) (flat_map f xs) (in_each f xs i e none (omega arith) h)
