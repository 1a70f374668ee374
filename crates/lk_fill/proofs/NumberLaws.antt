-- Numbers in lists: which stand in one, tests of each, and lists in which none stands twice.
use Rattle.std.proofs.Common.{◌≡◌, ℕ, zero, suc, ◌<◌, ◌≤◌, Bool, true, false, ◌||◌, List, [], ◌∷◌, ◌++◌, length, refl, sym, ap, subst, ◌∙◌, arith, inl, inr, ⊎_elim}
use Rattle.std.specs.Prelude.{◌⊎◌, nat_eq, nat_lt, not, slice_index_or}
use Rattle.std.specs.List.{list_all}
use Rattle.std.proofs.lemmas.Bool.{false≢true, eqb-true}
use Rattle.lk_types.specs.Expressions.{has_number}
use Rattle.lk_semantics.specs.Joins.{numbers_below}
use Rattle.lk_semantics.proofs.EveryLaws.{both, first, second}
use Rattle.lk_semantics.proofs.JoinLaws.{numbers_equal}
use Rattle.lk_fill.specs.Orders.{are_different}

-- ---- numbers in lists

pub or_left : (a b : Bool) → a ≡ true → (a || b) ≡ true
or_left true b h = refl
or_left false b h = absurd (false≢true h)

pub or_right : (a b : Bool) → b ≡ true → (a || b) ≡ true
or_right true b h = refl
or_right false b h = h

pub in_front : (y n : ℕ) (xs : List ℕ) → has_number y xs ≡ true → has_number y (xs ++ n ∷ []) ≡ true
in_front y n [] h = absurd (false≢true h)
in_front y n (x ∷ xs) h =
    elim (nat_eq y x) as (λ b. (b || has_number y xs) ≡ true → (b || has_number y (xs ++ n ∷ [])) ≡ true) [
      | true ↦ λ here. refl
      | false ↦ λ later. in_front y n xs later
    ] h

pub at_back : (n : ℕ) (xs : List ℕ) → has_number n (xs ++ n ∷ []) ≡ true
at_back n [] = or_left (nat_eq n n) false (numbers_equal.itself n)
at_back n (x ∷ xs) = or_right (nat_eq n x) (has_number n (xs ++ n ∷ [])) (at_back n xs)

split : (y n : ℕ) → y < suc n → (y < n) ⊎ (y ≡ n)
split zero zero h = inr refl
split zero (suc n) h = inl (omega arith)
split (suc y) zero h = absurd (omega arith)
split (suc y) (suc n) h = ⊎_elim (λ less. inl (omega arith)) (λ same. inr (ap suc same)) (split y n (omega arith))

pub below_there : (n y : ℕ) → y < n → has_number y (numbers_below n) ≡ true
below_there zero y h = absurd (omega arith)
below_there (suc n) y h =
    ⊎_elim (λ less. in_front y n (numbers_below n) (below_there n y less))
    (λ same. subst (λ z. has_number z (numbers_below n ++ n ∷ []) ≡ true) (sym same) (at_back n (numbers_below n))) (split y n h)

pub within_more : (k d : ℕ) (order : List ℕ) → list_all (λ e. nat_lt e k) order ≡ true → nat_lt d k ≡ true → list_all (λ e. nat_lt e k) (order ++ d ∷ []) ≡ true
within_more k d [] h less = both (nat_lt d k) true less refl
within_more k d (x ∷ order) h less =
    both (nat_lt x k) (list_all (λ e. nat_lt e k) (order ++ d ∷ [])) (first (nat_lt x k) (list_all (λ e. nat_lt e k) order) h) (within_more k d order (second (nat_lt x k) (list_all (λ e. nat_lt e k) order) h) less)

pub to_test : (a b : ℕ) → a < b → nat_lt a b ≡ true
to_test a b h = grind (arith, h)

pub of_test : (a b : ℕ) → nat_lt a b ≡ true → a < b
of_test a b h = grind (arith, h)

pub all_below : (n k : ℕ) → n ≤ k → list_all (λ d. nat_lt d k) (numbers_below n) ≡ true
all_below zero k h = refl
all_below (suc n) k h = within_more k n (numbers_below n) (all_below n k (omega arith)) (to_test n k (omega arith))

-- a test of each number of a list
pub all_of : (p : ℕ → Bool) (xs : List ℕ) → ((e : ℕ) → has_number e xs ≡ true → p e ≡ true) → list_all p xs ≡ true
all_of p [] h = refl
all_of p (x ∷ xs) h =
    both (p x) (list_all p xs) (h x (or_left (nat_eq x x) (has_number x xs) (numbers_equal.itself x))) (all_of p xs (λ e there. h e (or_right (nat_eq e x) (has_number e xs) there)))

pub of_all : (p : ℕ → Bool) (xs : List ℕ) → list_all p xs ≡ true → (e : ℕ) → has_number e xs ≡ true → p e ≡ true
of_all p [] h e there = absurd (false≢true there)
of_all p (x ∷ xs) h e there =
    elim (nat_eq e x) as (λ b. nat_eq e x ≡ b → (b || has_number e xs) ≡ true → p e ≡ true) [
      | true ↦ λ same _. subst (λ z. p z ≡ true) (sym (eqb-true e x same)) (first (p x) (list_all p xs) h)
      | false ↦ λ _ later. of_all p xs (second (p x) (list_all p xs) h) e later
    ] refl there

pub in_left : (e : ℕ) (xs ys : List ℕ) → has_number e xs ≡ true → has_number e (xs ++ ys) ≡ true
in_left e [] ys h = absurd (false≢true h)
in_left e (x ∷ xs) ys h =
    elim (nat_eq e x) as (λ b. (b || has_number e xs) ≡ true → (b || has_number e (xs ++ ys)) ≡ true) [
      | true ↦ λ here. refl
      | false ↦ λ later. in_left e xs ys later
    ] h

pub in_right : (e : ℕ) (xs ys : List ℕ) → has_number e ys ≡ true → has_number e (xs ++ ys) ≡ true
in_right e [] ys h = h
in_right e (x ∷ xs) ys h = or_right (nat_eq e x) (has_number e (xs ++ ys)) (in_right e xs ys h)

pub in_either : (e : ℕ) (xs ys : List ℕ) → has_number e (xs ++ ys) ≡ true → (has_number e xs ≡ true) ⊎ (has_number e ys ≡ true)
in_either e [] ys h = inr h
in_either e (x ∷ xs) ys h =
    elim (nat_eq e x) as (λ b. (b || has_number e (xs ++ ys)) ≡ true → ((b || has_number e xs) ≡ true) ⊎ (has_number e ys ≡ true)) [
      | true ↦ λ here. inl refl
      | false ↦ λ later. in_either e xs ys later
    ] h

pub only_one : (e d : ℕ) → has_number e (d ∷ []) ≡ true → e ≡ d
only_one e d h = ⊎_elim (λ same. eqb-true e d same) (λ none. absurd (false≢true none)) (either (nat_eq e d) false h)
  where
    either : (a b : Bool) → (a || b) ≡ true → (a ≡ true) ⊎ (b ≡ true)
    either true b h = inl refl
    either false b h = inr h

pub stands_there : (order : List ℕ) (i : ℕ) → i < length order → has_number (slice_index_or order i 0) order ≡ true
stands_there [] i less = absurd (omega arith)
stands_there (x ∷ order) zero less = or_left (nat_eq x x) (has_number x order) (numbers_equal.itself x)
stands_there (x ∷ order) (suc i) less = or_right (nat_eq (slice_index_or order i 0) x) (has_number (slice_index_or order i 0) order) (stands_there order i (omega arith))

-- ---- numbers that are different

pub is_not : (b : Bool) → not b ≡ true → b ≡ false
is_not true h = absurd (false≢true h)
is_not false h = refl

neither : (a b : Bool) → a ≡ false → b ≡ false → (a || b) ≡ false
neither true b p q = p
neither false b p q = q

not_left : (a b : Bool) → (a || b) ≡ false → a ≡ false
not_left true b h = h
not_left false b h = refl

not_right : (a b : Bool) → (a || b) ≡ false → b ≡ false
not_right true b h = absurd (false≢true (sym h))
not_right false b h = h

other_way : (d x : ℕ) → nat_eq d x ≡ false → nat_eq x d ≡ false
other_way d x h =
    elim (nat_eq x d) as (λ b. nat_eq x d ≡ b → b ≡ false) [
      | true ↦ λ same. absurd (false≢true (sym h ∙ subst (λ z. nat_eq d z ≡ true) (sym (eqb-true x d same)) (numbers_equal.itself d)))
      | false ↦ λ _. refl
    ] refl

not_behind : (y n : ℕ) (xs : List ℕ) → has_number y xs ≡ false → nat_eq y n ≡ false → has_number y (xs ++ n ∷ []) ≡ false
not_behind y n [] h other = neither (nat_eq y n) false other refl
not_behind y n (x ∷ xs) h other =
    neither (nat_eq y x) (has_number y (xs ++ n ∷ [])) (not_left (nat_eq y x) (has_number y xs) h) (not_behind y n xs (not_right (nat_eq y x) (has_number y xs) h) other)

pub different_more : (order : List ℕ) (d : ℕ) → are_different order ≡ true → has_number d order ≡ false → are_different (order ++ d ∷ []) ≡ true
different_more [] d h out = refl
different_more (x ∷ order) d h out =
    both (not (has_number x (order ++ d ∷ []))) (are_different (order ++ d ∷ []))
    (ap not (not_behind x d order (is_not (has_number x order) (first (not (has_number x order)) (are_different order) h)) (other_way d x (not_left (nat_eq d x) (has_number d order) out))))
    (different_more order d (second (not (has_number x order)) (are_different order) h) (not_right (nat_eq d x) (has_number d order) out))
