-- A sorted list in which no two items tie is its set, also by an order that agrees on its items.
use Rattle.std.proofs.Common.{◌≡◌, ℕ, zero, suc, ◌+◌, ◌<◌, ◌≤◌, false, List, [], ◌∷◌, length, refl, sym, ap, ◌∙◌, subst, arith}
use Rattle.std.specs.Prelude.{◌||◌, IsPermutation, All, slice_index_or}
use Rattle.std.specs.List.{AllByRecursion}
use Rattle.std.specs.List.Sorted.{IsSorted}
use Rattle.std.specs.Ordering.{is_eq, is_lt, match_ordering, ordering_reverse}
use Rattle.std.specs.declared.cmp.Ordering.{Ordering}
use Rattle.std.specs.declared.cmp.Ordering.TheVariants.{Less, Equal, Greater}
use Rattle.std.proofs.lemmas.Bool.{false≢true}
use Rattle.std.proofs.lemmas.List.Sorted.{length_permutation}
use Rattle.lk_val.specs.Sets.{IsExactOrder, has, set_of, with_item}
use Rattle.lk_val.proofs.SetLaws.{set_of-IsPermutation, has-set_of, item_again, IsStrictlySortedBy-set_of}

pub all_back : {A : Type 0} (P : A → Type 0) (xs : List A) → All P xs → AllByRecursion P xs
all_back P [] h = tt
all_back P (x ∷ xs) h = (h 0 x (omega arith), all_back P xs (λ k d lt. h (suc k) d (omega arith)))

-- each pair of an item and a later one
abbrev pub AllPairs : {A : Type 0} → (A → A → Type 0) → List A → Type 0
AllPairs Q [] = Unit {0}
AllPairs Q (x ∷ xs) = AllByRecursion (Q x) xs × AllPairs Q xs

module _ {A : Type 0} (S R : A → A → Ordering) where
  all-with_item : (P : A → Type 0) (x : A) (s : List A) → P x → AllByRecursion P s → AllByRecursion P (with_item R x s)
  all-with_item P x [] p h = (p, tt)
  all-with_item P x (y ∷ ys) p h =
      elim (R x y) as (λ r. AllByRecursion P (match_ordering r (x ∷ y ∷ ys) (y ∷ ys) (y ∷ with_item R x ys))) [
        | Less ↦ (p, h)
        | Equal ↦ h
        | Greater ↦ (h.0, all-with_item P x ys p h.1)
      ]

  all-set_of : (P : A → Type 0) (xs : List A) → AllByRecursion P xs → AllByRecursion P (set_of R xs)
  all-set_of P [] h = tt
  all-set_of P (x ∷ xs) h = all-with_item P x (set_of R xs) h.0 (all-set_of P xs h.1)

  -- the two orders agree, and there is no tie
  abbrev pub IsApart : A → A → Type 0
  IsApart x y = (S x y ≡ R x y) × (is_eq (R x y) ≡ false)

  agree : (x : A) (s : List A) → AllByRecursion (IsApart x) s → with_item S x s ≡ with_item R x s
  agree x [] h = refl
  agree x (y ∷ ys) h =
      ap (λ r. match_ordering r (x ∷ y ∷ ys) (y ∷ ys) (y ∷ with_item S x ys)) h.0.0
      ∙ ap (λ t. match_ordering (R x y) (x ∷ y ∷ ys) (y ∷ ys) (y ∷ t)) (agree x ys h.1)

  longer : (x : A) (s : List A) → AllByRecursion (IsApart x) s → length (with_item R x s) ≡ suc (length s)
  longer x [] h = refl
  longer x (y ∷ ys) h =
      elim (R x y) as (λ r. is_eq r ≡ false → length (match_ordering r (x ∷ y ∷ ys) (y ∷ ys) (y ∷ with_item R x ys)) ≡ suc (suc (length ys))) [
        | Less ↦ λ e. refl
        | Equal ↦ λ e. absurd (false≢true (sym e))
        | Greater ↦ λ e. ap suc (longer x ys h.1)
      ] h.0.1

  agree-set_of : (xs : List A) → AllPairs IsApart xs → set_of S xs ≡ set_of R xs
  agree-set_of [] h = refl
  agree-set_of (x ∷ xs) h = ap (with_item S x) (agree-set_of xs h.1) ∙ agree x (set_of R xs) (all-set_of (IsApart x) xs h.0)

  length-set_of : (xs : List A) → AllPairs IsApart xs → length (set_of R xs) ≡ length xs
  length-set_of [] h = refl
  length-set_of (x ∷ xs) h = longer x (set_of R xs) (all-set_of (IsApart x) xs h.0) ∙ ap suc (length-set_of xs h.1)

  at_most : (x : A) (s : List A) → length (with_item R x s) ≤ suc (length s)
  at_most x [] = omega arith
  at_most x (y ∷ ys) =
      elim (R x y) as (λ r. length (match_ordering r (x ∷ y ∷ ys) (y ∷ ys) (y ∷ with_item R x ys)) ≤ suc (suc (length ys))) [
        | Less ↦ omega arith
        | Equal ↦ omega arith
        | Greater ↦ omega (arith, at_most x ys)
      ]

  no_longer : (xs : List A) → length (set_of R xs) ≤ length xs
  no_longer [] = omega arith
  no_longer (x ∷ xs) = omega (arith, at_most x (set_of R xs), no_longer xs)

  module _ (o : IsExactOrder R) where
    first_stays : (y : A) (ys : List A) → IsSorted R (y ∷ ys) → length (with_item R y ys) ≡ suc (length ys) → with_item R y ys ≡ y ∷ ys
    first_stays y [] s l = refl
    first_stays y (z ∷ zs) s l =
        elim (R y z) as (λ r. R y z ≡ r → length (match_ordering r (y ∷ z ∷ zs) (z ∷ zs) (z ∷ with_item R y zs)) ≡ suc (suc (length zs)) → match_ordering r (y ∷ z ∷ zs) (z ∷ zs) (z ∷ with_item R y zs) ≡ y ∷ z ∷ zs) [
          | Less ↦ λ e l. refl
          | Equal ↦ λ e l. absurd (omega (arith, l))
          | Greater ↦ λ e l. absurd (false≢true (sym (s 0 y (omega arith) (omega arith)) ∙ ap is_lt (o.total.antisymm z y ∙ ap ordering_reverse e)))
        ] refl l

    rest_sorted : (y : A) (ys : List A) → IsSorted R (y ∷ ys) → IsSorted R ys
    rest_sorted y ys s = λ k d low high.
        let next : suc k + 1 ≡ suc (k + 1) = omega arith in
        subst (λ n. is_lt (R (slice_index_or (y ∷ ys) n d) (slice_index_or ys k d)) ≡ false) next (s (suc k) d (omega arith) (omega (arith, high)))

    sorted-set : (ys : List A) → IsSorted R ys → length (set_of R ys) ≡ length ys → set_of R ys ≡ ys
    sorted-set [] s l = refl
    sorted-set (y ∷ ys) s l =
        let most = at_most y (set_of R ys) in
        let few = no_longer ys in
        let same : set_of R ys ≡ ys = sorted-set ys (rest_sorted y ys s) (omega (arith, l, most, few)) in
        ap (with_item R y) same ∙ first_stays y ys s (ap (λ t. length (with_item R y t)) (sym same) ∙ l)

    -- sorted by the one order, a list is its set by the other
    pub sorted_is_set : (xs ys : List A) → AllPairs IsApart xs → IsPermutation xs ys → IsSorted R ys → ys ≡ set_of S xs
    sorted_is_set xs ys apart moved s =
        let one : set_of R xs ≡ set_of R ys = set_of-IsPermutation o xs ys moved in
        let many : length (set_of R ys) ≡ length ys = ap length (sym one) ∙ length-set_of xs apart ∙ sym (length_permutation xs ys moved) in
        sym (agree-set_of xs apart ∙ one ∙ sorted-set ys s many)

-- ---- where all items differ

module _ {A : Type 0} {cmp : A → A → Ordering} (o : IsExactOrder cmp) where
  -- with as many items as its list a set has none twice
  tied_first : (x y : A) (ys : List A) → cmp x y ≡ Equal → length (with_item cmp x (set_of cmp (y ∷ ys))) ≡ length (set_of cmp (y ∷ ys))
  tied_first x y ys e =
      ap length (item_again o x (set_of cmp (y ∷ ys)) (IsStrictlySortedBy-set_of o (y ∷ ys)) (has-set_of o x (y ∷ ys) ∙ ap (λ r. is_eq r || has cmp x ys) e))

  pub next_differs : (xs : List A) (k : ℕ) (d : A) → suc k < length xs → length (set_of cmp xs) ≡ length xs → is_eq (cmp (slice_index_or xs (suc k) d) (slice_index_or xs k d)) ≡ false
  next_differs [] k d lt l = absurd (omega arith)
  next_differs (x ∷ []) k d lt l = absurd (omega arith)
  next_differs (x ∷ y ∷ ys) zero d lt l =
      elim (cmp y x) as (λ r. cmp y x ≡ r → is_eq r ≡ false) [
        | Less ↦ λ e. refl
        | Equal ↦ λ e. absurd (omega (arith, l, tied_first x y ys (o.total.antisymm x y ∙ ap ordering_reverse e), no_longer cmp cmp (y ∷ ys)))
        | Greater ↦ λ e. refl
      ] refl
  next_differs (x ∷ y ∷ ys) (suc k) d lt l =
      next_differs (y ∷ ys) k d (omega arith) (omega (arith, l, at_most cmp cmp x (set_of cmp (y ∷ ys)), no_longer cmp cmp (y ∷ ys)))
