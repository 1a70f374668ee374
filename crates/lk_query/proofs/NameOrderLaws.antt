-- What a search among items that stand by their names finds: the first of a name.
use Rattle.std.proofs.Common.{◌≡◌, ◌∙◌, ℕ, ◌<◌, ◌≤◌, Bool, true, false, cond, not, List, [], ◌∷◌, length, Ordering, true≢false, refl, sym, ap, arith}
use Rattle.std.specs.Prelude.{Some, None, position, nat_lt, nat_le}
use Rattle.std.specs.Ordering.{nat_cmp, is_lt, is_eq, ordering_index, ordering_reverse}
use Rattle.std.specs.declared.cmp.Ordering.TheVariants.{Less, Equal, Greater}
use Rattle.std.specs.Cmp.Lexicographic.{slice_cmp, texts_ties, nat_list_cmp_total}
use Rattle.std.specs.List.{AllAdjacentBelow, position_or_len, slice_index_or}
use Rattle.std.specs.List.Sorted.{IsPartitionPoint, IsPartitionedBy}
use Rattle.std.proofs.lemmas.Bool.Decides.{nat_tests}
use Rattle.std.proofs.lemmas.List.{get_or_default}
use Rattle.std.proofs.lemmas.List.Sorted.{searchable_from_sorted}
use Rattle.std.proofs.lemmas.List.Sums.{prefix_len_is}
use Rattle.lk_val.specs.Texts.{is_same_text}
use Rattle.lk_query.specs.NameOrder.{is_before}

-- ---- the first that passes a test, by its place

lt_of_test : (i n : ℕ) → nat_lt i n ≡ true → i < n
lt_of_test i n h = grind (arith, nat_tests)

le_of_no_test : (i n : ℕ) → nat_lt i n ≡ false → n ≤ i
le_of_no_test i n h = grind (arith, nat_tests)

at_place : (n i : ℕ) → i < n → cond (nat_lt i n) (Some i) None ≡ Some i
at_place n i within =
    let is : nat_lt i n ≡ true = grind (arith, nat_tests) in
    ap (λ b. cond b (Some i) None) is

at_end : (n : ℕ) → cond (nat_lt n n) (Some n) None ≡ None
at_end n =
    let is : nat_lt n n ≡ false = grind (arith, nat_tests) in
    ap (λ b. cond b (Some n) None) is

module _ {A : Type 0} (p : A → Bool) where
  pub first_at : (xs : List A) (i : ℕ) (d : A) → i < length xs → ((k : ℕ) → k < i → p (slice_index_or xs k d) ≡ false) → p (slice_index_or xs i d) ≡ true → position p xs ≡ Some i
  first_at xs i d within before at =
      ap (λ n. cond (nat_lt n (length xs)) (Some n) None) (prefix_len_is (λ x. not (p x)) xs i d (omega (arith, within)) (λ k l. ap not (before k l)) (λ l. ap not at))
      ∙ at_place (length xs) i within

  none_passes : (xs : List A) → ((k : ℕ) (d : A) → k < length xs → p (slice_index_or xs k d) ≡ false) → position_or_len p xs ≡ length xs
  none_passes [] none = refl
  none_passes (x ∷ xs) none = prefix_len_is (λ y. not (p y)) (x ∷ xs) (length (x ∷ xs)) x (omega arith) (λ k l. ap not (none k x l)) (λ l. absurd (omega (arith, l)))

  pub nowhere : (xs : List A) → ((k : ℕ) (d : A) → k < length xs → p (slice_index_or xs k d) ≡ false) → position p xs ≡ None
  nowhere xs none = ap (λ n. cond (nat_lt n (length xs)) (Some n) None) (none_passes xs none) ∙ at_end (length xs)

-- ---- how items compare with a name

lower : (r s : Ordering) → ordering_index r ≤ ordering_index s → is_lt s ≡ true → is_lt r ≡ true
lower Less s l h = refl
lower Equal Less l h = absurd (omega (arith, l))
lower Equal Equal l h = h
lower Equal Greater l h = h
lower Greater Less l h = absurd (omega (arith, l))
lower Greater Equal l h = h
lower Greater Greater l h = h

below_differs : (r : Ordering) → is_lt r ≡ true → is_eq r ≡ false
below_differs Less h = refl
below_differs Equal h = sym h
below_differs Greater h = refl

above_differs : (r s : Ordering) → is_lt r ≡ false → is_eq r ≡ false → ordering_index r ≤ ordering_index s → is_eq s ≡ false
above_differs Less s h e l = absurd (true≢false h)
above_differs Equal s h e l = absurd (true≢false e)
above_differs Greater Less h e l = refl
above_differs Greater Equal h e l = absurd (omega (arith, l))
above_differs Greater Greater h e l = refl

turned : (r : Ordering) → is_eq (ordering_reverse r) ≡ is_eq r
turned Less = refl
turned Equal = refl
turned Greater = refl

same_is : (name other : List ℕ) → is_same_text name other ≡ is_eq (slice_cmp nat_cmp other name)
same_is name other = texts_ties name other ∙ ap is_eq (nat_list_cmp_total.antisymm name other) ∙ turned (slice_cmp nat_cmp other name)

-- ---- a search

module _ {A : Type 0} (name_of : A → List ℕ) (items : List A) (name : List ℕ)
    (ascend : AllAdjacentBelow (λ a b. is_before (name_of b) (name_of a) ≡ false) items (length items)) where
  rises : (i j : ℕ) (d : A) → i ≤ j → j < length items → ordering_index (slice_cmp nat_cmp (name_of (slice_index_or items i d)) name) ≤ ordering_index (slice_cmp nat_cmp (name_of (slice_index_or items j d)) name)
  rises = searchable_from_sorted nat_list_cmp_total name_of items name (λ k d _ l. ascend k d l)

  -- those before the name are in front of all others
  pub partitioned : IsPartitionedBy (λ a. is_before (name_of a) name) items
  partitioned i j d m l h = lower _ _ (rises i j d m l) h

  module _ (place : ℕ) (point : IsPartitionPoint (λ a. is_before (name_of a) name ≡ true) (λ a. is_before (name_of a) name ≡ false) items place) where
    -- an item of the name where the others begin is the first of the name
    pub found_first : (d : A) → place < length items → is_same_text name (name_of (slice_index_or items place d)) ≡ true → position (λ a. is_same_text name (name_of a)) items ≡ Some place
    found_first d within same = first_at (λ a. is_same_text name (name_of a)) items place d within
        (λ k l. same_is name _ ∙ below_differs _ (point.0 k d (omega arith) l)) same

    -- and if another stands there, or none, then the name has none
    pub found_none : ((d : A) → place < length items → is_same_text name (name_of (slice_index_or items place d)) ≡ false) → position (λ a. is_same_text name (name_of a)) items ≡ None
    found_none other = nowhere (λ a. is_same_text name (name_of a)) items (λ k d l. same_is name _ ∙ differs k d l) where
      behind : (k : ℕ) (d : A) → place ≤ k → k < length items → is_eq (slice_cmp nat_cmp (name_of (slice_index_or items k d)) name) ≡ false
      behind k d m l =
          let within : place < length items = omega (arith, m, l) in
          above_differs (slice_cmp nat_cmp (name_of (slice_index_or items place d)) name) _ (point.1 place d (omega arith) within) (sym (same_is name _) ∙ other d within) (rises place k d m l)

      differs : (k : ℕ) (d : A) → k < length items → is_eq (slice_cmp nat_cmp (name_of (slice_index_or items k d)) name) ≡ false
      differs k d l = split (nat_le place k) refl where
        split : (b : Bool) → b ≡ nat_le place k → is_eq (slice_cmp nat_cmp (name_of (slice_index_or items k d)) name) ≡ false
        split true e = behind k d (grind (arith, nat_tests)) l
        split false e = below_differs _ (point.0 k d (omega arith) (grind (arith, nat_tests)))

    -- the same as a search tells it: an item of the name stands there, another one, or none
    pub found : (item : A) → true ≡ nat_lt place (length items) → item ≡ slice_index_or items place item → is_same_text name (name_of item) ≡ true → Some place ≡ position (λ a. is_same_text name (name_of a)) items
    found item within is same = sym (found_first item (lt_of_test place (length items) (sym within)) (ap (λ a. is_same_text name (name_of a)) (sym is) ∙ same))

    pub other : (item : A) → item ≡ slice_index_or items place item → is_same_text name (name_of item) ≡ false → None ≡ position (λ a. is_same_text name (name_of a)) items
    other item is differs = sym (found_none (λ d within. ap (λ a. is_same_text name (name_of a)) (get_or_default items place d item within ∙ sym is) ∙ differs))

    pub past : false ≡ nat_lt place (length items) → None ≡ position (λ a. is_same_text name (name_of a)) items
    past beyond = sym (found_none (λ d within. absurd (omega (arith, within, le_of_no_test place (length items) (sym beyond)))))
