-- Rows in the order of their keys: a search finds a key, and those that stand twice stand beside each other.
use Rattle.std.proofs.Common.{◌≡◌, ◌<◌, ◌≤◌, ◌+◌, ◌-◌, ◌++◌, ◌∷◌, ◌==◌, [], ℕ, zero, suc, Bool, true, false, List, length, map, take, refl, sym, ap, arith, ◌∙◌, subst, get_or, cond, nat_lt, IsPermutation, Ok, Err, Result, ⊎_elim}
use Rattle.std.specs.List.{range_with_len}
use Rattle.std.specs.List.Sorted.{IsBinarySearchResult, IsNonDecreasingBy}
use Rattle.std.specs.Cmp.{tied_itself}
use Rattle.std.specs.Ordering.{is_eq, is_lt, ordering_index, ordering_reverse}
use Rattle.std.specs.declared.cmp.Ordering.{Ordering}
use Rattle.std.specs.declared.cmp.Ordering.TheVariants.{Less, Equal, Greater}
use Rattle.std.specs.Prelude.{◌||◌}
use Rattle.std.proofs.lemmas.Bool.{cases_lt, false≢true}
use Rattle.std.proofs.lemmas.List.{get_or-map, get_or-take, length-map, length-take-le, take_more}
use Rattle.std.proofs.lemmas.List.FromFn.{fill_by_all}
use Rattle.std.proofs.lemmas.List.Sorted.{IsNonDecreasingBy-from_all_adjacent, IsPermutation-map, list_any-IsPermutation, sum_by-IsPermutation}
use Rattle.lk_val.specs.Sets.{has}
use Rattle.lk_val.specs.Values.{is_same, value_cmp}
use Rattle.lk_val.specs.ValueOrder.{values_ordered}
use Rattle.lk_val.specs.declared.value.Value.{Value}
use Rattle.lk_val.specs.declared.value.Value.TheVariants as value
use Rattle.lk_types.specs.Tables.{Rows}
use Rattle.lk_table.specs.Contents.{cell_at, keys_at}
use Rattle.lk_table.specs.KeySets.{HasRepeated, IsKeyOrder, row_key}
use Rattle.lk_table.specs.Loads.{is_repeated}

-- ---- three values

reversed_less : (o : Ordering) → o ≡ Greater → ordering_reverse o ≡ Less
reversed_less o e = ap ordering_reverse e

from_less : (x y : Value) → value_cmp x y ≡ Less → value_cmp y x ≡ Greater
from_less x y e = values_ordered.total.antisymm y x ∙ ap ordering_reverse e

from_greater : (x y : Value) → value_cmp x y ≡ Greater → value_cmp y x ≡ Less
from_greater x y e = values_ordered.total.antisymm y x ∙ ap ordering_reverse e

-- where y is not below x, it is not nearer below k
rising : (x y k : Value) → is_lt (value_cmp y x) ≡ false → ordering_index (value_cmp x k) ≤ ordering_index (value_cmp y k)
rising x y k above = by (value_cmp x k) (value_cmp y x) refl refl
  where
    by : (o p : Ordering) → value_cmp x k ≡ o → value_cmp y x ≡ p → ordering_index (value_cmp x k) ≤ ordering_index (value_cmp y k)
    by Less p e f = omega (arith, ap ordering_index e)
    by o Less e f = absurd (false≢true (sym above ∙ ap is_lt f))
    by o Equal e f =
        let same = ap ordering_index (values_ordered.total.congr y x k f) in
        omega (arith, same)
    by Equal Greater e f =
        let same : x ≡ k = values_ordered.exact x k e in
        omega (arith, ap ordering_index e, ap (λ (v : Value). ordering_index (value_cmp y v)) (sym same), ap ordering_index f)
    by Greater Greater e f =
        let below = values_ordered.total.trans k x y (from_greater x k e) (from_greater y x f) in
        omega (arith, ap ordering_index e, ap ordering_index (from_less k y below))

index_equal : (o : Ordering) → ordering_index o ≡ 1 → o ≡ Equal
index_equal Less e = absurd (omega (arith, e))
index_equal Equal e = refl
index_equal Greater e = absurd (omega (arith, e))

-- ---- a list of values

found_there : (k : Value) (values : List Value) (i : ℕ) (d : Value) → i < length values → value_cmp (get_or values i d) k ≡ Equal → has value_cmp k values ≡ true
found_there k [] i d within e = absurd (omega (arith, within))
found_there k (v ∷ values) zero d within e =
    ap (λ o. is_eq o || has value_cmp k values) (values_ordered.total.antisymm k v ∙ ap ordering_reverse e)
found_there k (v ∷ values) (suc i) d within e =
    ap (λ b. is_same k v || b) (found_there k values i d (omega (arith, within)) e) ∙ or_true (is_same k v)
  where
    or_true : (b : Bool) → (b || true) ≡ true
    or_true true = refl
    or_true false = refl

unlike : (k v : Value) (o : Ordering) → value_cmp v k ≡ o → is_eq o ≡ false → is_same k v ≡ false
unlike k v Less e f = ap is_eq (from_less v k e)
unlike k v Equal e f = absurd (false≢true (sym f))
unlike k v Greater e f = ap is_eq (from_greater v k e)

not_found : (k : Value) (values : List Value) (d : Value) → ((i : ℕ) → i < length values → is_eq (value_cmp (get_or values i d) k) ≡ false) → has value_cmp k values ≡ false
not_found k [] d none = refl
not_found k (v ∷ values) d none =
    rw (unlike k v (value_cmp v k) refl (none 0 (omega arith))) (not_found k values d (λ i below. none (suc i) (omega (arith, below))))

-- ---- rows in order

-- given: rows, and their numbers in the order of their keys
module _ (column : ℕ) (rows : Rows) (order : List ℕ) (ordered : IsKeyOrder column rows order) where
  abbrev key_there : ℕ → Value
  key_there = row_key column rows

  abbrev keys : List Value
  keys = map key_there order

  rows_keys : keys_at column rows ≡ map key_there (range_with_len 0 (length rows))
  rows_keys =
      fill_by_all key_there (keys_at column rows) (length rows) value.Null (length-map rows (λ row. cell_at row column))
      (λ k below. get_or-map (λ row. cell_at row column) rows k [] value.Null below)

  shuffled : IsPermutation (keys_at column rows) keys
  shuffled =
      subst (λ (all : List Value). IsPermutation all keys) (sym rows_keys)
      (IsPermutation-map key_there (range_with_len 0 (length rows)) order ordered.whole)

  has_same : (k : Value) → has value_cmp k (keys_at column rows) ≡ has value_cmp k keys
  has_same k = list_any-IsPermutation (is_same k) (keys_at column rows) keys shuffled

  pub repeated_same : (again : List Value) → HasRepeated again keys → HasRepeated again (keys_at column rows)
  repeated_same again repeated k =
      repeated k ∙ ap (nat_lt 1) (sum_by-IsPermutation (λ (v : Value). cond (is_same k v) 1 0) (keys_at column rows) keys shuffled)

  -- how a key compares with those of the rows rises
  pub rises : (k : Value) → IsNonDecreasingBy (λ row. ordering_index (value_cmp (key_there row) k)) order
  rises k =
      IsNonDecreasingBy-from_all_adjacent (λ row. ordering_index (value_cmp (key_there row) k)) order
      (λ i d below. rising (key_there (get_or order i d)) (key_there (get_or order (i + 1) d)) k (ordered.ascends i d (omega arith) below))

  -- what a search for a key says
  pub searched_key : (k : Value) (found : Result ℕ ℕ) (i : ℕ) → found ≡ Ok i → i < length order
      → IsBinarySearchResult (λ row. value_cmp (key_there row) k) order found → has value_cmp k (keys_at column rows) ≡ true
  searched_key k found i is within result =
      has_same k
      ∙ found_there k keys i value.Null (omega (arith, within, length-map order key_there))
      (ap (λ (v : Value). value_cmp v k) (get_or-map key_there order i 0 value.Null within)
      ∙ (rw is at result) 0)

  pub searched_none : (k : Value) (found : Result ℕ ℕ) (i : ℕ) → found ≡ Err i
      → IsBinarySearchResult (λ row. value_cmp (key_there row) k) order found → has value_cmp k (keys_at column rows) ≡ false
  searched_none k found i is result =
      let parts = (rw is at result) (rises k) in
      has_same k ∙ not_found k keys value.Null (λ j below. none parts.0 parts.1 j (omega (arith, below, length-map order key_there)))
    where
      none : ((j : ℕ) (d : ℕ) → 0 ≤ j → j < i → value_cmp (key_there (get_or order j d)) k ≡ Less)
          → ((j : ℕ) (d : ℕ) → i ≤ j → j < length order → value_cmp (key_there (get_or order j d)) k ≡ Greater)
          → (j : ℕ) → j < length order → is_eq (value_cmp (get_or keys j value.Null) k) ≡ false
      none low high j below =
          ap (λ (v : Value). is_eq (value_cmp v k)) (get_or-map key_there order j 0 value.Null below)
          ∙ ⊎_elim (λ under. ap is_eq (low j 0 (omega arith) under)) (λ over. ap is_eq (high j 0 over below)) (cases_lt j i)

  -- a key and those of the rows before it
  module _ (i : ℕ) (some : 0 < i) (within : i < length order) where
    abbrev this : Value
    this = key_there (get_or order i 0)

    abbrev last : Value
    last = key_there (get_or order (i - 1) 0)

    before_long : length (take i keys) ≡ i
    before_long = length-take-le i keys (omega (arith, within, length-map order key_there))

    before_at : (j : ℕ) → j < i → get_or (take i keys) j value.Null ≡ key_there (get_or order j 0)
    before_at j below =
        get_or-take i keys j value.Null below
        ∙ get_or-map key_there order j 0 value.Null (omega (arith, within, below))

    pub stood_there : value_cmp last this ≡ Equal → has value_cmp this (take i keys) ≡ true
    stood_there same =
        found_there this (take i keys) (i - 1) value.Null (omega (arith, some, before_long))
        (ap (λ (v : Value). value_cmp v this) (before_at (i - 1) (omega (arith, some))) ∙ same)

    apart : (j : ℕ) (o : Ordering) → value_cmp last this ≡ o → is_eq o ≡ false → j < i → is_eq (value_cmp (key_there (get_or order j 0)) this) ≡ false
    apart j o e unequal below =
        by (value_cmp (key_there (get_or order j 0)) this) refl
      where
        self : ordering_index (value_cmp this this) ≡ 1
        self = ap ordering_index (tied_itself values_ordered.total this)

        low : (o : Ordering) → value_cmp last this ≡ o → is_eq o ≡ false → ordering_index (value_cmp last this) ≡ 0
        low Less e f = ap ordering_index e
        low Equal e f = absurd (false≢true (sym f))
        low Greater e f = absurd (omega (arith, ap ordering_index e, self, rises this (i - 1) i 0 (omega arith) within))

        by : (p : Ordering) → value_cmp (key_there (get_or order j 0)) this ≡ p → is_eq (value_cmp (key_there (get_or order j 0)) this) ≡ false
        by Less p = ap is_eq p
        by Equal p = absurd (omega (arith, ap ordering_index p, low o e unequal, rises this j (i - 1) 0 (omega (arith, below)) (omega (arith, within, some))))
        by Greater p = ap is_eq p

    pub new_there : is_eq (value_cmp last this) ≡ false → has value_cmp this (take i keys) ≡ false
    new_there unequal =
        not_found this (take i keys) value.Null
        (λ j below.
        let inside : j < i = omega (arith, below, before_long) in
        ap (λ (v : Value). is_eq (value_cmp v this)) (before_at j inside) ∙ apart j (value_cmp last this) refl unequal inside)

    pub keys_more : take (i + 1) keys ≡ take i keys ++ this ∷ []
    keys_more =
        take_more keys i value.Null (omega (arith, within, length-map order key_there))
        ∙ ap (λ (v : Value). take i keys ++ v ∷ []) (get_or-map key_there order i 0 value.Null within)

-- ---- the numbers of rows

counted : (from n next : ℕ) → from + n ≡ next → range_with_len from (suc n) ≡ range_with_len from n ++ next ∷ []
counted from zero next e = ap (λ row. row ∷ []) (omega (arith, e))
counted from (suc n) next e = ap (λ rows. from ∷ rows) (counted (from + 1) n next (omega (arith, e)))

pub one_more_row : (n : ℕ) → range_with_len 0 (n + 1) ≡ range_with_len 0 n ++ n ∷ []
one_more_row n = let next : n + 1 ≡ suc n = omega arith in ap (range_with_len 0) next ∙ counted 0 n n (omega arith)

-- ---- equal keys

pub equal_by : (o : Ordering) → (ordering_index o == 1) ≡ true → o ≡ Equal
equal_by Less e = absurd (false≢true e)
equal_by Equal e = refl
equal_by Greater e = absurd (false≢true e)

pub unequal_by : (o : Ordering) → (ordering_index o == 1) ≡ false → is_eq o ≡ false
unequal_by Less e = refl
unequal_by Equal e = absurd (false≢true (sym e))
unequal_by Greater e = refl

-- one key does not stand twice
pub one_alone : (k : Value) (values : List Value) → false ≡ is_repeated (take 1 values) k
one_alone k [] = refl
one_alone k (v ∷ values) = by (is_same k v) refl
  where
    by : (t : Bool) → is_same k v ≡ t → false ≡ is_repeated (take 1 (v ∷ values)) k
    by true e = rw e refl
    by false e = rw e refl
