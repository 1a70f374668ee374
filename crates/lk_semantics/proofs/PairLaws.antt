-- The pairs of a measure: they depend on no order of the rows, and those of two lists of rows are those of both.
use Rattle.std.proofs.Common.{◌≡◌, ℕ, Bool, true, false, ◌&&◌, ◌||◌, List, [], ◌∷◌, ◌++◌, map, refl, sym, ap, ◌∙◌, length, one-add, arith}
use Rattle.std.specs.Prelude.{◌+◌, pos, ◌+ℤ◌, filter, IsPermutation, if◌then◌else◌}
use Rattle.std.specs.List.{list_any}
use Rattle.std.specs.Ordering.{eq_by_cmp, ordering_then}
use Rattle.std.specs.declared.cmp.Ordering.{Ordering}
use Rattle.std.specs.declared.cmp.Ordering.TheVariants.{Less, Equal, Greater}
use Rattle.std.specs.Cmp.{then_total}
use Rattle.std.specs.FinMap.{IsAntisymmetric}
use Rattle.std.proofs.lemmas.Cmp.{on_total}
use Rattle.std.proofs.lemmas.Int.{ints}
use Rattle.std.proofs.lemmas.List.{map-append}
use Rattle.std.proofs.lemmas.List.Elements.{filter-append}
use Rattle.std.proofs.lemmas.List.Folds.{list_any-append}
use Rattle.std.proofs.lemmas.List.Sorted.{list_any-IsPermutation, IsPermutation-map}
use Rattle.lk_val.specs.Sets.{set_of, has, IsExactOrder}
use Rattle.lk_val.specs.Values.{value_cmp, is_same_tuple}
use Rattle.lk_val.specs.declared.value.Value.{Value}
use Rattle.lk_val.proofs.SetLaws.{IsCommutative, IsTotal, set_of_same, total-set_of-append}
use Rattle.lk_val.specs.ValueOrder.{value_cmp-total, value_cmp-exact}
use Rattle.lk_types.specs.PairOrder.{pair_cmp, pairs_ordered}
use Rattle.lk_semantics.specs.Measures.{pair_of, has_key, Entry, entry_at, entries_of, pairs_of, total, amount}
use Rattle.lk_types.specs.declared.answer.Pair.{Pair}
use Rattle.lk_types.specs.declared.answer.GivenRow.{GivenRow}
use Rattle.lk_types.specs.declared.explore.Op.{Op}

-- ---- the pairs that entries give

abbrev pub given : Op → List Entry → List Pair
given op entries = filter has_key (map (pair_of op) entries)

pub given-append : (op : Op) (us vs : List Entry) → given op (us ++ vs) ≡ given op us ++ given op vs
given-append op us vs = ap (filter has_key) (map-append (pair_of op) us vs) ∙ filter-append has_key (map (pair_of op) us) (map (pair_of op) vs)

-- one more list of rows
pub entries_of-append : (i : ℕ) (group : List Value) (us vs : List GivenRow) → entries_of i (us ++ vs) group ≡ entries_of i us group ++ entries_of i vs group
entries_of-append i group us vs =
    ap (λ rows. filter (λ (e : Entry). e.1.counts) (map (entry_at i) rows)) (filter-append (λ row. is_same_tuple row.group group) us vs)
    ∙ ap (filter (λ (e : Entry). e.1.counts)) (map-append (entry_at i) (filter (λ row. is_same_tuple row.group group) us) (filter (λ row. is_same_tuple row.group group) vs))
    ∙ filter-append (λ (e : Entry). e.1.counts) (map (entry_at i) (filter (λ row. is_same_tuple row.group group) us)) (map (entry_at i) (filter (λ row. is_same_tuple row.group group) vs))

pub list_any-filter : {X : Type 0} (p test : X → Bool) (xs : List X) → list_any p (filter test xs) ≡ list_any (λ x. test x && p x) xs
list_any-filter p test [] = refl
list_any-filter p test (x ∷ xs) = elim (test x) as (λ b. list_any p (if b then x ∷ filter test xs else filter test xs) ≡ ((b && p x) || list_any (λ y. test y && p y) xs)) [ true ↦ ap (λ b. p x || b) (list_any-filter p test xs) | false ↦ list_any-filter p test xs ]

-- the order of the rows does not matter
pub pairs_of-IsPermutation : (op : Op) (us vs : List Entry) → IsPermutation us vs → pairs_of op us ≡ pairs_of op vs
pairs_of-IsPermutation op us vs perm =
    set_of_same pairs_ordered (given op us) (given op vs) (λ q.
    list_any-filter (eq_by_cmp pair_cmp q) has_key (map (pair_of op) us)
    ∙ list_any-IsPermutation (λ p. has_key p && eq_by_cmp pair_cmp q p) (map (pair_of op) us) (map (pair_of op) vs) (IsPermutation-map (pair_of op) us vs perm)
    ∙ sym (list_any-filter (eq_by_cmp pair_cmp q) has_key (map (pair_of op) vs)))

-- ---- totals

pub int_add : IsCommutative ◌+ℤ◌ (pos 0)
int_add = record { assoc = λ a b c. omega (arith, ints); comm = λ a b. omega (arith, ints); left_unit = λ a. omega (arith, ints) }

pub total_is : IsTotal ◌+ℤ◌ (pos 0) (λ p. amount p.value) total
total_is = record { none = refl; one_more = λ p ps. refl }

pub nat_add : IsCommutative ◌+◌ 0
nat_add = record { assoc = λ a b c. omega arith; comm = λ a b. omega arith; left_unit = λ a. omega arith }

pub length_is : IsTotal {A = Pair} ◌+◌ 0 (λ p. 1) length
length_is = record { none = refl; one_more = λ p ps. sym (one-add (length ps)) }

-- no key and value that the rows of both lists give
abbrev pub AreApart : Op → List Entry → List Entry → Type 0
AreApart op us vs = (q : Pair) → (has pair_cmp q (given op us) && has pair_cmp q (given op vs)) ≡ false

-- the total over the pairs of both lists is the sum of the totals
pub total-pairs_of-append : (op : Op) (us vs : List Entry) → AreApart op us vs → total (pairs_of op (us ++ vs)) ≡ total (pairs_of op us) +ℤ total (pairs_of op vs)
total-pairs_of-append op us vs apart = ap (λ ps. total (set_of pair_cmp ps)) (given-append op us vs) ∙ total-set_of-append pairs_ordered int_add total_is (given op us) (given op vs) apart

-- and the number of pairs is the sum of the numbers
pub length-pairs_of-append : (op : Op) (us vs : List Entry) → AreApart op us vs → length (pairs_of op (us ++ vs)) ≡ length (pairs_of op us) + length (pairs_of op vs)
length-pairs_of-append op us vs apart = ap (λ ps. length (set_of pair_cmp ps)) (given-append op us vs) ∙ total-set_of-append pairs_ordered nat_add length_is (given op us) (given op vs) apart

again : (a b : Bool) → (a || (b || a)) ≡ (a || b)
again true b = refl
again false true = refl
again false false = refl

-- rows that come again give no further pair
pub pairs_of-again : (op : Op) (us vs : List Entry) → pairs_of op (us ++ (vs ++ us)) ≡ pairs_of op (us ++ vs)
pairs_of-again op us vs =
    set_of_same pairs_ordered (given op (us ++ (vs ++ us))) (given op (us ++ vs)) (λ q.
    ap (has pair_cmp q) (given-append op us (vs ++ us) ∙ ap (λ ps. given op us ++ ps) (given-append op vs us))
    ∙ list_any-append (eq_by_cmp pair_cmp q) (given op us) (given op vs ++ given op us)
    ∙ ap (λ b. has pair_cmp q (given op us) || b) (list_any-append (eq_by_cmp pair_cmp q) (given op vs) (given op us))
    ∙ again (has pair_cmp q (given op us)) (has pair_cmp q (given op vs))
    ∙ sym (list_any-append (eq_by_cmp pair_cmp q) (given op us) (given op vs))
    ∙ ap (has pair_cmp q) (sym (given-append op us vs)))
