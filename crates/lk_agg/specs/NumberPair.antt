-- Pairs of which the key is a number and the value a number or null, and their order: that of the pairs they stand for.
use Rattle.std.proofs.Common.{◌≡◌, refl, sym, ap, ◌∙◌}
use Rattle.std.specs.Prelude.{Bool, ℤ, Option, Some, None}
use Rattle.std.specs.Cmp.{IsEquivalence, IsPartialEquivalence, IsPartialOrder, eq_by_cmp_equiv, partial_equiv_from_equiv, po}
use Rattle.std.specs.FinMap.{IsAntisymmetric}
use Rattle.std.specs.Ordering.{as_partial_cmp, is_eq}
use Rattle.std.specs.declared.cmp.Ordering.{Ordering}
use Rattle.std.proofs.lemmas.Cmp.{on_total}
use Rattle.lk_val.specs.Sets.{IsExactOrder}
use Rattle.lk_val.specs.declared.value.Value.{Value}
use Rattle.lk_val.specs.declared.value.Value.TheVariants.{Null, Num}
use Rattle.lk_types.specs.PairOrder.{pair_cmp, pairs_ordered}
use Rattle.lk_types.specs.declared.answer.Pair.{Pair}
use Rattle.lk_agg.specs.declared.number_pair.NumberPair.{NumberPair}

-- null for none
abbrev pub number_or_null : Option ℤ → Value
number_or_null None = Null
number_or_null (Some n) = Num (record { 0 = n })

-- the pair of key and value
abbrev pub pair_of_numbers : NumberPair → Pair
pair_of_numbers p = record { key = Num (record { 0 = p.key }); value = number_or_null p.value }

-- the key and the value as numbers, where they are numbers, but that the value may be null
abbrev pub numbers_of : Value → Value → Option NumberPair
numbers_of (Num key) (Num n) = Some (record { key = key.0; value = Some n.0 })
numbers_of (Num key) Null = Some (record { key = key.0; value = None })
numbers_of key v = None

-- by key, and then by value
abbrev pub number_pair_cmp : NumberPair → NumberPair → Ordering
number_pair_cmp a b = pair_cmp (pair_of_numbers a) (pair_of_numbers b)

abbrev pub is_same_number_pair : NumberPair → NumberPair → Bool
is_same_number_pair a b = is_eq (number_pair_cmp a b)

-- ---- the order is total, and only equal ones tie

abbrev pub count_in : Value → ℤ → ℤ
count_in (Num n) d = n.0
count_in v d = d

abbrev pub number_in : Value → Option ℤ
number_in (Num n) = Some n.0
number_in v = None

pub number_back : (n : Option ℤ) → number_in (number_or_null n) ≡ n
number_back None = refl
number_back (Some n) = refl

number_pair_cmp-exact : IsAntisymmetric number_pair_cmp
number_pair_cmp-exact a b e =
    let one : pair_of_numbers a ≡ pair_of_numbers b = pairs_ordered.exact (pair_of_numbers a) (pair_of_numbers b) e in
    let keys : a.key ≡ b.key = ap (λ (p : Pair). count_in p.key a.key) one in
    let values : a.value ≡ b.value = sym (number_back a.value) ∙ ap (λ (p : Pair). number_in p.value) one ∙ number_back b.value in
    λ i. record { key = keys i; value = values i }

pub number_pairs_ordered : IsExactOrder number_pair_cmp
number_pairs_ordered = record { total = on_total pair_of_numbers pairs_ordered.total; exact = number_pair_cmp-exact }

pub number_pairs_equivalent_all : IsEquivalence is_same_number_pair
number_pairs_equivalent_all = eq_by_cmp_equiv number_pairs_ordered.total

pub number_pairs_equivalent : IsPartialEquivalence is_same_number_pair
number_pairs_equivalent = partial_equiv_from_equiv number_pairs_equivalent_all

pub number_pairs_partial : IsPartialOrder is_same_number_pair (as_partial_cmp number_pair_cmp)
number_pairs_partial = po number_pairs_ordered.total (λ x y. refl)
