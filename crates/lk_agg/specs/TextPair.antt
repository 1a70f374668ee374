-- Pairs of which the key is a text and the value a number or null, and their order: that of the pairs they stand for.
use Rattle.std.proofs.Common.{◌≡◌, refl, sym, ap, ◌∙◌}
use Rattle.std.specs.Prelude.{ℕ, Bool, List, Option, Some, None}
use Rattle.std.specs.Cmp.{IsEquivalence, IsPartialEquivalence, IsPartialOrder, eq_by_cmp_equiv, partial_equiv_from_equiv, po}
use Rattle.std.specs.FinMap.{IsAntisymmetric}
use Rattle.std.specs.Ordering.{as_partial_cmp, is_eq}
use Rattle.std.specs.declared.cmp.Ordering.{Ordering}
use Rattle.std.proofs.lemmas.Cmp.{on_total}
use Rattle.lk_val.specs.Sets.{IsExactOrder}
use Rattle.lk_val.specs.declared.value.Value.{Value}
use Rattle.lk_val.specs.declared.value.Value.TheVariants.{Null, Num, Text}
use Rattle.lk_types.specs.PairOrder.{pair_cmp, pairs_ordered}
use Rattle.lk_types.specs.declared.answer.Pair.{Pair}
use Rattle.lk_agg.specs.NumberPair.{number_or_null, number_in, number_back}
use Rattle.lk_agg.specs.declared.text_pair.LentTextPair.{LentTextPair}
use Rattle.lk_agg.specs.declared.text_pair.TextPair.{TextPair}

-- what is lent, as a pair of its own
abbrev pub text_pair_lent : LentTextPair → TextPair
text_pair_lent p = record { key = p.key.now; value = p.value }

-- the pair of key and value
abbrev pub pair_of_text : TextPair → Pair
pair_of_text p = record { key = Text p.key; value = number_or_null p.value }

-- the key as a text and the value as a number, where they are such, but that the value may be null
abbrev pub text_pair_of : Value → Value → Option TextPair
text_pair_of (Text key) (Num n) = Some (record { key = key; value = Some n.0 })
text_pair_of (Text key) Null = Some (record { key = key; value = None })
text_pair_of key v = None

-- by key, and then by value
abbrev pub text_pair_cmp : TextPair → TextPair → Ordering
text_pair_cmp a b = pair_cmp (pair_of_text a) (pair_of_text b)

abbrev pub is_same_text_pair : TextPair → TextPair → Bool
is_same_text_pair a b = is_eq (text_pair_cmp a b)

-- ---- the order is total, and only equal ones tie

abbrev pub text_in : Value → List ℕ → List ℕ
text_in (Text t) d = t
text_in v d = d

text_pair_cmp-exact : IsAntisymmetric text_pair_cmp
text_pair_cmp-exact a b e =
    let one : pair_of_text a ≡ pair_of_text b = pairs_ordered.exact (pair_of_text a) (pair_of_text b) e in
    let keys : a.key ≡ b.key = ap (λ (p : Pair). text_in p.key a.key) one in
    let values : a.value ≡ b.value = sym (number_back a.value) ∙ ap (λ (p : Pair). number_in p.value) one ∙ number_back b.value in
    λ i. record { key = keys i; value = values i }

pub text_pairs_ordered : IsExactOrder text_pair_cmp
text_pairs_ordered = record { total = on_total pair_of_text pairs_ordered.total; exact = text_pair_cmp-exact }

pub text_pairs_equivalent_all : IsEquivalence is_same_text_pair
text_pairs_equivalent_all = eq_by_cmp_equiv text_pairs_ordered.total

pub text_pairs_equivalent : IsPartialEquivalence is_same_text_pair
text_pairs_equivalent = partial_equiv_from_equiv text_pairs_equivalent_all

pub text_pairs_partial : IsPartialOrder is_same_text_pair (as_partial_cmp text_pair_cmp)
text_pairs_partial = po text_pairs_ordered.total (λ x y. refl)
