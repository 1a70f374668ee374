-- Pairs that are kept as numbers, and as texts with numbers.
use Rattle.std.proofs.Common.{◌≡◌, List, [], ◌∷◌, map, refl, sym, ap, subst}
use Rattle.std.specs.Prelude.{Some}
use Rattle.std.specs.Ordering.{match_ordering, on}
use Rattle.std.specs.declared.cmp.Ordering.TheVariants.{Less, Equal, Greater}
use Rattle.lk_val.specs.Sets.{IsExactOrder, set_of, with_item}
use Rattle.lk_val.specs.ValueOrder.{derived, values_ordered}
use Rattle.lk_val.specs.contracts.value.ValueOrd.TheImpl.{cmp-value}
use Rattle.lk_val.specs.declared.value.Value.{Value}
use Rattle.lk_val.specs.declared.value.Value.TheVariants.{Null, Num, Text}
use Rattle.lk_val.proofs.SetLaws.{set_of-map}
use Rattle.lk_types.specs.PairOrder.{pair_cmp}
use Rattle.lk_types.specs.declared.answer.Pair.{Pair}
use Rattle.lk_agg.specs.NumberPair.{number_pair_cmp, numbers_of, pair_of_numbers}
use Rattle.lk_agg.specs.TextPair.{pair_of_text, text_pair_cmp, text_pair_of}
use Rattle.lk_agg.specs.declared.number_pair.NumberPair.{NumberPair}
use Rattle.lk_agg.specs.declared.text_pair.TextPair.{TextPair}

-- the order that the derived comparison of values computes is exact
pub values_exact : IsExactOrder cmp-value.it
values_exact = subst (λ cmp. IsExactOrder cmp) (λ i x y. sym (derived x y) i) values_ordered

-- one more item is one more pair, where items are ordered as the pairs that they stand for
with_one : {A : Type 0} (f : A → Pair) (p : A) (ps : List A) → map f (with_item (on f pair_cmp) p ps) ≡ with_item pair_cmp (f p) (map f ps)
with_one f p [] = refl
with_one f p (q ∷ qs) =
    elim (pair_cmp (f p) (f q)) as (λ r. map f (match_ordering r (p ∷ q ∷ qs) (q ∷ qs) (q ∷ with_item (on f pair_cmp) p qs)) ≡ match_ordering r (f p ∷ f q ∷ map f qs) (f q ∷ map f qs) (f q ∷ with_item pair_cmp (f p) (map f qs))) [
      | Less ↦ refl
      | Equal ↦ refl
      | Greater ↦ ap (λ rest. f q ∷ rest) (with_one f p qs)
    ]

-- so it is with pairs of numbers
pub with_numbers : (p : NumberPair) (ps : List NumberPair) → map pair_of_numbers (with_item number_pair_cmp p ps) ≡ with_item pair_cmp (pair_of_numbers p) (map pair_of_numbers ps)
with_numbers p ps = with_one pair_of_numbers p ps

-- and with those of a text
pub with_text : (p : TextPair) (ps : List TextPair) → map pair_of_text (with_item text_pair_cmp p ps) ≡ with_item pair_cmp (pair_of_text p) (map pair_of_text ps)
with_text p ps = with_one pair_of_text p ps

-- the set of the pairs that stand for numbers
pub set_of_numbers : (ps : List NumberPair) → set_of pair_cmp (map pair_of_numbers ps) ≡ map pair_of_numbers (set_of number_pair_cmp ps)
set_of_numbers ps = set_of-map pair_cmp pair_of_numbers ps

-- and of those with texts
pub set_of_texts : (ps : List TextPair) → set_of pair_cmp (map pair_of_text ps) ≡ map pair_of_text (set_of text_pair_cmp ps)
set_of_texts ps = set_of-map pair_cmp pair_of_text ps

-- numbers stand for the key and the value that they were read from
pub numbers_are : (key v : Value) (p : NumberPair) → Some p ≡ numbers_of key v → pair_of_numbers p ≡ record { key = key; value = v }
numbers_are (Num k) (Num n) p e = cc e
numbers_are (Num k) Null p e = cc e
numbers_are key v p e = cc e

-- so does a text with a number or null
pub text_is : (key v : Value) (p : TextPair) → Some p ≡ text_pair_of key v → pair_of_text p ≡ record { key = key; value = v }
text_is (Text t) (Num n) p e = cc e
text_is (Text t) Null p e = cc e
text_is key v p e = cc e
