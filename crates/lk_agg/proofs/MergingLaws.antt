-- The parts of two lists of rows together.
use Rattle.std.proofs.Common.{◌≡◌, ◌+◌, true, false, List, [], ◌∷◌, ◌++◌, length, refl, sym, ap, ◌∙◌}
use Rattle.std.specs.Prelude.{◌&&◌, ◌+ℤ◌}
use Rattle.std.proofs.lemmas.List.{map-append}
use Rattle.lk_val.specs.Sets.{set_of, has}
use Rattle.lk_val.specs.declared.value.Value.{Value}
use Rattle.lk_val.specs.declared.value.Value.TheVariants as value
use Rattle.lk_val.proofs.SetLaws.{has-set_of, total-set_of-append, first_of-assoc}
use Rattle.lk_val.proofs.ValueLaws.{null_last_ordered, values_turned}
use Rattle.lk_types.specs.PairOrder.{pair_cmp, pairs_ordered}
use Rattle.lk_types.specs.declared.answer.Pair.{Pair}
use Rattle.lk_types.specs.declared.explore.Op.{Op}
use Rattle.lk_types.specs.declared.explore.Op.TheVariants as op
use Rattle.lk_semantics.specs.Measures.{Entry, pairs_of, total, known_count, lesser, greater, least_of, greatest_of, values_of_entries, uses_key}
use Rattle.lk_semantics.specs.Rollups.{no_partial, partial_of, merged}
use Rattle.lk_semantics.proofs.PairLaws.{given, given-append, nat_add, total-pairs_of-append, length-pairs_of-append}
use Rattle.lk_agg.specs.Merging.{AreApart, without_distinct}
use Rattle.lk_agg.proofs.PlacedLaws.{known_is}

module _ (o : Op) (us vs : List Entry) (apart : AreApart o us vs) where
  -- the entries give no common pair
  given_apart : (q : Pair) → (has pair_cmp q (given o us) && has pair_cmp q (given o vs)) ≡ false
  given_apart q = (λ i. sym (has-set_of pairs_ordered q (given o us)) i && sym (has-set_of pairs_ordered q (given o vs)) i) ∙ apart q

  pub total-append : total (pairs_of o us) +ℤ total (pairs_of o vs) ≡ total (pairs_of o (us ++ vs))
  total-append = sym (total-pairs_of-append o us vs given_apart)

  pub length-append : length (pairs_of o us) + length (pairs_of o vs) ≡ length (pairs_of o (us ++ vs))
  length-append = sym (length-pairs_of-append o us vs given_apart)

  pub known-append : known_count (pairs_of o us) + known_count (pairs_of o vs) ≡ known_count (pairs_of o (us ++ vs))
  known-append =
      sym (ap (λ ps. known_count (set_of pair_cmp ps)) (given-append o us vs)
      ∙ total-set_of-append pairs_ordered nat_add known_is (given o us) (given o vs) given_apart)

-- null is neither the lesser nor the greater of two
lesser_null : (v : Value) → lesser value.Null v ≡ v
lesser_null value.Null = refl
lesser_null (value.Text t) = refl
lesser_null (value.Num n) = refl
lesser_null (value.Truth b) = refl
lesser_null (value.Day d) = refl
lesser_null (value.Moment m) = refl

greater_null : (v : Value) → greater value.Null v ≡ v
greater_null value.Null = refl
greater_null (value.Text t) = refl
greater_null (value.Num n) = refl
greater_null (value.Truth b) = refl
greater_null (value.Day d) = refl
greater_null (value.Moment m) = refl

least-append : (us vs : List Value) → lesser (least_of us) (least_of vs) ≡ least_of (us ++ vs)
least-append [] vs = lesser_null (least_of vs)
least-append (u ∷ us) vs = first_of-assoc null_last_ordered u (least_of us) (least_of vs) ∙ ap (lesser u) (least-append us vs)

greatest-append : (us vs : List Value) → greater (greatest_of us) (greatest_of vs) ≡ greatest_of (us ++ vs)
greatest-append [] vs = greater_null (greatest_of vs)
greatest-append (u ∷ us) vs = first_of-assoc values_turned u (greatest_of us) (greatest_of vs) ∙ ap (greater u) (greatest-append us vs)

values-append : (us vs : List Entry) → values_of_entries us ++ values_of_entries vs ≡ values_of_entries (us ++ vs)
values-append us vs = sym (map-append (λ (e : Entry). e.1.value) us vs)

-- the parts of both lists, but for the number of different values
pub merged-append : (o : Op) (us vs : List Entry) → (uses_key o ≡ true → AreApart o us vs) → without_distinct (merged (partial_of o us) (partial_of o vs)) ≡ without_distinct (partial_of o (us ++ vs))
merged-append op.Count us vs apart = λ i. record no_partial { count = length-append op.Count us vs (apart refl) i }
merged-append op.Sum us vs apart = λ i. record no_partial { sum = total-append op.Sum us vs (apart refl) i; values = known-append op.Sum us vs (apart refl) i }
merged-append op.Average us vs apart = λ i. record no_partial { sum = total-append op.Average us vs (apart refl) i; values = known-append op.Average us vs (apart refl) i }
merged-append op.Min us vs apart = λ i. record no_partial { least = (least-append (values_of_entries us) (values_of_entries vs) ∙ ap least_of (values-append us vs)) i }
merged-append op.Max us vs apart = λ i. record no_partial { most = (greatest-append (values_of_entries us) (values_of_entries vs) ∙ ap greatest_of (values-append us vs)) i }
merged-append op.CountDistinct us vs apart = refl
merged-append op.SumDistinct us vs apart = refl
merged-append op.AverageDistinct us vs apart = refl
merged-append op.Number us vs apart = refl
