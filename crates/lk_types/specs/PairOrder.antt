-- Pairs of key and value in order: by key, and then by value. The order is total, and only equal pairs tie.
use Rattle.std.proofs.Common.{◌≡◌, refl}
use Rattle.std.specs.Prelude.{Bool}
use Rattle.std.specs.Cmp.{IsEquivalence, IsPartialEquivalence, IsPartialOrder, eq_by_cmp_equiv, partial_equiv_from_equiv, po, then_total}
use Rattle.std.specs.Ordering.{as_partial_cmp, is_eq, ordering_then}
use Rattle.std.specs.declared.cmp.Ordering.{Ordering}
use Rattle.std.specs.declared.cmp.Ordering.TheVariants.{Less, Equal, Greater}
use Rattle.std.specs.FinMap.{IsAntisymmetric}
use Rattle.std.proofs.lemmas.Cmp.{on_total}
use Rattle.lk_val.specs.Sets.{IsExactOrder}
use Rattle.lk_val.specs.Values.{value_cmp}
use Rattle.lk_val.specs.ValueOrder.{value_cmp-total, value_cmp-exact}
use Rattle.lk_types.specs.declared.answer.Pair.{Pair}

-- pairs by key, and then by value
abbrev pub pair_cmp : Pair → Pair → Ordering
pair_cmp a b = ordering_then (value_cmp a.key b.key) (value_cmp a.value b.value)

-- two pairs are the same: neither is before the other
abbrev pub is_same_pair : Pair → Pair → Bool
is_same_pair a b = is_eq (pair_cmp a b)

both_tie : (a b : Ordering) → ordering_then a b ≡ Equal → (a ≡ Equal) × (b ≡ Equal)
both_tie Equal b e = (refl, e)
both_tie Less b e = cc
both_tie Greater b e = cc

pub pair_cmp-exact : IsAntisymmetric pair_cmp
pair_cmp-exact a b e =
    let h = both_tie (value_cmp a.key b.key) (value_cmp a.value b.value) e in
    λ i. record { key = value_cmp-exact a.key b.key h.0 i; value = value_cmp-exact a.value b.value h.1 i }

pub pairs_ordered : IsExactOrder pair_cmp
pairs_ordered = record { total = then_total (on_total (λ p. p.key) value_cmp-total) (on_total (λ p. p.value) value_cmp-total); exact = pair_cmp-exact }

pub pairs_equivalent_all : IsEquivalence is_same_pair
pairs_equivalent_all = eq_by_cmp_equiv pairs_ordered.total

pub pairs_equivalent : IsPartialEquivalence is_same_pair
pairs_equivalent = partial_equiv_from_equiv pairs_equivalent_all

pub pairs_partial : IsPartialOrder is_same_pair (as_partial_cmp pair_cmp)
pairs_partial = po pairs_ordered.total (λ x y. refl)
