-- The order of values is total, and only equal values tie; so it is of tuples.
use Rattle.std.proofs.Common.{◌≡◌, refl, ap, subst}
use Rattle.std.specs.Prelude.{true, false, List}
use Rattle.std.specs.Cmp.{IsTotalOrder, IsEquivalence, IsPartialEquivalence, IsPartialOrder, eq_by_cmp_equiv, partial_equiv_from_equiv, po}
use Rattle.std.specs.Ordering.{as_partial_cmp}
use Rattle.std.specs.Cmp.Lexicographic.{lists_total, slice_cmp}
use Rattle.std.specs.FinMap.{IsAntisymmetric, nat_cmp-IsAntisymmetric, int_cmp-IsAntisymmetric, slice_cmp-IsAntisymmetric}
use Rattle.lk_val.specs.declared.value.Value.{Value}
use Rattle.lk_val.specs.declared.value.Value.TheVariants.{Null, Text, Num, Truth, Day, Moment}
use Rattle.lk_val.specs.Sets.{IsExactOrder}
use Rattle.lk_val.specs.Values.{value_cmp, tuple_cmp, is_same_tuple}
use Rattle.lk_val.specs.contracts.value.ValueOrd.TheImpl.{cmp-value}
use Rattle.lk_val.specs.contracts.value.ValueOrd.TheImpl.Laws.{total-law}

-- what the derived comparison computes is the order
pub derived : (x y : Value) → cmp-value.it x y ≡ value_cmp x y
derived Null Null = refl
derived Null (Text b) = refl
derived Null (Num b) = refl
derived Null (Truth b) = refl
derived Null (Day b) = refl
derived Null (Moment b) = refl
derived (Text a) Null = refl
derived (Text a) (Text b) = refl
derived (Text a) (Num b) = refl
derived (Text a) (Truth b) = refl
derived (Text a) (Day b) = refl
derived (Text a) (Moment b) = refl
derived (Num a) Null = refl
derived (Num a) (Text b) = refl
derived (Num a) (Num b) = refl
derived (Num a) (Truth b) = refl
derived (Num a) (Day b) = refl
derived (Num a) (Moment b) = refl
derived (Truth a) Null = refl
derived (Truth a) (Text b) = refl
derived (Truth a) (Num b) = refl
derived (Truth false) (Truth false) = refl
derived (Truth false) (Truth true) = refl
derived (Truth true) (Truth false) = refl
derived (Truth true) (Truth true) = refl
derived (Truth a) (Day b) = refl
derived (Truth a) (Moment b) = refl
derived (Day a) Null = refl
derived (Day a) (Text b) = refl
derived (Day a) (Num b) = refl
derived (Day a) (Truth b) = refl
derived (Day a) (Day b) = refl
derived (Day a) (Moment b) = refl
derived (Moment a) Null = refl
derived (Moment a) (Text b) = refl
derived (Moment a) (Num b) = refl
derived (Moment a) (Truth b) = refl
derived (Moment a) (Day b) = refl
derived (Moment a) (Moment b) = refl

pub value_cmp-total : IsTotalOrder value_cmp
value_cmp-total = subst (λ R. IsTotalOrder R) (λ i x y. derived x y i) total-law

pub value_cmp-exact : IsAntisymmetric value_cmp
value_cmp-exact Null Null e = refl
value_cmp-exact (Text a) (Text b) e = ap Text (slice_cmp-IsAntisymmetric nat_cmp-IsAntisymmetric a b e)
value_cmp-exact (Num a) (Num b) e = ap (λ i. Num (record { 0 = i })) (int_cmp-IsAntisymmetric a.0 b.0 e)
value_cmp-exact (Truth false) (Truth false) e = refl
value_cmp-exact (Truth true) (Truth true) e = refl
value_cmp-exact (Day a) (Day b) e = ap Day (int_cmp-IsAntisymmetric a b e)
value_cmp-exact (Moment a) (Moment b) e = ap Moment (int_cmp-IsAntisymmetric a b e)
value_cmp-exact a b e = cc

pub values_ordered : IsExactOrder value_cmp
values_ordered = record { total = value_cmp-total; exact = value_cmp-exact }

pub tuples_ordered : IsExactOrder tuple_cmp
tuples_ordered = record { total = lists_total value_cmp-total; exact = slice_cmp-IsAntisymmetric value_cmp-exact }

-- the order that the derived comparison computes for lists of values is that of tuples
pub derived_tuples : (xs ys : List Value) → slice_cmp cmp-value.it xs ys ≡ tuple_cmp xs ys
derived_tuples xs ys = λ i. slice_cmp (λ x y. derived x y i) xs ys

pub tuples_equivalent_all : IsEquivalence is_same_tuple
tuples_equivalent_all = eq_by_cmp_equiv tuples_ordered.total

pub tuples_equivalent : IsPartialEquivalence is_same_tuple
tuples_equivalent = partial_equiv_from_equiv tuples_equivalent_all

pub tuples_partial : IsPartialOrder is_same_tuple (as_partial_cmp tuple_cmp)
tuples_partial = po tuples_ordered.total (λ x y. refl)
