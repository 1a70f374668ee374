-- An order of all cells, exact also where a fraction is not in lowest terms; where they are it is that of cells.
use Rattle.std.proofs.Common.{◌≡◌, Bool, true, false, if◌then◌else◌, pos, ◌*ℤ◌, ◌<ℤ◌, nat_cmp, int_cmp, int_lt, Ordering, Less, Equal, Greater, refl, sym, ap, ◌∙◌, arith}
use Rattle.std.specs.Ordering.{ordering_reverse, ordering_then, then_cmp, on}
use Rattle.std.specs.Cmp.{IsTotalOrder, then_total}
use Rattle.std.specs.FinMap.{nat_cmp-IsAntisymmetric, int_cmp-IsAntisymmetric}
use Rattle.std.proofs.lemmas.Int.{ints}
use Rattle.std.proofs.lemmas.Cmp.{on_total, nat_cmp_total, int_cmp_total, int_ranked, tied_itself}
use Rattle.lk_val.specs.declared.cell.Cell.{Cell}
use Rattle.lk_val.specs.declared.cell.Cell.TheVariants.{Value, Count, Sum, Frac}
use Rattle.lk_val.specs.Sets.{IsExactOrder}
use Rattle.lk_val.specs.Values.{value_cmp}
use Rattle.lk_val.specs.ValueOrder.{values_ordered}
use Rattle.lk_val.specs.Fractions.{Fraction, IsReduced, frac_cmp}
use Rattle.lk_val.specs.Cells.{IsReducedCell, cell_cmp, cell_rank}
use Rattle.lk_val.proofs.ValueLaws.{first_tie, second_tie}
use Rattle.lk_val.proofs.FractionSteps.{lt-true}
use Rattle.lk_val.proofs.FractionLaws.{cmp-same, cmp-equal, cmp-turned, positive-less}

-- ---- of fractions: by the value, which is 0 where the denominator is none, and then by the two numbers

pub value_if : Bool → Fraction → Fraction
value_if above f = if above then f else record { n = pos 0; d = pos 1 }

abbrev pub value : Fraction → Fraction
value f = value_if (int_lt (pos 0) f.d) f

value_positive : (f : Fraction) → pos 0 <ℤ (value f).d
unfolding value_if
value_positive f =
    elim (int_lt (pos 0) f.d) as (λ b. int_lt (pos 0) f.d ≡ b → pos 0 <ℤ (value_if b f).d) [
      | true ↦ λ e. omega (arith, ints)
      | false ↦ λ e. omega (arith, ints)
    ] refl

value_of_reduced : (f : Fraction) → IsReduced f → value f ≡ f
unfolding value_if
value_of_reduced f r = ap (λ b. value_if b f) (lt-true (pos 0) f.d r.positive)

values_total : IsTotalOrder (λ a b. frac_cmp (value a) (value b))
values_total = record {
  antisymm = λ a b. cmp-turned (value b) (value a);
  trans = λ a b c p q. positive-less (value a) (value b) (value c) (value_positive a) (value_positive b) (value_positive c) p q;
  congr = λ a b c e. cmp-same (value a) (value b) (value c) (value_positive a) (value_positive b)
      (record { cross = int_ranked ((value a).n *ℤ (value b).d) ((value b).n *ℤ (value a).d) Equal (sym e) });
}

pub numbers_cmp : Fraction → Fraction → Ordering
numbers_cmp = then_cmp (on (λ (f : Fraction). f.n) int_cmp) (on (λ (f : Fraction). f.d) int_cmp)

numbers_total : IsTotalOrder numbers_cmp
unfolding numbers_cmp
numbers_total = then_total (on_total (λ (f : Fraction). f.n) int_cmp_total) (on_total (λ (f : Fraction). f.d) int_cmp_total)

abbrev pub fraction_order : Fraction → Fraction → Ordering
fraction_order a b = ordering_then (frac_cmp (value a) (value b)) (numbers_cmp a b)

fractions_ordered : IsExactOrder fraction_order
unfolding numbers_cmp
fractions_ordered = record {
  total = then_total values_total numbers_total;
  exact = λ a b e.
      let rest = second_tie (frac_cmp (value a) (value b)) (numbers_cmp a b) e in
      let n : a.n ≡ b.n = int_cmp-IsAntisymmetric a.n b.n (first_tie (int_cmp a.n b.n) (int_cmp a.d b.d) rest) in
      let d : a.d ≡ b.d = int_cmp-IsAntisymmetric a.d b.d (second_tie (int_cmp a.n b.n) (int_cmp a.d b.d) rest) in
      λ i. record { n = n i; d = d i };
}

fractions_agree : (a b : Fraction) → IsReduced a → IsReduced b → fraction_order a b ≡ frac_cmp a b
fractions_agree a b ra rb =
    (λ i. ordering_then (frac_cmp (value_of_reduced a ra i) (value_of_reduced b rb i)) (numbers_cmp a b))
    ∙ by (frac_cmp a b) refl
  where
    by : (o : Ordering) → frac_cmp a b ≡ o → ordering_then (frac_cmp a b) (numbers_cmp a b) ≡ frac_cmp a b
    by Less e = ap (λ o. ordering_then o (numbers_cmp a b)) e ∙ sym e
    by Equal e =
        let tie : numbers_cmp a b ≡ Equal = ap (numbers_cmp a) (sym (cmp-equal a b ra rb e)) ∙ tied_itself numbers_total a in
        ap (λ o. ordering_then o (numbers_cmp a b)) e ∙ tie ∙ sym e
    by Greater e = ap (λ o. ordering_then o (numbers_cmp a b)) e ∙ sym e

-- ---- of cells

abbrev pub cell_order : Cell → Cell → Ordering
cell_order (Value a) (Value b) = value_cmp a b
cell_order (Count a) (Count b) = nat_cmp a b
cell_order (Sum a) (Sum b) = int_cmp a b
cell_order (Frac a) (Frac b) = fraction_order a b
cell_order a b = nat_cmp (cell_rank a) (cell_rank b)

exact : (a b : Cell) → cell_order a b ≡ Equal → a ≡ b
exact (Value a) (Value b) e = ap Value (values_ordered.exact a b e)
exact (Count a) (Count b) e = ap Count (nat_cmp-IsAntisymmetric a b e)
exact (Sum a) (Sum b) e = ap Sum (int_cmp-IsAntisymmetric a b e)
exact (Frac a) (Frac b) e = ap Frac (fractions_ordered.exact a b e)
exact a b e = absurd (cc)

turned : (a b : Cell) → cell_order a b ≡ ordering_reverse (cell_order b a)
turned (Value a) (Value b) = values_ordered.total.antisymm a b
turned (Count a) (Count b) = nat_cmp_total.antisymm a b
turned (Sum a) (Sum b) = int_cmp_total.antisymm a b
turned (Frac a) (Frac b) = fractions_ordered.total.antisymm a b
turned a b = refl

less : (a b c : Cell) → cell_order a b ≡ Less → cell_order b c ≡ Less → cell_order a c ≡ Less
less (Value a) b (Count c) p q = refl
less (Value a) b (Sum c) p q = refl
less (Value a) b (Frac c) p q = refl
less (Count a) b (Sum c) p q = refl
less (Count a) b (Frac c) p q = refl
less (Sum a) b (Frac c) p q = refl
less (Value a) (Value b) (Value c) p q = values_ordered.total.trans a b c p q
less (Count a) (Count b) (Count c) p q = nat_cmp_total.trans a b c p q
less (Sum a) (Sum b) (Sum c) p q = int_cmp_total.trans a b c p q
less (Frac a) (Frac b) (Frac c) p q = fractions_ordered.total.trans a b c p q
less (Count a) (Value b) (Value c) p q = cc
less (Sum a) (Value b) (Value c) p q = cc
less (Sum a) (Value b) (Count c) p q = cc
less (Frac a) (Value b) (Value c) p q = cc
less (Frac a) (Value b) (Count c) p q = cc
less (Frac a) (Value b) (Sum c) p q = cc
less a b c p q = cc

pub cells_in_order : IsExactOrder cell_order
cells_in_order = record {
  total = record { antisymm = turned; trans = less; congr = λ a b c e. ap (λ x. cell_order x c) (exact a b e) };
  exact = exact;
}

-- it is the order of cells where their fractions are in lowest terms
pub cell_order-cell_cmp : (a b : Cell) → IsReducedCell a → IsReducedCell b → cell_order a b ≡ cell_cmp a b
cell_order-cell_cmp (Value a) (Value b) ra rb = refl
cell_order-cell_cmp (Count a) (Count b) ra rb = refl
cell_order-cell_cmp (Sum a) (Sum b) ra rb = refl
cell_order-cell_cmp (Frac a) (Frac b) ra rb = fractions_agree a b ra rb
cell_order-cell_cmp a b ra rb = refl
