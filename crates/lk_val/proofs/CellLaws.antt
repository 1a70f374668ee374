-- The order of cells is total and exact where their fractions are in lowest terms.
use Rattle.std.proofs.Common.{◌≡◌, Less, Equal, refl, ap}
use Rattle.std.specs.Ordering.{ordering_reverse}
use Rattle.std.specs.FinMap.{nat_cmp-IsAntisymmetric, int_cmp-IsAntisymmetric}
use Rattle.std.proofs.lemmas.Cmp.{tied_itself, nat_cmp_total, int_cmp_total}
use Rattle.lk_val.specs.declared.cell.Cell.{Cell}
use Rattle.lk_val.specs.declared.cell.Cell.TheVariants.{Value, Count, Sum, Frac}
use Rattle.lk_val.specs.Cells.{IsReducedCell, cell_cmp}
use Rattle.lk_val.specs.ValueOrder.{values_ordered}
use Rattle.lk_val.proofs.FractionLaws.{cmp-itself, cmp-equal, cmp-turned, cmp-less}

pub cell_cmp-itself : (a : Cell) → cell_cmp a a ≡ Equal
cell_cmp-itself (Value v) = tied_itself values_ordered.total v
cell_cmp-itself (Count n) = tied_itself nat_cmp_total n
cell_cmp-itself (Sum s) = tied_itself int_cmp_total s
cell_cmp-itself (Frac f) = cmp-itself f

pub cell_cmp-tied : (a b : Cell) → IsReducedCell a → IsReducedCell b → cell_cmp a b ≡ Equal → a ≡ b
cell_cmp-tied (Value a) (Value b) ra rb e = ap Value (values_ordered.exact a b e)
cell_cmp-tied (Count a) (Count b) ra rb e = ap Count (nat_cmp-IsAntisymmetric a b e)
cell_cmp-tied (Sum a) (Sum b) ra rb e = ap Sum (int_cmp-IsAntisymmetric a b e)
cell_cmp-tied (Frac a) (Frac b) ra rb e = ap Frac (cmp-equal a b ra rb e)
cell_cmp-tied a b ra rb e = absurd (cc)

pub cell_cmp-turned : (a b : Cell) → cell_cmp b a ≡ ordering_reverse (cell_cmp a b)
cell_cmp-turned (Value a) (Value b) = values_ordered.total.antisymm b a
cell_cmp-turned (Count a) (Count b) = nat_cmp_total.antisymm b a
cell_cmp-turned (Sum a) (Sum b) = int_cmp_total.antisymm b a
cell_cmp-turned (Frac a) (Frac b) = cmp-turned a b
cell_cmp-turned a b = refl

pub cell_cmp-less : (a b c : Cell) → IsReducedCell a → IsReducedCell b → IsReducedCell c → cell_cmp a b ≡ Less → cell_cmp b c ≡ Less → cell_cmp a c ≡ Less
cell_cmp-less (Value a) b (Count c) ra rb rc p q = refl
cell_cmp-less (Value a) b (Sum c) ra rb rc p q = refl
cell_cmp-less (Value a) b (Frac c) ra rb rc p q = refl
cell_cmp-less (Count a) b (Sum c) ra rb rc p q = refl
cell_cmp-less (Count a) b (Frac c) ra rb rc p q = refl
cell_cmp-less (Sum a) b (Frac c) ra rb rc p q = refl
cell_cmp-less (Value a) (Value b) (Value c) ra rb rc p q = values_ordered.total.trans a b c p q
cell_cmp-less (Count a) (Count b) (Count c) ra rb rc p q = nat_cmp_total.trans a b c p q
cell_cmp-less (Sum a) (Sum b) (Sum c) ra rb rc p q = int_cmp_total.trans a b c p q
cell_cmp-less (Frac a) (Frac b) (Frac c) ra rb rc p q = cmp-less a b c ra rb rc p q
cell_cmp-less (Count a) (Value b) (Value c) ra rb rc p q = cc
cell_cmp-less (Sum a) (Value b) (Value c) ra rb rc p q = cc
cell_cmp-less (Sum a) (Value b) (Count c) ra rb rc p q = cc
cell_cmp-less (Frac a) (Value b) (Value c) ra rb rc p q = cc
cell_cmp-less (Frac a) (Value b) (Count c) ra rb rc p q = cc
cell_cmp-less (Frac a) (Value b) (Sum c) ra rb rc p q = cc
cell_cmp-less a b c ra rb rc p q = cc
