-- The order of the cells of one column of an answer.
use Rattle.std.specs.Prelude.{ℕ, ⊤}
use Rattle.std.specs.Ordering.{nat_cmp, int_cmp}
use Rattle.std.specs.declared.cmp.Ordering.{Ordering}
use Rattle.lk_val.specs.declared.cell.Cell.{Cell}
use Rattle.lk_val.specs.declared.cell.Cell.TheVariants.{Value, Count, Sum, Frac}
use Rattle.lk_val.specs.Values.{value_cmp}
use Rattle.lk_val.specs.Fractions.{IsReduced, frac_cmp}

-- the place of a cell's kind: a value, and so null, stands before each number of a measure
abbrev pub cell_rank : Cell → ℕ
cell_rank (Value v) = 0
cell_rank (Count n) = 1
cell_rank (Sum s) = 2
cell_rank (Frac f) = 3

-- cells of one kind by their values; a column has cells of one kind, and nulls
abbrev pub cell_cmp : Cell → Cell → Ordering
cell_cmp (Value a) (Value b) = value_cmp a b
cell_cmp (Count a) (Count b) = nat_cmp a b
cell_cmp (Sum a) (Sum b) = int_cmp a b
cell_cmp (Frac a) (Frac b) = frac_cmp a b
cell_cmp a b = nat_cmp (cell_rank a) (cell_rank b)

-- the cell's fraction, if it has one, is in lowest terms
abbrev pub IsReducedCell : Cell → Type 0
IsReducedCell (Frac f) = IsReduced f
IsReducedCell c = ⊤
