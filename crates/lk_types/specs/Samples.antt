-- Values, filters and comparisons in short words, for computed examples.
use Rattle.std.specs.Prelude.{ℕ, nat_eq, Bool, pos, ◌*ℤ◌, true, false, ◌&&◌, List}
use Rattle.lk_val.specs.declared.value.Value.{Value}
use Rattle.lk_val.specs.declared.value.Value.TheVariants as value
use Rattle.lk_types.specs.Formula.{Formula, Column, Literal}
use Rattle.lk_types.specs.Unfolded.{Sides}
use Rattle.lk_types.specs.declared.filter.Filter.{Filter}
use Rattle.lk_types.specs.declared.filter.Edge.{Edge}
use Rattle.lk_types.specs.declared.filter.Edge.TheVariants as edge
use Rattle.lk_types.specs.declared.filter.Test.{Test}
use Rattle.lk_types.specs.declared.filter.Test.TheVariants as test

-- ---- values: a number of whole units, a number of 1/10,000, and a text

abbrev pub units : ℕ → Value
units n = value.Num (record { 0 = pos n *ℤ pos 10000 })

abbrev pub parts : ℕ → Value
parts n = value.Num (record { 0 = pos n })

abbrev pub word : List ℕ → Value
word t = value.Text t

-- ---- filters

abbrev pub only : List Test → List Test → Filter
only include exclude = record { include = include; exclude = exclude; relative = false }

abbrev pub is : ℕ → Test
is n = test.Is (record { 0 = pos n *ℤ pos 10000 })

abbrev pub at : ℕ → Edge
at n = edge.At (record { 0 = pos n *ℤ pos 10000 })

abbrev pub interval : Edge → Bool → Edge → Bool → Test
interval low low_closed high high_closed = test.Range (record { edge = low; closed = low_closed }) (record { edge = high; closed = high_closed })

abbrev pub days : ℕ → ℕ → Test
days from up_to = test.In (record { from = pos from; up_to = pos up_to })

-- ---- comparisons: with column 0 of part 0, a day, a literal is 2024-01-01, and with another it stays

abbrev pub is_first_column : Formula → Bool
is_first_column (Column part column) = nat_eq part 0 && nat_eq column 0
is_first_column e = false

abbrev pub beside_day : Bool → Formula → Formula
beside_day true (Literal v) = Literal (value.Day (pos 19723))
beside_day b e = e

abbrev pub beside_first_column : Formula → Formula → Sides
beside_first_column a b = (beside_day (is_first_column b) a, beside_day (is_first_column a) b)
