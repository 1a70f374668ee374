-- The lines of groups by where their cells come from, and the order in which they are sorted.
use Rattle.std.specs.Prelude.{ℕ, Bool, List, [], ◌∷◌, All, pos, ◌<ℤ◌, int_lt, ⊤, if◌then◌else◌}
use Rattle.std.specs.Ordering.{ordering_then}
use Rattle.std.specs.declared.cmp.Ordering.{Ordering}
use Rattle.std.specs.declared.cmp.Ordering.TheVariants.{Equal}
use Rattle.lk_val.specs.Fractions.{Fraction, reduced}
use Rattle.lk_val.specs.Values.{tuple_cmp}
use Rattle.lk_val.proofs.CellOrder.{cell_order}
use Rattle.lk_val.specs.declared.cell.Cell.{Cell}
use Rattle.lk_val.specs.declared.cell.Cell.TheVariants as cell
use Rattle.lk_types.specs.declared.answer.GroupRow.{GroupRow}
use Rattle.lk_types.specs.declared.bound.Sort.{Sort}
use Rattle.lk_types.specs.declared.filter.Filter.{Filter}
use Rattle.lk_semantics.specs.Answers.{cell_at, directed}
use Rattle.lk_lines.specs.Sources.{column_cells, passes_each}
use Rattle.lk_lines.specs.declared.source.Source.{Source}
use Rattle.lk_lines.specs.declared.source.Column.{Column}

-- a group with its picked cells
abbrev pub line_by : List ℕ → List Column → GroupRow → GroupRow
line_by components columns row = record { group = row.group; cells = column_cells components row.cells columns row.group }

-- a group passes each filter
abbrev pub is_kept : List ℕ → List (Source × Filter) → GroupRow → Bool
is_kept components filters row = passes_each components row.cells filters

-- the cell's fraction, if it has one, has a denominator above 0
abbrev pub IsPositiveCell : Cell → Type 0
IsPositiveCell (cell.Frac f) = pos 0 <ℤ f.d
IsPositiveCell c = ⊤

-- and so has each fraction of the line
abbrev pub IsPositiveLine : GroupRow → Type 0
IsPositiveLine line = All IsPositiveCell line.cells

-- a fraction with a denominator above 0: that of 0 in place of one without
abbrev pub positive : Bool → Fraction → Fraction
positive above f = if above then f else record { n = pos 0; d = pos 1 }

-- the fraction in lowest terms
abbrev pub lowest_terms : Fraction → Fraction
lowest_terms f = reduced f.n f.d

-- a cell with its fraction in lowest terms
abbrev pub lowest : Cell → Cell
lowest (cell.Frac f) = cell.Frac (lowest_terms (positive (int_lt (pos 0) f.d) f))
lowest c = c

-- cells by their values, also where a fraction is not in lowest terms
abbrev pub cell_value_order : Cell → Cell → Ordering
cell_value_order a b = cell_order (lowest a) (lowest b)

-- cells by the sorts, one after the other
abbrev pub cells_order : List Sort → List Cell → List Cell → Ordering
cells_order [] a b = Equal
cells_order (s ∷ sorts) a b = ordering_then (directed s.down (cell_value_order (cell_at a s.place) (cell_at b s.place))) (cells_order sorts a b)

-- by the sorts, and then by the groups
abbrev pub line_order : List Sort → GroupRow → GroupRow → Ordering
line_order sorts a b = ordering_then (cells_order sorts a.cells b.cells) (tuple_cmp a.group b.group)
