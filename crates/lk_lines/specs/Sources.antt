-- Where the cells of a line come from: each from the group, from a component, or from a calculation over components.
use Rattle.std.specs.Prelude.{ℕ, ◌-◌, nat_eq, Bool, true, ◌&&◌, List, [], ◌∷◌, length, slice_index_or, position, unwrap_or, Option, Some, None}
use Rattle.lk_val.specs.declared.value.Value.{Value}
use Rattle.lk_val.specs.declared.value.Value.TheVariants as value
use Rattle.lk_val.specs.declared.cell.Cell.{Cell}
use Rattle.lk_val.specs.declared.cell.Cell.TheVariants as cell
use Rattle.lk_types.specs.Calculation.{Calculation}
use Rattle.lk_types.specs.declared.explore.Explore.{Explore}
use Rattle.lk_types.specs.declared.filter.Filter.{Filter}
use Rattle.lk_types.specs.declared.model.Pick.{Pick}
use Rattle.lk_types.specs.declared.model.Pick.TheVariants.{Dim, Mea}
use Rattle.lk_semantics.specs.Answers.{calculated, cell_of_frac, component_cell, frac_of_cell, measure_at, passes_cell}
use Rattle.lk_lines.specs.Nesting.{put_in_times}
use Rattle.lk_lines.specs.declared.source.Source.{Source}
use Rattle.lk_lines.specs.declared.source.Source.TheVariants as source
use Rattle.lk_lines.specs.declared.source.Column.{Column}
use Rattle.lk_lines.specs.declared.source.Column.TheVariants as column

-- the place of a measure among the components, and the first where it is none
abbrev pub place_of : List ℕ → ℕ → ℕ
place_of components m = unwrap_or (position (nat_eq m) components) 0

-- a component's place, or the calculation with all `number`s put in
abbrev pub source_by : Explore → ℕ → Option Calculation → Source
source_by x place None = source.Component place
source_by x place (Some e) = source.Number (put_in_times x (length x.measures - 1) e)

-- where the cell of a measure comes from
abbrev pub source_of : Explore → List ℕ → ℕ → Source
source_of x components m = source_by x (place_of components m) (measure_at x m).number

-- the cell that a group's cells give
abbrev pub source_cell : List ℕ → List Cell → Source → Cell
source_cell components cells (source.Component place) = slice_index_or cells place (cell.Value value.Null)
source_cell components cells (source.Number e) = cell_of_frac (calculated (λ m. frac_of_cell (component_cell components cells m)) e)

-- where the cell of a column comes from
abbrev pub column_of : Explore → List ℕ → Pick → Column
column_of x components (Dim f) = column.Group
column_of x components (Mea m) = column.Measure (source_of x components m)

-- the cell of a column, where the group has a value for it
abbrev pub next_cell : List ℕ → List Cell → Column → List Value → Option Cell
next_cell components cells column.Group [] = None
next_cell components cells column.Group (v ∷ group) = Some (cell.Value v)
next_cell components cells (column.Measure s) group = Some (source_cell components cells s)

-- the values that are left for the columns behind it
abbrev pub left_behind : Column → List Value → List Value
left_behind column.Group [] = []
left_behind column.Group (v ∷ group) = group
left_behind (column.Measure s) group = group

-- no cell behind one that is missing
abbrev pub before_end : Option Cell → List Cell → List Cell
before_end None cells = []
before_end (Some c) cells = c ∷ cells

-- the cells of a line: the columns of the group take its values in order
abbrev pub column_cells : List ℕ → List Cell → List Column → List Value → List Cell
column_cells components cells [] group = []
column_cells components cells (c ∷ columns) group =
    before_end (next_cell components cells c group) (column_cells components cells columns (left_behind c group))

-- what is filtered, with its filter
abbrev pub filtered_source : Explore → List ℕ → ℕ × Filter → Source × Filter
filtered_source x components f = (source_of x components f.0, f.1)

-- each of the filters is passed
abbrev pub passes_each : List ℕ → List Cell → List (Source × Filter) → Bool
passes_each components cells [] = true
passes_each components cells (f ∷ filters) = passes_cell f.1 (source_cell components cells f.0) && passes_each components cells filters
