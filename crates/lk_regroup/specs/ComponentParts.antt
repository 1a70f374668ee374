-- What a group of a query has of its components, put together from the rows of an aggregate table.
use Rattle.std.specs.Prelude.{ℕ, ◌+◌, ◌==◌, if◌then◌else◌, List, [], ◌∷◌, map, slice_index_or, Option, Some, None}
use Rattle.lk_val.specs.declared.cell.Cell.{Cell}
use Rattle.lk_val.specs.declared.value.Value.{Value}
use Rattle.lk_types.specs.declared.answer.GroupRow.{GroupRow}
use Rattle.lk_types.specs.declared.answer.Partial.{Partial}
use Rattle.lk_types.specs.declared.explore.Explore.{Explore}
use Rattle.lk_semantics.specs.Answers.{measure_at}
use Rattle.lk_semantics.specs.Rollups.{cell_of_partial, merged, no_partial}
use Rattle.lk_regroup.specs.declared.component.Component.{Component}
use Rattle.lk_regroup.specs.declared.component.ComponentParts.{ComponentParts}

-- the place at which a measure stands first among some, of those from a place on
abbrev pub place_from : ℕ → ℕ → List ℕ → Option ℕ
place_from m place [] = None
place_from m place (n ∷ measures) = if n == m then Some place else place_from m (place + 1) measures

-- a component of a query among those that the rows keep
abbrev pub component_of : Explore → List ℕ → ℕ → Component
component_of x measures m = record { place = place_from m 0 measures; op = (measure_at x m).op }

-- a part that is there, or else nothing
abbrev pub or_nothing : Option Partial → Partial
or_nothing None = no_partial
or_nothing (Some part) = part

-- what a row keeps at the place of a component, nothing where there is none
abbrev pub part_from : List Partial → Option ℕ → Partial
part_from partials None = no_partial
part_from partials (Some place) = slice_index_or partials place no_partial

-- what the first row of a group has of a component
abbrev pub first_parts : List Partial → Component → ComponentParts
first_parts partials c = record { component = c; parts = part_from partials c.place }

-- what a group has of a component with one more row
abbrev pub with_parts : List Partial → ComponentParts → ComponentParts
with_parts partials has = record { component = has.component; parts = merged has.parts (part_from partials has.component.place) }

-- what a group without a row has of a component
abbrev pub no_parts : Component → ComponentParts
no_parts c = record { component = c; parts = no_partial }

-- the cell of a component
abbrev pub cell_of : ComponentParts → Cell
cell_of has = cell_of_partial has.component.op has.parts

-- a group with its cells
abbrev pub row_of : List Value × List ComponentParts → GroupRow
row_of e = record { group = e.0; cells = map cell_of e.1 }
