-- The groups of a query, and what an aggregate table keeps of them.
use Rattle.std.specs.Prelude.{ℕ, Bool, true, false, List, length, Option}
use Rattle.lk_val.specs.declared.value.Value.{Value}
use Rattle.lk_types.specs.declared.answer.GivenRow.{GivenRow}
use Rattle.lk_types.specs.declared.answer.GroupRow.{GroupRow}
use Rattle.lk_types.specs.declared.answer.Partial.{Partial}
use Rattle.lk_types.specs.declared.bound.Bound.{Bound}
use Rattle.lk_types.specs.declared.explore.Explore.{Explore}
use Rattle.lk_types.specs.declared.rows.Joined.{Joined}
use Rattle.lk_types.specs.declared.rows.Sources.{Sources}
use Rattle.lk_semantics.specs.Answers.{conflict_among, dims_of, given_rows, ops_of, query_components, rows_grouped}
use Rattle.lk_semantics.specs.Rollups.{rollup_rows}
use Rattle.lk_semantics.specs.Rows.{passing_rows, visible_rows}
use Rattle.lk_agg.specs.declared.fault.AggFault.{AggFault}
use Rattle.lk_agg.specs.declared.fault.AggFault.TheVariants as agg
use Rattle.lk_gather.specs.declared.grouping.GatherFault.{GatherFault}
use Rattle.lk_gather.specs.declared.grouping.GatherFault.TheVariants as fault

-- the rows that a query counts
abbrev pub rows_counted : Explore → Sources → Bound → List Joined
rows_counted x s b = passing_rows x b.rows (visible_rows x s b)

-- what they give to its groups and components
abbrev pub given_to : Explore → Sources → Bound → List GivenRow
given_to x s b = given_rows x (dims_of b.picks) (query_components x b) (rows_counted x s b)

-- its groups with the cells of its components
abbrev pub groups_over : Explore → Sources → Bound → List GroupRow
groups_over x s b = rows_grouped x (dims_of b.picks) (query_components x b) (rows_counted x s b)

-- its groups with the parts of its components
abbrev pub parts_over : Explore → Sources → Bound → List (List Value × List Partial)
parts_over x s b = rollup_rows (length (dims_of b.picks)) (ops_of x (query_components x b)) (given_to x s b)

-- the first key with two values that it meets
abbrev pub conflict_over : Explore → Sources → Bound → Option (ℕ × Value)
conflict_over x s b = conflict_among x (dims_of b.picks) (query_components x b) (rows_counted x s b)

-- the fault is want of memory
abbrev pub is_no_memory : GatherFault → Bool
is_no_memory fault.NoMemory = true
is_no_memory fault.Conflict = false

-- what a fault of the accumulator is to the groups
abbrev pub fault_of : AggFault → GatherFault
fault_of (agg.Conflict measure key) = fault.Conflict
fault_of agg.NoMemory = fault.NoMemory
