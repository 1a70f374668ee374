-- The faults that speak of a resolved model: derived tables that read themselves, explores over two datagroups, and measures that may not be stored. (Looker, LookML reference: derived_table, aggregate_table, datagroup_trigger; lookd)
use Rattle.std.specs.Prelude.{ℕ, Bool, not, if◌then◌else◌, List, [], ◌∷◌, find, length, Option, Some, None}
use Rattle.std.specs.Option.{option_map}
use Rattle.lk_val.specs.declared.fault.FaultLine.{FaultLine}
use Rattle.lk_types.specs.declared.explore.Explore.{Explore}
use Rattle.lk_types.specs.declared.explore.Rollup.{Rollup}
use Rattle.lk_types.specs.declared.model.Derived.{Derived}
use Rattle.lk_types.specs.declared.model.Model.{Model}
use Rattle.lk_semantics.specs.Answers.{components_of, measure_at, query_components}
use Rattle.lk_semantics.specs.Derived.{derived_query, explore_at}
use Rattle.lk_semantics.specs.Joins.{numbers_below}
use Rattle.lk_semantics.specs.Reading.{explore_datagroups, reads_itself}
use Rattle.lk_semantics.specs.Resolved.{are_one}
use Rattle.lk_semantics.specs.Rollups.{derived_at, may_be_stored, rollup_joins}
use Rattle.lk_params.specs.declared.number.Number.TheVariants.{N7, N10, N12}
use Rattle.lk_params.specs.Findings.{named_line}
use Rattle.lk_scope.specs.Pieces.{first_of, first_at}

-- a derived table that reads itself; they stand by name, so the first has the least name
abbrev pub self_read_line : Model → ℕ → Option FaultLine
self_read_line m d = if reads_itself m d then Some (named_line N7 (derived_at m d).name []) else None

-- an explore that reaches two datagroups
abbrev pub datagroups_line : Model → Explore → Option FaultLine
datagroups_line m x = if are_one (explore_datagroups m x) then None else Some (named_line N10 x.name [])

-- a measure that may not stand in a stored query over some joins
abbrev pub measure_line : List ℕ → Explore → List ℕ → ℕ → Option FaultLine
measure_line object x joins n =
    if may_be_stored x joins (measure_at x n) then None else Some (named_line N12 object (measure_at x n).name)

-- the measures of a derived table, in the order of its components
abbrev pub derived_line_over : Explore → Derived → Option FaultLine
derived_line_over x d = first_at (measure_line d.name x (derived_query x d).joins) (query_components x (derived_query x d))

unfoldable pub derived_line : Model → Derived → Option FaultLine
derived_line m d = derived_line_over (explore_at m d.explore) d

-- and those of an aggregate table
abbrev pub rollup_line : Explore → Rollup → Option FaultLine
rollup_line x r = first_at (measure_line r.name x (rollup_joins x r)) (components_of x r.measures)

abbrev pub rollups_line : Explore → Option FaultLine
rollups_line x = first_at (rollup_line x) x.rollups

-- derived tables on cycles, then explores over two datagroups, then the measures of derived tables by name, and those of aggregate tables by explore and as they are declared
abbrev pub stored_fault : Model → Option FaultLine
stored_fault m = first_of
    (first_at (self_read_line m) (numbers_below (length m.derived))
    ∷ first_at (datagroups_line m) m.explores
    ∷ first_at (derived_line m) m.derived
    ∷ first_at rollups_line m.explores
    ∷ [])
