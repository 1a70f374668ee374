-- What is made of stored queries: the rows of an aggregate table and of a derived one, unless they are too many.
use Rattle.std.specs.Prelude.{ℕ, ◌+◌, ◌*◌, Bool, true, false, ◌&&◌, nat_lt, if◌then◌else◌, List, [], length, Result, Ok, Err}
use Rattle.lk_types.specs.Tables.{Rows}
use Rattle.lk_types.specs.declared.bound.Bound.{Bound}
use Rattle.lk_types.specs.declared.explore.Explore.{Explore}
use Rattle.lk_types.specs.declared.explore.Rollup.{Rollup}
use Rattle.lk_types.specs.declared.filter.Filter.{Filter}
use Rattle.lk_types.specs.declared.model.Derived.{Derived}
use Rattle.lk_types.specs.declared.model.Model.{Model}
use Rattle.lk_types.specs.declared.model.Pick.{Pick}
use Rattle.lk_types.specs.declared.rows.Sources.{Sources}
use Rattle.lk_semantics.specs.Derived.{derived_query, derived_rows, explore_at, query_joins}
use Rattle.lk_semantics.specs.Rollups.{derived_at, partials_of, rollup_at}
use Rattle.lk_regroup_laws.specs.Regroup.{RollupRow}
use Rattle.lk_regroup_laws.specs.Stored.{rollup_query}
use Rattle.lk_rollup.specs.declared.building.RollupRows.{RollupRows}
use Rattle.lk_rollup.specs.declared.fault.BuildFault.{BuildFault}
use Rattle.lk_rollup.specs.declared.fault.BuildFault.TheVariants as fault

-- ---- stored queries

-- a stored query over an explore of a number: it has neither access filters nor filters on measures
abbrev pub query_stored : Explore → ℕ → List Pick → List (ℕ × Filter) → Bound
query_stored x n picks rows = record {
  explore = n;
  picks = picks;
  joins = query_joins x picks rows [] [];
  access = [];
  rows = rows;
  having = [];
  sorts = [];
  limit = 1;
  fresh = false;
  csv = false;
}

-- the query of the aggregate table of a number, of an explore of the model
abbrev pub query_of_rollup : Model → ℕ → ℕ → Bound
query_of_rollup m e n = rollup_query (explore_at m e) e (rollup_at (explore_at m e) n)

-- the query of the derived table of a number
abbrev pub query_of_derived : Model → ℕ → Bound
query_of_derived m d = derived_query (explore_at m (derived_at m d).explore) (derived_at m d)

-- ---- limits

-- so many rows of so many columns are more than 1,000,000 cells
abbrev pub are_many_cells : ℕ → ℕ → Bool
are_many_cells rows columns = nat_lt 1000000 (rows * columns)

-- a fault that is want of memory
abbrev pub is_no_memory : BuildFault → Bool
is_no_memory fault.NoMemory = true
is_no_memory (fault.G2 name) = false

-- ---- what is made

-- the rows of an aggregate table, whose columns are the dimensions and measures that it lists, unless they are too many (G2)
abbrev pub rollup_capped : Rollup → List RollupRow → Result RollupRows BuildFault
rollup_capped r rows =
    if are_many_cells (length rows) (length r.dims + length r.measures) then Err (fault.G2 r.name) else Ok (record { rows = rows })

-- what is made of an aggregate table over some tables
abbrev pub rollup_made : Explore → Sources → Rollup → Result RollupRows BuildFault
rollup_made x s r = rollup_capped r (partials_of x s r)

-- the rows of a derived table; only where there is a cap they can be too many (G2)
abbrev pub derived_capped : Derived → Bool → Rows → Result Rows BuildFault
derived_capped d cap rows = if cap && are_many_cells (length rows) (length d.columns) then Err (fault.G2 d.name) else Ok rows

-- what is made of a derived table over some tables
abbrev pub derived_made : Model → Sources → Derived → Bool → Result Rows BuildFault
derived_made m s d cap = derived_capped d cap (derived_rows m s d)
