-- What a visitor that gives passing rows to an accumulator was given.
use Rattle.std.specs.Prelude.{◌≡◌, ℕ, List, filter, length, Option}
use Rattle.lk_types.specs.declared.bound.Plan.{Plan}
use Rattle.lk_types.specs.declared.explore.Explore.{Explore}
use Rattle.lk_types.specs.declared.rows.Joined.{Joined}
use Rattle.lk_semantics.specs.Answers.{dims_of, ops_of, query_components}
use Rattle.lk_semantics.specs.Joins.{joined_rows}
use Rattle.lk_types.specs.declared.rows.Sources.{Sources}
use Rattle.lk_exec.specs.Visits.{IsWithin, rows_where}
use Rattle.lk_agg.specs.declared.acc.Acc.{Acc}
use Rattle.lk_agg.specs.Gathering.{HasTaken}
use Rattle.lk_gather.specs.Asked.{does_pass, given_of}

-- the accumulator has the passing ones of the rows that were seen, and the count is their number
pub record HasGathered (x : Explore) (plan : Plan) (acc : Acc) (count : ℕ) (seen : List Joined) : Type 0 where
  pub taken : HasTaken acc (length (dims_of plan.bound.picks)) (ops_of x (query_components x plan.bound)) (given_of x plan seen)
  pub places : count ≡ length (filter (does_pass plan) seen)

-- it has the passing ones of rows that are within the cap
pub record HasVisited (x : Explore) (plan : Plan) (most : Option ℕ) (rows : List Joined) (acc : Acc) : Type 0 where
  pub count : ℕ
  pub gathered : HasGathered x plan acc count rows
  pub within : IsWithin most rows

-- the rows of a plan
abbrev pub rows_seen : Explore → Sources → Plan → List Joined
rows_seen x s plan = rows_where plan.visible (joined_rows x s plan.bound.joins)
