-- What a query on an edition is answered. (lookd)
use Rattle.std.specs.Prelude.{◌≡◌, ℕ, ℤ, Bool, ◌||◌, List, [], length, slice_index_or, Result, Ok, Err}
use Rattle.lk_types.specs.Tables.{Rows}
use Rattle.lk_types.specs.declared.answer.Reply.{Reply}
use Rattle.lk_types.specs.declared.answer.RouteFrom.{RouteFrom}
use Rattle.lk_types.specs.declared.answer.RouteFrom.TheVariants as from
use Rattle.lk_types.specs.declared.bound.Bound.{Bound}
use Rattle.lk_types.specs.declared.explore.Explore.{Explore}
use Rattle.lk_types.specs.declared.model.Model.{Model}
use Rattle.lk_semantics.specs.Derived.{explore_at}
use Rattle.lk_semantics.specs.Rollups.{rollup_at}
use Rattle.lk_filter.specs.PlacedModel.{placed_model}
use Rattle.lk_regroup_laws.specs.Regroup.{RollupRow, answer_regrouped}
use Rattle.lk_table.specs.Contents.{rows_of_each}
use Rattle.lk_keeps.specs.Keeps.{Keeps, sources_over}
use Rattle.lk_body.specs.declared.fault.QueryFault.{QueryFault}
use Rattle.lk_query.specs.Bindings.{IsBodyBound}
use Rattle.lk_ask.specs.Asks.{refused, told_by, told_over}
use Rattle.lk_ask.specs.declared.fault.AskFault.{AskFault}
use Rattle.lk_ask.specs.declared.told.Told.{Told}
use Rattle.lk_reply.specs.Statuses.{answer_reply}
use Rattle.lk_edition.specs.Standings.{Standing}
use Rattle.lk_answer.specs.Routes.{routed}
use Rattle.lk_answer.specs.declared.scratch.Scratch.{Scratch}

-- ---- from which rows

-- what a query is told over stored tables and the derived ones over them, by the model at a moment, all of whose filters have their relative dates placed
abbrev pub told_at : Model → ℤ → List Rows → Bound → Result Told AskFault
told_at m now stored b = told_over (explore_at (placed_model now m) b.explore) (sources_over m stored) b

-- the rows that are kept of an aggregate table of an explore
abbrev pub rows_kept : Keeps → ℕ → ℕ → List RollupRow
rows_kept keeps explore r = slice_index_or (slice_index_or keeps.rollups explore []) r []

-- what a query of an explore is told from the rows of the aggregate table of a number: no row of a table is seen, so no limit on visible rows holds
abbrev pub told_rolled : Explore → ℕ → List RollupRow → Bound → Result Told AskFault
told_rolled x r rows b = told_by x b 0 (answer_regrouped x (rollup_at x r) b rows)

-- what a query is told where its route leads: to an aggregate table, to the tables of a datagroup's build, or to the current ones
abbrev pub told_where : Standing → ℤ → Bound → RouteFrom → Result Told AskFault
told_where e now b (from.Rollup r) = told_rolled (explore_at e.model b.explore) r (rows_kept e.keeps b.explore r) b
told_where e now b (from.Build g) = told_at e.model now (slice_index_or e.keeps.tables g []) b
told_where e now b from.Current = told_at e.model now (rows_of_each e.state.tables) b

-- ---- the answer

-- what is told as a reply which names a snapshot, in CSV where the query or its caller asks so
abbrev pub named : Model → Bool → ℕ → Result Told AskFault → Result Reply AskFault
named m csv number (Err fault) = Err fault
named m csv number (Ok told) = Ok (answer_reply (csv || told.bound.csv) (explore_at m told.bound.explore) told number)

-- what a query that binds so is answered: the snapshot and the rows are those of its route
abbrev pub answered : Standing → ℤ → Bool → Result Bound QueryFault → Result Reply AskFault
answered e now csv (Err fault) = Err (refused fault)
answered e now csv (Ok b) = named e.model csv (routed e b).number (told_where e now b (routed e b).from)

-- the body of a caller over an explore binds to something, or has a first refusal, and this is what it is answered on the edition
pub record IsAnswered (e : Standing) (user explore body : List ℕ) (now : ℤ) (csv : Bool) (result : Result Reply AskFault) : Type 0 where
  pub bound : Result Bound QueryFault
  pub is_bound : IsBodyBound e.model e.users user explore body now bound
  pub is : result ≡ answered e now csv bound

-- ---- the counts

-- how many rows of an aggregate table an answer goes over: all of the one to which the query is routed, and else none
abbrev pub rolled_rows : Keeps → ℕ → RouteFrom → ℕ
rolled_rows keeps explore (from.Rollup r) = length (rows_kept keeps explore r)
rolled_rows keeps explore (from.Build g) = 0
rolled_rows keeps explore from.Current = 0

-- the counts are those of an answer to the query: its visible rows, all of them joined ones, or the rows of the aggregate table to which it is routed
pub record IsCountOf (e : Standing) (b : Bound) (now : ℤ) (scratch : Scratch) : Type 0 where
  pub told : Told
  pub is_told : Ok told ≡ told_where e now b (routed e b).from
  pub joined : scratch.joined_rows ≡ told.visited
  pub rolled : scratch.rollup_rows ≡ rolled_rows e.keeps b.explore (routed e b).from

-- the body of a caller over an explore binds to a query, and the counts are those of an answer to it
pub record HasCounted (e : Standing) (user explore body : List ℕ) (now : ℤ) (scratch : Scratch) : Type 0 where
  pub bound : Bound
  pub is_bound : IsBodyBound e.model e.users user explore body now (Ok bound)
  pub counts : IsCountOf e bound now scratch
