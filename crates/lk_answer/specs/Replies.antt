-- What a query is replied on a server's history. (lookd)
use Rattle.std.specs.Prelude.{◌≡◌, ℕ, ℤ, Bool, List, Result, Ok, Err}
use Rattle.lk_types.specs.Tables.{Rows}
use Rattle.lk_types.specs.declared.answer.Reply.{Reply}
use Rattle.lk_types.specs.declared.answer.RouteFrom.{RouteFrom}
use Rattle.lk_types.specs.declared.answer.RouteFrom.TheVariants as from
use Rattle.lk_types.specs.declared.bound.Bound.{Bound}
use Rattle.lk_types.specs.declared.explore.Explore.{Explore}
use Rattle.lk_types.specs.declared.model.Model.{Model}
use Rattle.lk_types.specs.declared.rows.Sources.{Sources}
use Rattle.lk_semantics.specs.Answers.{answer_of}
use Rattle.lk_semantics.specs.Derived.{explore_at}
use Rattle.lk_filter.specs.PlacedModel.{placed_model}
use Rattle.lk_table.specs.Contents.{rows_of_each}
use Rattle.lk_keeps.specs.Keeps.{sources_over}
use Rattle.lk_body.specs.declared.fault.QueryFault.{QueryFault}
use Rattle.lk_query.specs.Bindings.{IsBodyBound}
use Rattle.lk_ask.specs.Asks.{refused, told_by}
use Rattle.lk_ask.specs.declared.fault.AskFault.{AskFault}
use Rattle.lk_ask.specs.declared.told.Told.{Told}
use Rattle.lk_state.specs.States.{State}
use Rattle.lk_edition.specs.Histories.{numbered, states_of}
use Rattle.lk_edition.specs.Standings.{Standing}
use Rattle.lk_answer.specs.Answers.{named, told_at}
use Rattle.lk_answer.specs.Routes.{routed}

-- the stored tables of the snapshot of a number
abbrev pub tables_at : List State → ℕ → List Rows
tables_at states number = rows_of_each (numbered states number).tables

-- the query's answer over some rows, however many its caller may see; none of them counts as visited
abbrev pub told_unlimited : Explore → Sources → Bound → Result Told AskFault
told_unlimited x s b = told_by x b 0 (answer_of x s b)

-- what a query that is routed so is told over the stored tables of its snapshot: only where no aggregate table is routed does the limit on visible rows hold
abbrev pub told_of : Model → ℤ → List Rows → Bound → RouteFrom → Result Told AskFault
told_of m now stored b (from.Rollup r) = told_unlimited (explore_at (placed_model now m) b.explore) (sources_over m stored) b
told_of m now stored b (from.Build g) = told_at m now stored b
told_of m now stored b from.Current = told_at m now stored b

-- what a query that binds so is replied: its route names a snapshot of the history, and what it is told holds over that snapshot's tables
abbrev pub replied : Standing → List State → ℤ → Bool → Result Bound QueryFault → Result Reply AskFault
replied e past now csv (Err fault) = Err (refused fault)
replied e past now csv (Ok b) =
    named e.model csv (routed e b).number (told_of e.model now (tables_at (states_of e past) (routed e b).number) b (routed e b).from)

-- the body of a caller over an explore binds to something, or has a first refusal, and this is what it is replied
pub record IsReplied (e : Standing) (past : List State) (user explore body : List ℕ) (now : ℤ) (csv : Bool) (result : Result Reply AskFault) : Type 0 where
  pub bound : Result Bound QueryFault
  pub is_bound : IsBodyBound e.model e.users user explore body now bound
  pub is : result ≡ replied e past now csv bound
