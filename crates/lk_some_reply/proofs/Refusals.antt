-- What a query is told is an answer or a refusal: want of memory is neither.
use Rattle.std.proofs.Common.{◌≡◌, ℕ, ℤ, Bool, false, List, length, Result, Ok, Err, refl}
use Rattle.std.specs.Prelude.{nat_lt}
use Rattle.lk_types.specs.Tables.{Rows}
use Rattle.lk_types.specs.declared.answer.Answer.{Answer}
use Rattle.lk_types.specs.declared.answer.Answer.TheVariants as answer
use Rattle.lk_types.specs.declared.bound.Bound.{Bound}
use Rattle.lk_types.specs.declared.explore.Explore.{Explore}
use Rattle.lk_types.specs.declared.model.Model.{Model}
use Rattle.lk_types.specs.declared.rows.Sources.{Sources}
use Rattle.lk_semantics.specs.Answers.{answer_of}
use Rattle.lk_semantics.specs.Derived.{explore_at}
use Rattle.lk_semantics.specs.Rows.{visible_rows}
use Rattle.lk_filter.specs.PlacedModel.{placed_model}
use Rattle.lk_body.specs.Faults as bodies
use Rattle.lk_body.specs.declared.fault.QueryFault.{QueryFault}
use Rattle.lk_body.specs.declared.fault.QueryFault.TheVariants as query_fault
use Rattle.lk_ask.specs.Asks.{is_no_memory, refused, told_by, told_over}
use Rattle.lk_ask.specs.declared.fault.AskFault.{AskFault}
use Rattle.lk_ask.specs.declared.fault.AskFault.TheVariants as ask
use Rattle.lk_ask.specs.declared.told.Told.{Told}
use Rattle.lk_keeps.specs.Keeps.{sources_over}
use Rattle.lk_state.specs.States.{State}
use Rattle.lk_edition.specs.Histories.{states_of}
use Rattle.lk_edition.specs.Standings.{Standing}
use Rattle.lk_answer.specs.Answers.{named}
use Rattle.lk_answer.specs.Replies.{replied, tables_at, told_of}
use Rattle.lk_answer.specs.Routes.{routed}
use Rattle.lk_complete_laws.specs.Bodies as bodies_read
use Rattle.lk_some_reply.proofs.Failing.{FailsBy, fails_if}
use Rattle.lk_types.specs.declared.answer.RouteFrom.{RouteFrom}
use Rattle.lk_types.specs.declared.answer.RouteFrom.TheVariants as from

abbrev pub IsRefusal : AskFault → Type 0
IsRefusal why = is_no_memory why ≡ false

refused_so : (why : QueryFault) → bodies.is_no_memory why ≡ false → IsRefusal (refused why)
refused_so (query_fault.Q1 explore) h = refl
refused_so (query_fault.Q2 user) h = refl
refused_so query_fault.Q3 h = refl
refused_so (query_fault.Q4 name) h = refl
refused_so (query_fault.Q5 field attribute) h = refl
refused_so (query_fault.Q6 field place) h = refl
refused_so (query_fault.Q7 measure) h = refl
refused_so (query_fault.Q8 limit) h = refl
refused_so query_fault.NoMemory h = h

by_answer : (x : Explore) (b : Bound) (visited : ℕ) (a : Answer) → FailsBy IsRefusal (told_by x b visited a)
by_answer x b visited (answer.Table rows complete) = tt
by_answer x b visited (answer.Duplicate measure key) = refl

over_sources : (x : Explore) (s : Sources) (b : Bound) → FailsBy IsRefusal (told_over x s b)
over_sources x s b =
    fails_if IsRefusal (nat_lt 1000000 (length (visible_rows x s b))) (Err ask.Q10) (told_by x b (length (visible_rows x s b)) (answer_of x s b)) refl (by_answer x b (length (visible_rows x s b)) (answer_of x s b))

with_name : (m : Model) (csv : Bool) (number : ℕ) (r : Result Told AskFault) → FailsBy IsRefusal r → FailsBy IsRefusal (named m csv number r)
with_name m csv number (Ok told) h = tt
with_name m csv number (Err why) h = h

told_refusal : (m : Model) (now : ℤ) (stored : List Rows) (b : Bound) (route : RouteFrom) → FailsBy IsRefusal (told_of m now stored b route)
told_refusal m now stored b (from.Rollup r) =
    by_answer (explore_at (placed_model now m) b.explore) b 0 (answer_of (explore_at (placed_model now m) b.explore) (sources_over m stored) b)
told_refusal m now stored b (from.Build g) = over_sources (explore_at (placed_model now m) b.explore) (sources_over m stored) b
told_refusal m now stored b from.Current = over_sources (explore_at (placed_model now m) b.explore) (sources_over m stored) b

pub replied_so : (e : Standing) (past : List State) (now : ℤ) (csv : Bool) (r : Result Bound QueryFault) → bodies_read.IsTold r → FailsBy IsRefusal (replied e past now csv r)
replied_so e past now csv (Err why) h = refused_so why h
replied_so e past now csv (Ok b) h =
    with_name e.model csv (routed e b).number (told_of e.model now (tables_at (states_of e past) (routed e b).number) b (routed e b).from)
    (told_refusal e.model now (tables_at (states_of e past) (routed e b).number) b (routed e b).from)
