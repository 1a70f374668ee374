-- When two callers of a body see the same. (lookd)
use Rattle.std.specs.Prelude.{◌≡◌, ℕ, ℤ, List, Result, Ok, Err}
use Rattle.lk_types.specs.declared.bound.Bound.{Bound}
use Rattle.lk_types.specs.declared.rows.Joined.{Joined}
use Rattle.lk_semantics.specs.Derived.{explore_at}
use Rattle.lk_semantics.specs.Rows.{visible_rows}
use Rattle.lk_route.specs.Routes.{built_numbers}
use Rattle.lk_keeps.specs.Keeps.{sources_over}
use Rattle.lk_body.specs.declared.fault.QueryFault.{QueryFault}
use Rattle.lk_query.specs.Bindings.{IsBodyBound}
use Rattle.lk_state.specs.States.{State}
use Rattle.lk_edition.specs.Histories.{states_of}
use Rattle.lk_edition.specs.Standings.{Standing}
use Rattle.lk_answer.specs.Replies.{tables_at}
use Rattle.lk_answer.specs.Routes.{routed}

-- the rows that a query's caller sees of the tables of the snapshot to which it is routed
abbrev pub seen : Standing → List State → Bound → List Joined
seen e past b = visible_rows (explore_at e.model b.explore) (sources_over e.model (tables_at (states_of e past) (routed e b).number)) b

-- both are refused, and alike, or both are bound and see the same rows
abbrev pub SeeAlike : Standing → List State → Result Bound QueryFault → Standing → List State → Result Bound QueryFault → Type 0
SeeAlike e past (Err fault) f later (Err other) = other ≡ fault
SeeAlike e past (Err fault) f later (Ok c) = ⊥
SeeAlike e past (Ok b) f later (Err other) = ⊥
SeeAlike e past (Ok b) f later (Ok c) = seen f later c ≡ seen e past b

-- on histories of one model, with the same last number and the same numbers of builds, two callers of a body at a moment see the same
pub record Agree (e : Standing) (past : List State) (user : List ℕ) (f : Standing) (later : List State) (other : List ℕ) (explore body : List ℕ) (now : ℤ) : Type 0 where
  pub model : f.model ≡ e.model
  pub number : f.state.number ≡ e.state.number
  pub builds : built_numbers f.builds ≡ built_numbers e.builds
  pub bound : Result Bound QueryFault
  pub is_bound : IsBodyBound e.model e.users user explore body now bound
  pub bound_other : Result Bound QueryFault
  pub is_bound_other : IsBodyBound f.model f.users other explore body now bound_other
  pub see : SeeAlike e past bound f later bound_other
