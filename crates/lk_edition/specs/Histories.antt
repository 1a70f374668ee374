-- A server's history: the state of its edition, and the states before it, the newest first. (lookd)
use Rattle.std.specs.Prelude.{◌≡◌, ℕ, ◌+◌, nat_eq, Bool, true, false, if◌then◌else◌, List, [], ◌∷◌, length}
use Rattle.std.specs.List.{All, list_all, list_any}
use Rattle.lk_types.specs.Tables.{Rows}
use Rattle.lk_types.specs.declared.model.Model.{Model}
use Rattle.lk_semantics.specs.Resolved.{IsResolved}
use Rattle.lk_table.specs.Contents.{rows_of_each}
use Rattle.lk_trigger.specs.Builds.{build_at}
use Rattle.lk_trigger.specs.declared.build.Build.{Build}
use Rattle.lk_keeps.specs.Keeps.{keeps_of}
use Rattle.lk_state.specs.Limits.{is_over}
use Rattle.lk_state.specs.States.{AreTables, State}
use Rattle.lk_edition.specs.Standings.{Standing}

abbrev pub states_of : Standing → List State → List State
states_of e past = e.state ∷ past

-- the numbers of the states are consecutive
abbrev pub AreConsecutive : List State → Type 0
AreConsecutive [] = Unit {0}
AreConsecutive (s ∷ []) = Unit {0}
AreConsecutive (s ∷ t ∷ states) = (s.number ≡ t.number + 1) × AreConsecutive (t ∷ states)

-- a state of the model's tables within the limits
pub record IsState (m : Model) (s : State) : Type 0 where
  pub tables : AreTables m.schema.tables s.tables
  pub small : is_over s ≡ false

-- a state before any
abbrev pub no_state : State
no_state = record { number = 0; tables = []; ids = [] }

-- the state of a number among some
abbrev pub numbered : List State → ℕ → State
numbered [] n = no_state
numbered (s ∷ states) n = if nat_eq s.number n then s else numbered states n

-- a datagroup was built at one of the states
abbrev pub is_built_at : List State → Build → Bool
is_built_at states build = list_any (λ s. nat_eq s.number build.number) states

-- the stored tables that a datagroup was built over
abbrev pub tables_built : Standing → List State → ℕ → List Rows
tables_built e past g = rows_of_each (numbered (states_of e past) (build_at e.builds g).number).tables

-- the edition of a resolved model is that of a history: each datagroup has a build, which was at one of its states, and what is kept is what that state's tables give
pub record Stands (e : Standing) (past : List State) : Type 0 where
  pub resolved : IsResolved e.model
  pub numbers : AreConsecutive (states_of e past)
  pub states : All (IsState e.model) (states_of e past)
  pub each : length e.builds ≡ length e.model.datagroups
  pub built : list_all (is_built_at (states_of e past)) e.builds ≡ true
  pub keeps : e.keeps ≡ keeps_of e.model (tables_built e past)
