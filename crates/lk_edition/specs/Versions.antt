-- The editions of a server that readers see, one behind another, and the history in such a list. (lookd)
use Rattle.std.specs.Prelude.{◌≡◌, ◌⊎◌, nat_eq, if◌then◌else◌, List, [], ◌∷◌}
use Rattle.lk_state.specs.States.{State}
use Rattle.lk_edition.specs.Histories.{Stands}
use Rattle.lk_edition.specs.Offices.{IsPlanned}
use Rattle.lk_edition.specs.Plans.{Planned}
use Rattle.lk_edition.specs.Standings.{Standing}

-- the first edition: that of a history of one state
abbrev pub Opens : Standing → Type 0
Opens e = Stands e []

-- the edition of a load or a check that was planned on the one before it
pub record IsNext (e e' : Standing) : Type 0 where
  pub plan : Planned
  pub planned : IsPlanned e plan
  pub is : e' ≡ plan.standing

-- behind an edition stands the same once more, or that of a load or a check
abbrev pub Follows : Standing → Standing → Type 0
Follows e e' = (e' ≡ e) ⊎ IsNext e e'

-- the states before an edition that takes the place of another: where it has another number, the state of that one is the newest
abbrev pub past_after : Standing → Standing → List State → List State
past_after e e' past = if nat_eq e'.state.number e.state.number then past else e.state ∷ past

-- the states before the last of some editions that stand behind one with these states before it
abbrev pub past_along : Standing → List State → List Standing → List State
past_along e past [] = past
past_along e past (e' ∷ editions) = past_along e' (past_after e e' past) editions

-- the states before the last of some editions, the newest first, each number once
abbrev pub past_of : List Standing → List State
past_of [] = []
past_of (e ∷ editions) = past_along e [] editions
