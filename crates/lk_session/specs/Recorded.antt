-- A server of a history, and its sessions. (lookd)
use Rattle.std.specs.Prelude.{◌≡◌, ℕ, nat_eq, if◌then◌else◌, List, ◌∷◌, Option}
use Rattle.lk_types.specs.declared.answer.Reply.{Reply}
use Rattle.lk_state.specs.States.{State}
use Rattle.lk_edition.specs.Histories.{Stands}
use Rattle.lk_edition.specs.Standings.{Standing}
use Rattle.lk_http.specs.Items.{Item}
use Rattle.lk_turns.specs.Doings.{Doing}
use Rattle.lk_turns.specs.Runs.{IsSession}
use Rattle.lk_turns.specs.declared.ended.Ended.{Ended}
use Rattle.lk_session.specs.Servers.{ItemDoes, Server, by_history}

-- a server, and the states before its edition's, the newest first
pub record Recorded : Type 0 where
  pub server : Server
  pub past : List State

abbrev pub recorded : Server → List State → Recorded
recorded s past = record { server = s; past = past }

-- the states before an edition that takes the place of another: where it has another number, the state of that one is the newest
abbrev pub past_after : Standing → Standing → List State → List State
past_after e e' past = if nat_eq e'.state.number e.state.number then past else e.state ∷ past

-- a query is replied by the history, and the history goes on with each load and each check that is accepted
abbrev pub RecordedDoes : Doing Recorded
RecordedDoes h item reply h' =
    ItemDoes (by_history h.past) h.server item reply h'.server × (h'.past ≡ past_after h.server.standing h'.server.standing h.past)

-- a session of a server whose edition is that of a history, to a server whose edition is that of the history as it went on
pub record IsRecorded (s : Server) (past : List State) (bytes : List ℕ) (held held' : Option (List ℕ)) (s' : Server) (left' : Option (List ℕ)) (how : Ended) : Type 0 where
  pub after : List State
  pub stands : Stands s'.standing after
  pub session : IsSession RecordedDoes (recorded s past) bytes held held' (recorded s' after) left' how
