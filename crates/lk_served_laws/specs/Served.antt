-- What a run of `script` over a store that tells its content comes to, and what the next run finds. (lookd)
use Rattle.std.specs.Prelude.{◌≡◌, ℕ, ℤ, List, [], codes, Some, Result, Ok, Err, IfOk}
use Rattle.lk_io.specs.declared.files.File.{File}
use Rattle.lk_types.specs.declared.schema.TableDef.{TableDef}
use Rattle.lk_include.specs.Gathering.{file_line}
use Rattle.lk_ledger.specs.Saving.{Save, after_saves}
use Rattle.lk_ledger.specs.declared.kept.Kept.{Kept}
use Rattle.lk_seed.specs.Seeds.{seeds_of}
use Rattle.lk_edition.specs.Standings.{Standing}
use Rattle.lk_kept.specs.Accepted.{AreAccepted, Step}
use Rattle.lk_turns.specs.Doings.{Sent}
use Rattle.lk_turns.specs.Runs.{GoesOut, IsRun}
use Rattle.lk_turns.specs.declared.ended.Ended.{Ended}
use Rattle.lk_session.specs.Recorded.{Recorded}
use Rattle.lk_serve.specs.Opened.{IsOpened, IsOpenedNext, numbered}
use Rattle.lk_serve.specs.Replies.{fault_reply}
use Rattle.lk_serve.specs.Runs.{next_moment}
use Rattle.lk_serve.specs.Scripts.{Outside, ended_code}
use Rattle.lk_serve.specs.declared.replies.Reply.{Reply}
use Rattle.lk_served_laws.specs.Ledgers.{DoesSo, KeepsLedger}

-- what a store hands over that holds this, and tells it
abbrev pub Just : Kept → Kept → Type 0
Just kept handed = handed ≡ kept

-- no table has a data file
abbrev pub HasNoData : List TableDef → List File → Type 0
HasNoData defs files = IfOk (seeds_of defs files) (λ found. numbered 0 found ≡ [])

-- the store has the server's number, and its ledger
pub record HasLedger (kept : Kept) (e : Standing) : Type 0 where
  pub number : kept.number ≡ e.state.number
  pub ids : kept.ids ≡ e.state.ids

-- an edition of the same model, users and state
pub record IsSameState (e e' : Standing) : Type 0 where
  pub model : e'.model ≡ e.model
  pub users : e'.users ≡ e.users
  pub state : e'.state ≡ e.state

-- what opens is such an edition, or nothing opens, since a build over that state is too large (G2)
abbrev pub ComesBack : Standing → Result Standing Reply → Type 0
ComesBack last (Ok e) = IsSameState last e
ComesBack last (Err line) = (name : List ℕ) × (line ≡ fault_reply (file_line (codes "G2") [] 0 name))

-- a session over the input from one edition to another, and from what the store held to what it holds, that keeps the ledger, whose replies are
-- what went out, and by which the run ended
pub record HasSession (e last : Standing) (bytes : List ℕ) (a b : Outside) (status : ℕ) : Type 0 where
  pub from : Recorded
  pub to : Recorded
  pub begins : from.server.standing ≡ e
  pub ends : to.server.standing ≡ last
  pub held_before : from.server.store.held ≡ a.kept
  pub held_after : to.server.store.held ≡ b.kept
  pub sents : List Sent
  pub rest : List ℕ
  pub how : Ended
  pub run : IsRun (DoesSo KeepsLedger) from bytes sents to rest how
  pub out : GoesOut how a.out b.out sents
  pub ended : status ≡ ended_code how

-- The server opened over what the store held, and went by loads and checks that were accepted one after the other to its last
-- edition; the store tells these behind what it held. Store and server have one ledger, before and after. Where no table has a data
-- file, each opening of the files over the store then has the last state.
pub record WasServed (files : List File) (kept : Kept) (bytes : List ℕ) (a b : Outside) (status : ℕ) : Type 0 where
  pub e : Standing
  pub last : Standing
  pub opened : IsOpenedNext files (Just kept) (next_moment a.moments) (Ok e)
  pub before : HasLedger kept e
  pub steps : List Step
  pub saves : List Save
  pub accepted : AreAccepted e steps saves last
  pub held : b.kept ≡ Some (after_saves kept saves)
  pub after : HasLedger (after_saves kept saves) last
  pub session : HasSession e last bytes a b status
  pub again : HasNoData e.model.schema.tables files → (moment : ℤ) (result : Result Standing Reply)
      → IsOpened files (Just (after_saves kept saves)) moment result → ComesBack last result
