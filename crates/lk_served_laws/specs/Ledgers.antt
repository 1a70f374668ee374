-- The ledger of a server: the loads that it has accepted, by their ids, and what a session does with them. (lookd)
use Rattle.std.specs.Prelude.{◌≡◌, ◌⊎◌, ℕ, Bool, true, List, [], ◌∷◌, ◌++◌, Some, None, Ok, Err}
use Rattle.lk_types.specs.declared.answer.Reply.{Reply}
use Rattle.lk_ledger.specs.declared.kept.KeptId.{KeptId}
use Rattle.lk_command_reply.specs.Replies.{load_reply}
use Rattle.lk_state.specs.Tables.{table_named}
use Rattle.lk_edition.specs.Loads.{is_loader, kept_load}
use Rattle.lk_edition.specs.Standings.{Standing}
use Rattle.lk_http.specs.Items.{Item}
use Rattle.lk_http.specs.Replies.{memory_reply}
use Rattle.lk_http.specs.declared.request.Got.TheVariants.{End, Req}
use Rattle.lk_http.specs.declared.request.Request.{Request}
use Rattle.lk_http.specs.declared.request.Target.TheVariants as target
use Rattle.lk_turns.specs.Doings.{Doing}
use Rattle.lk_session.specs.Recorded.{Recorded, RecordedDoes}
use Rattle.lk_session.specs.Servers.{Server}

-- each accepted load, with what its reply says
abbrev pub ledger_of : Server → List KeptId
ledger_of s = s.standing.state.ids

abbrev pub reply_of : KeptId → Reply
reply_of load = load_reply load.rows load.number

-- a request to load under an id into a table of the schema, by a user who may load
pub record IsLoad (e : Standing) (request : Request) (id : List ℕ) : Type 0 where
  pub table : List ℕ
  pub replace : Bool
  pub target_is : request.target ≡ target.Load table replace id
  pub loader : is_loader e.users request.user ≡ true
  pub number : ℕ
  pub named : table_named e.model.schema.tables table ≡ Some number

abbrev pub AsksToLoad : Standing → Item → List ℕ → Type 0
AsksToLoad e (Ok End) id = ⊥
AsksToLoad e (Ok (Req request)) id = IsLoad e request id
AsksToLoad e (Err fault) id = ⊥

-- neither the server's edition nor what its store holds is another
pub record IsUnmoved (s s' : Server) : Type 0 where
  pub standing : s'.standing ≡ s.standing
  pub held : s'.store.held ≡ s.store.held

-- where the item is a load of this id, it changes nothing, and gets the reply of the kept one, or that memory was refused
abbrev pub Repeats : List ℕ → KeptId → Server → Item → Reply → Server → Type 0
Repeats id load s item reply s' =
    AsksToLoad s.standing item id → ((reply ≡ reply_of load) ⊎ (reply ≡ memory_reply)) × IsUnmoved s s'

-- the item is a load whose id the ledger did not have; it stands behind the others now, and its reply is what is kept of it
pub record Enters (s : Server) (item : Item) (reply : Reply) (s' : Server) : Type 0 where
  pub load : KeptId
  pub asks : AsksToLoad s.standing item load.id
  pub new : kept_load (ledger_of s) load.id ≡ None
  pub behind : ledger_of s' ≡ ledger_of s ++ load ∷ []
  pub told : reply ≡ reply_of load

-- a load whose id the ledger has is repeated, and the ledger stays, or a load enters it
pub record KeepsLedger (s : Server) (item : Item) (reply : Reply) (s' : Server) : Type 0 where
  pub repeats : (id : List ℕ) (load : KeptId) → kept_load (ledger_of s) id ≡ Some load → Repeats id load s item reply s'
  pub grows : (ledger_of s' ≡ ledger_of s) ⊎ Enters s item reply s'

-- what an item does on a server of a history, of which this holds besides
abbrev pub DoesSo : (Server → Item → Reply → Server → Type 0) → Doing Recorded
DoesSo Holds h item reply h' = RecordedDoes h item reply h' × Holds h.server item reply h'.server
