-- A server between two replies of a connection, and what the next item of the connection's bytes comes to. (lookd)
use Rattle.std.specs.Prelude.{◌≡◌, ◌⊎◌, ◌≤◌, ℕ, ℤ, Bool, false, List, [], ◌∷◌, Option, Some, IfSome, Result, Ok, Err, slice_get}
use Rattle.std.specs.Option.{option_map}
use Rattle.lk_io.specs.Causes.{Rose}
use Rattle.lk_io.specs.Moments.{later}
use Rattle.lk_val.specs.Years.{IsMomentInYears}
use Rattle.lk_types.specs.declared.answer.Reply.{Reply}
use Rattle.lk_ledger.specs.Saving.{Save, after_saves}
use Rattle.lk_ledger.specs.declared.kept.Kept.{Kept}
use Rattle.lk_ask.specs.Asks.{is_no_memory}
use Rattle.lk_ask.specs.declared.fault.AskFault.{AskFault}
use Rattle.lk_reply.specs.Statuses.{refusal_reply}
use Rattle.lk_command_reply.specs.Refusals.{check_refusal, load_refusal, unsaved_reply}
use Rattle.lk_command_reply.specs.declared.fault.CheckFault.{CheckFault}
use Rattle.lk_command_reply.specs.declared.fault.LoadFault.{LoadFault}
use Rattle.lk_state.specs.States.{State}
use Rattle.lk_edition.specs.Checks.{check_planned}
use Rattle.lk_edition.specs.Checks as checks
use Rattle.lk_edition.specs.Loads.{load_planned}
use Rattle.lk_edition.specs.Loads as loads
use Rattle.lk_edition.specs.Plans.{Planned}
use Rattle.lk_edition.specs.Standings.{Standing}
use Rattle.lk_edition.specs.declared.call.LoadCall.{LoadCall}
use Rattle.lk_edition.specs.declared.office.Office.{Office}
use Rattle.lk_edition.specs.declared.plan.CheckPlan.{CheckPlan}
use Rattle.lk_edition.specs.declared.plan.CheckPlan.TheVariants.{New as new_check, Nothing}
use Rattle.lk_edition.specs.declared.plan.LoadPlan.{LoadPlan}
use Rattle.lk_edition.specs.declared.plan.LoadPlan.TheVariants.{Kept as kept_plan, New}
use Rattle.lk_answer.specs.Answers.{IsAnswered}
use Rattle.lk_answer.specs.Replies.{IsReplied}
use Rattle.lk_http.specs.declared.request.Request.{Request}
use Rattle.lk_http.specs.declared.request.Target.{Target}
use Rattle.lk_http.specs.declared.request.Target.TheVariants as target
use Rattle.lk_turns.specs.Doings.{Doing}
use Rattle.lk_turns.specs.Doings as doings

-- the store of an office
abbrev pub keeper_in : {K : Type 0} → Office K → K
keeper_in office = office.keeper

-- what the store holds, as far as it tells, and how many of its calls failed
pub record Store : Type 0 where
  pub held : Option Kept
  pub faults : ℕ

abbrev pub store_of : Option Kept → ℕ → Store
store_of held faults = record { held = held; faults = faults }

-- the office's edition, its store, and the moments to come, as far as the clock tells
pub record Server : Type 0 where
  pub standing : Standing
  pub store : Store
  pub moments : Option (List ℤ)

abbrev pub server : Standing → Option Kept → ℕ → Option (List ℤ) → Server
server standing held faults moments =
    record { standing = standing; store = store_of held faults; moments = moments }

-- ---- what a request does: its reply, the edition after it, and the store

-- what the store holds after these saves, where it tells; how many of its calls failed never falls
pub record Saves (saves : List Save) (store store' : Store) : Type 0 where
  pub held : store'.held ≡ option_map (λ kept. after_saves kept saves) store.held
  pub later : store.faults ≤ store'.faults

-- nothing is changed and nothing saved
pub record Stays (e e' : Standing) (store store' : Store) : Type 0 where
  pub standing : e' ≡ e
  pub saves : Saves [] store store'

-- says of what the body of a caller over an explore comes to on an edition at a moment
abbrev pub Telling : Type 1
Telling = Standing → List ℕ → List ℕ → List ℕ → ℤ → Result Reply AskFault → Type 0

-- by what the edition has
abbrev pub by_edition : Telling
by_edition e user explore body now told = IsAnswered e user explore body now false told

-- by the history of the edition, these states before it: the answer names one snapshot, and holds over that snapshot's tables
abbrev pub by_history : List State → Telling
by_history past e user explore body now told = IsReplied e past user explore body now false told

-- the answer of a query, or its refusal
abbrev pub Tells : Result Reply AskFault → Reply → Type 0
Tells (Ok answer) reply = reply ≡ answer
Tells (Err fault) reply = (is_no_memory fault ≡ false) × (reply ≡ refusal_reply fault)

pub record IsQueried (IsTold : Telling) (e : Standing) (user explore body : List ℕ) (now : ℤ) (reply : Reply) : Type 0 where
  pub told : Result Reply AskFault
  pub is : IsTold e user explore body now told
  pub tells : Tells told reply

-- the edition is that of the plan, which is saved, or the store failed (K1) and nothing is changed
abbrev pub IsCommitted : Standing → Planned → Reply → Standing → Store → Store → Type 0
IsCommitted e p reply e' store store' =
    ((reply ≡ p.reply) × (e' ≡ p.standing) × Saves (p.save ∷ []) store store')
    ⊎ ((reply ≡ unsaved_reply) × Stays e e' store store' × Rose store.faults store'.faults)

-- an accepted load moves to the edition of its plan and is saved, or the store failed; a kept one changes nothing
abbrev pub LoadDoes : Standing → Result LoadPlan LoadFault → Reply → Standing → Store → Store → Type 0
LoadDoes e (Err fault) reply e' store store' =
    (loads.is_no_memory fault ≡ false) × (reply ≡ load_refusal fault) × Stays e e' store store'
LoadDoes e (Ok (kept_plan kept)) reply e' store store' = (reply ≡ kept) × Stays e e' store store'
LoadDoes e (Ok (New p)) reply e' store store' =
    IsCommitted e p reply e' store store'

-- a check that builds moves to the edition of its plan and is saved, or the store failed; where nothing triggers nothing is changed
abbrev pub CheckDoes : Standing → Result CheckPlan CheckFault → Reply → Standing → Store → Store → Type 0
CheckDoes e (Err fault) reply e' store store' =
    (checks.is_no_memory fault ≡ false) × (reply ≡ check_refusal fault) × Stays e e' store store'
CheckDoes e (Ok (Nothing unbuilt)) reply e' store store' = (reply ≡ unbuilt) × Stays e e' store store'
CheckDoes e (Ok (new_check p)) reply e' store store' = IsCommitted e p reply e' store store'

abbrev pub call_of : Request → List ℕ → Bool → List ℕ → LoadCall
call_of request table replace id =
    record { user = request.user; table = table; replace = replace; id = id; body = request.body }

abbrev pub TargetDoes : Telling → Standing → ℤ → Request → Target → Reply → Standing → Store → Store → Type 0
TargetDoes IsTold e now request (target.Query explore) reply e' store store' =
    IsQueried IsTold e request.user explore request.body now reply × Stays e e' store store'
TargetDoes IsTold e now request (target.Load table replace id) reply e' store store' =
    LoadDoes e (load_planned e (call_of request table replace id)) reply e' store store'
TargetDoes IsTold e now request target.Check reply e' store store' =
    CheckDoes e (check_planned e request.user now) reply e' store store'

-- what a request at a moment does
abbrev pub Serves : Telling → Standing → ℤ → Request → Reply → Standing → Store → Store → Type 0
Serves IsTold e now request reply e' store store' = TargetDoes IsTold e now request request.target reply e' store store'

-- ---- what an item comes to

-- a request takes the next moment, and does what its target says
pub record RequestDoes (IsTold : Telling) (s : Server) (request : Request) (reply : Reply) (s' : Server) : Type 0 where
  pub now : ℤ
  pub years : IsMomentInYears now
  pub first : IfSome s.moments (λ told. slice_get told 0 ≡ Some now)
  pub moments : s'.moments ≡ option_map later s.moments
  pub serves : Serves IsTold s.standing now request reply s'.standing s.store s'.store

-- memory was refused: nothing is changed but that the next moment may have been taken
pub record IsForgotten (s : Server) (request : Request) (s' : Server) : Type 0 where
  pub stays : Stays s.standing s'.standing s.store s'.store
  pub moments : (s'.moments ≡ s.moments) ⊎ (s'.moments ≡ option_map later s.moments)

-- a request does that, or memory was refused for it; a refusal changes nothing
abbrev pub ItemDoes : Telling → Doing Server
ItemDoes IsTold = doings.ItemDoes (RequestDoes IsTold) IsForgotten
