-- A request is answered with 503 only where a call of the store failed.
use Rattle.std.proofs.Common.{◌≡◌, ◌≤◌, ◌==◌, ℕ, false, List, inl, inr}
use Rattle.std.specs.Prelude.{ℤ, ◌⊎◌, Ok, Err, Result}
use Rattle.lk_io.specs.Causes.{Rose}
use Rattle.lk_types.specs.declared.answer.Reply.{Reply}
use Rattle.lk_command_reply.specs.declared.fault.CheckFault.{CheckFault}
use Rattle.lk_command_reply.specs.declared.fault.LoadFault.{LoadFault}
use Rattle.lk_edition.specs.Checks.{check_planned}
use Rattle.lk_edition.specs.Loads.{load_planned}
use Rattle.lk_edition.specs.Plans.{Planned}
use Rattle.lk_edition.specs.Standings.{Standing}
use Rattle.lk_edition.specs.declared.plan.CheckPlan.{CheckPlan}
use Rattle.lk_edition.specs.declared.plan.CheckPlan.TheVariants.{New as new_check, Nothing}
use Rattle.lk_edition.specs.declared.plan.LoadPlan.{LoadPlan}
use Rattle.lk_edition.specs.declared.plan.LoadPlan.TheVariants.{Kept as kept_plan, New}
use Rattle.lk_http.specs.Items.{Item}
use Rattle.lk_http.specs.declared.request.Request.{Request}
use Rattle.lk_http.specs.declared.request.Target.{Target}
use Rattle.lk_http.specs.declared.request.Target.TheVariants as target
use Rattle.lk_turns.specs.Doings.{Sent}
use Rattle.lk_turns.specs.Runs.{IsRun, failures}
use Rattle.lk_turns.specs.declared.ended.Ended.{Ended}
use Rattle.lk_turns.proofs.FailureLaws.{Counts, failed, item_counts, run_counts}
use Rattle.lk_session.specs.Recorded.{Recorded, RecordedDoes}
use Rattle.lk_session.specs.Servers.{CheckDoes, IsCommitted, IsForgotten, ItemDoes, LoadDoes, RequestDoes, Server, Store, TargetDoes, Telling, by_history, call_of}
use Rattle.lk_session.proofs.ServingLaws.{IsPlain, IsPlainTelling, IsUnsaved, history_plain, target_plain}

-- ---- counts never fall

committed_later : (e : Standing) (p : Planned) (reply : Reply) (e' : Standing) (store store' : Store)
    → IsCommitted e p reply e' store store' → store.faults ≤ store'.faults
committed_later e p reply e' store store' (inl does) = does.2.later
committed_later e p reply e' store store' (inr does) = does.1.saves.later

load_later : (e : Standing) (plan : Result LoadPlan LoadFault) (reply : Reply) (e' : Standing) (store store' : Store)
    → LoadDoes e plan reply e' store store' → store.faults ≤ store'.faults
load_later e (Err fault) reply e' store store' does = does.2.saves.later
load_later e (Ok (kept_plan kept)) reply e' store store' does = does.1.saves.later
load_later e (Ok (New p)) reply e' store store' does = committed_later e p reply e' store store' does

check_later : (e : Standing) (plan : Result CheckPlan CheckFault) (reply : Reply) (e' : Standing) (store store' : Store)
    → CheckDoes e plan reply e' store store' → store.faults ≤ store'.faults
check_later e (Err fault) reply e' store store' does = does.2.saves.later
check_later e (Ok (Nothing unbuilt)) reply e' store store' does = does.1.saves.later
check_later e (Ok (new_check p)) reply e' store store' does = committed_later e p reply e' store store' does

target_later : (IsTold : Telling) (e : Standing) (now : ℤ) (request : Request) (t : Target) (reply : Reply) (e' : Standing) (store store' : Store)
    → TargetDoes IsTold e now request t reply e' store store' → store.faults ≤ store'.faults
target_later IsTold e now request (target.Query explore) reply e' store store' does = does.1.saves.later
target_later IsTold e now request (target.Load table replace id) reply e' store store' does =
    load_later e (load_planned e (call_of request table replace id)) reply e' store store' does
target_later IsTold e now request target.Check reply e' store store' does = check_later e (check_planned e request.user now) reply e' store store' does

-- ---- a turn

-- a reply is plain, or the store's count rose
plain_or_rose : (reply : Reply) (store store' : Store) → IsPlain reply.status ⊎ IsUnsaved reply store store' → ((reply.status == 503) ≡ false) ⊎ Rose store.faults store'.faults
plain_or_rose reply store store' (inl plain) = inl plain.1
plain_or_rose reply store store' (inr unsaved) = inr unsaved.1

module _ (IsTold : Telling) (plain : IsPlainTelling IsTold) where
  request_later : (s : Server) (request : Request) (reply : Reply) (s' : Server) → RequestDoes IsTold s request reply s' → s.store.faults ≤ s'.store.faults
  request_later s request reply s' does = target_later IsTold s.standing does.now request request.target reply s'.standing s.store s'.store does.serves

  request_rose : (s : Server) (request : Request) (reply : Reply) (s' : Server) → RequestDoes IsTold s request reply s'
      → ((reply.status == 503) ≡ false) ⊎ Rose s.store.faults s'.store.faults
  request_rose s request reply s' does = plain_or_rose reply s.store s'.store
      (target_plain IsTold plain s.standing does.now request request.target reply s'.standing s.store s'.store does.serves)

  -- an item of a server
  server_counts : (s : Server) (item : Item) (reply : Reply) (s' : Server) → ItemDoes IsTold s item reply s' → Counts s.store.faults (failed reply) s'.store.faults
  server_counts = item_counts (RequestDoes IsTold) IsForgotten (λ s. s.store.faults) request_later request_rose (λ s request s' forgotten. forgotten.stays.saves.later)

-- ---- a run

recorded_counts : (h : Recorded) (item : Item) (reply : Reply) (h' : Recorded) → RecordedDoes h item reply h'
    → Counts h.server.store.faults (failed reply) h'.server.store.faults
recorded_counts h item reply h' does = server_counts (by_history h.past) (history_plain h.past) h.server item reply h'.server does.0

-- as many calls of the store failed as replies say so
pub saves_count : (h h' : Recorded) (bytes rest : List ℕ) (sents : List Sent) (how : Ended)
    → IsRun RecordedDoes h bytes sents h' rest how → Counts h.server.store.faults (failures sents) h'.server.store.faults
saves_count = run_counts RecordedDoes (λ h. h.server.store.faults) recorded_counts
