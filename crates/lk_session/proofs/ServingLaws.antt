-- What each reply to a request has: a status that is written, and 503 only where the store failed.
use Rattle.std.proofs.Common.{◌≡◌, ◌∙◌, ◌==◌, ◌||◌, ℕ, Bool, true, false, List, [], ◌∷◌, refl, sym, ap, subst, inl, inr}
use Rattle.std.specs.Prelude.{ℤ, ◌+◌, nat_lt, ◌⊎◌, ⊤, if◌then◌else◌, Result, Ok, Err, Option, Some, None}
use Rattle.lk_io.specs.Causes.{Rose}
use Rattle.lk_types.specs.declared.answer.Reply.{Reply}
use Rattle.lk_types.specs.declared.bound.Bound.{Bound}
use Rattle.lk_types.specs.declared.model.Model.{Model}
use Rattle.lk_semantics.specs.Derived.{explore_at}
use Rattle.lk_table.specs.Contents.{rows_of_each}
use Rattle.lk_table.specs.declared.fault.BatchFault.{BatchFault}
use Rattle.lk_load.specs.Loading.{LoadedTable}
use Rattle.lk_rollup.specs.declared.fault.BuildFault.{BuildFault}
use Rattle.lk_rollup.specs.declared.fault.BuildFault.TheVariants as build
use Rattle.lk_keeps.specs.Anew.{kept_anew}
use Rattle.lk_keeps.specs.Keeps.{Keeps}
use Rattle.lk_ledger.specs.declared.kept.KeptId.{KeptId}
use Rattle.lk_body.specs.declared.fault.QueryFault.{QueryFault}
use Rattle.lk_ask.specs.declared.fault.AskFault.{AskFault}
use Rattle.lk_ask.specs.declared.fault.AskFault.TheVariants as ask
use Rattle.lk_ask.specs.declared.told.Told.{Told}
use Rattle.lk_reply.specs.Statuses.{answer_reply, refusal_reply, status_of}
use Rattle.lk_command_reply.specs.Refusals.{check_refusal, check_status, load_refusal, load_status, unsaved_reply}
use Rattle.lk_command_reply.specs.declared.fault.CheckFault.{CheckFault}
use Rattle.lk_command_reply.specs.declared.fault.CheckFault.TheVariants as check
use Rattle.lk_command_reply.specs.declared.fault.LoadFault.{LoadFault}
use Rattle.lk_command_reply.specs.declared.fault.LoadFault.TheVariants as load
use Rattle.lk_state.specs.States.{State}
use Rattle.lk_state.specs.Tables.{table_named}
use Rattle.lk_edition.specs.Checks.{check_planned, groups_triggered, over_keeps, over_triggered}
use Rattle.lk_edition.specs.Histories.{states_of}
use Rattle.lk_edition.specs.Loads.{into_table, is_loader, load_planned, over_batch, planned, unless_kept}
use Rattle.lk_edition.specs.Plans.{Planned}
use Rattle.lk_edition.specs.Standings.{Standing}
use Rattle.lk_edition.specs.declared.call.LoadCall.{LoadCall}
use Rattle.lk_edition.specs.declared.plan.CheckPlan.{CheckPlan}
use Rattle.lk_edition.specs.declared.plan.CheckPlan.TheVariants.{New as new_check, Nothing}
use Rattle.lk_edition.specs.declared.plan.LoadPlan.{LoadPlan}
use Rattle.lk_edition.specs.declared.plan.LoadPlan.TheVariants.{Kept as kept_plan, New}
use Rattle.lk_answer.specs.Answers.{answered, named, told_where}
use Rattle.lk_answer.specs.Replies.{replied, tables_at, told_of}
use Rattle.lk_answer.specs.Routes.{routed}
use Rattle.lk_http.specs.Replies.{is_status}
use Rattle.lk_http.specs.declared.request.Request.{Request}
use Rattle.lk_http.specs.declared.request.Target.{Target}
use Rattle.lk_http.specs.declared.request.Target.TheVariants as target
use Rattle.lk_session.specs.Servers.{CheckDoes, IsCommitted, IsQueried, LoadDoes, Serves, Store, TargetDoes, Telling, Tells, by_edition, by_history, call_of}

-- ---- statuses

-- a status that is written, and is not that of a store that failed
abbrev pub IsPlain : ℕ → Type 0
IsPlain status = (is_status status ≡ true) × ((status == 503) ≡ false)

ask_status : (fault : AskFault) → IsPlain (status_of fault)
ask_status (ask.Q1 explore) = (refl, refl)
ask_status (ask.Q2 user) = (refl, refl)
ask_status ask.Q3 = (refl, refl)
ask_status (ask.Q4 field) = (refl, refl)
ask_status (ask.Q5 field attribute) = (refl, refl)
ask_status (ask.Q6 field place) = (refl, refl)
ask_status (ask.Q7 measure) = (refl, refl)
ask_status (ask.Q8 limit) = (refl, refl)
ask_status (ask.Q9 measure key) = (refl, refl)
ask_status ask.Q10 = (refl, refl)
ask_status ask.NoMemory = (refl, refl)

load_status_is : (fault : LoadFault) → IsPlain (load_status fault)
load_status_is (load.L1 user) = (refl, refl)
load_status_is (load.L2 table) = (refl, refl)
load_status_is (load.L3 row column) = (refl, refl)
load_status_is (load.L4 key) = (refl, refl)
load_status_is (load.L5 row) = (refl, refl)
load_status_is load.L6 = (refl, refl)
load_status_is load.NoMemory = (refl, refl)

check_status_is : (fault : CheckFault) → IsPlain (check_status fault)
check_status_is (check.G1 user) = (refl, refl)
check_status_is (check.G2 table) = (refl, refl)
check_status_is check.NoMemory = (refl, refl)

-- a reply that is another has its status
same_status : (reply other : Reply) → reply ≡ other → IsPlain other.status → IsPlain reply.status
same_status reply other e h = subst (λ (r : Reply). IsPlain r.status) (sym e) h

-- ---- queries

named_plain : (m : Model) (csv : Bool) (number : ℕ) (told : Result Told AskFault) (reply : Reply) → Ok reply ≡ named m csv number told → IsPlain reply.status
named_plain m csv number (Err fault) reply is = absurd (cc is)
named_plain m csv number (Ok told) reply is =
    same_status reply (answer_reply (csv || told.bound.csv) (explore_at m told.bound.explore) told number) (cc is) (refl, refl)

answered_plain : (e : Standing) (now : ℤ) (bound : Result Bound QueryFault) (reply : Reply) → Ok reply ≡ answered e now false bound → IsPlain reply.status
answered_plain e now (Err fault) reply is = absurd (cc is)
answered_plain e now (Ok b) reply is =
    named_plain e.model false (routed e b).number (told_where e now b (routed e b).from) reply is

replied_plain : (e : Standing) (past : List State) (now : ℤ) (bound : Result Bound QueryFault) (reply : Reply) → Ok reply ≡ replied e past now false bound
    → IsPlain reply.status
replied_plain e past now (Err fault) reply is = absurd (cc is)
replied_plain e past now (Ok b) reply is =
    named_plain e.model false (routed e b).number (told_of e.model now (tables_at (states_of e past) (routed e b).number) b (routed e b).from) reply is

-- what is told by it has a plain status
abbrev pub IsPlainTelling : Telling → Type 0
IsPlainTelling IsTold = (e : Standing) (user explore body : List ℕ) (now : ℤ) (reply : Reply) → IsTold e user explore body now (Ok reply) → IsPlain reply.status

pub edition_plain : IsPlainTelling by_edition
edition_plain e user explore body now reply is = answered_plain e now is.bound reply is.is

pub history_plain : (past : List State) → IsPlainTelling (by_history past)
history_plain past e user explore body now reply is = replied_plain e past now is.bound reply is.is

told_plain : (told : Result Reply AskFault) (reply : Reply) → ((answer : Reply) → told ≡ Ok answer → IsPlain answer.status) → Tells told reply → IsPlain reply.status
told_plain (Ok answer) reply h same = same_status reply answer same (h answer refl)
told_plain (Err fault) reply h tells = same_status reply (refusal_reply fault) tells.1 (ask_status fault)

queried_plain : (IsTold : Telling) → IsPlainTelling IsTold → (e : Standing) (user explore body : List ℕ) (now : ℤ) (reply : Reply)
    → IsQueried IsTold e user explore body now reply → IsPlain reply.status
queried_plain IsTold plain e user explore body now reply h =
    told_plain h.told reply (λ answer is. plain e user explore body now answer (subst (IsTold e user explore body now) is h.is)) h.tells

-- ---- loads

-- what holds of each plan: its reply is plain
abbrev HasPlain : Result LoadPlan LoadFault → Type 0
HasPlain (Err fault) = ⊤
HasPlain (Ok (kept_plan reply)) = IsPlain reply.status
HasPlain (Ok (New p)) = IsPlain p.reply.status

plain_unless : (p : Planned) (b : Bool) → IsPlain p.reply.status → HasPlain (if b then Err load.L6 else Ok (New p))
plain_unless p true h = tt
plain_unless p false h = h

plain_batch : (e : Standing) (call : LoadCall) (number : ℕ) (loaded : Result LoadedTable BatchFault) → HasPlain (over_batch e call number loaded)
plain_batch e call number (Err fault) = tt
plain_batch e call number (Ok loaded) = plain_unless (planned e call number loaded) _ (refl, refl)

plain_kept : (e : Standing) (call : LoadCall) (number : ℕ) (kept : Option KeptId) → HasPlain (unless_kept e call number kept)
plain_kept e call number (Some kept) = (refl, refl)
plain_kept e call number None = plain_batch e call number _

plain_table : (e : Standing) (call : LoadCall) (number : Option ℕ) → HasPlain (into_table e call number)
plain_table e call None = tt
plain_table e call (Some number) = plain_kept e call number _

plain_loader : (e : Standing) (call : LoadCall) (b : Bool) → HasPlain (if b then into_table e call (table_named e.model.schema.tables call.table) else Err (load.L1 call.user))
plain_loader e call true = plain_table e call _
plain_loader e call false = tt

plan_plain : (e : Standing) (call : LoadCall) → HasPlain (load_planned e call)
plan_plain e call = plain_loader e call (is_loader e.users call.user)

abbrev pub IsUnsaved : Reply → Store → Store → Type 0
IsUnsaved reply store store' = (reply ≡ unsaved_reply) × Rose store.faults store'.faults

-- the reply to a commit is plain where the plan's is, unless the store failed
committed_plain : (e : Standing) (p : Planned) (reply : Reply) (e' : Standing) (store store' : Store)
    → IsPlain p.reply.status → IsCommitted e p reply e' store store' → IsPlain reply.status ⊎ IsUnsaved reply store store'
committed_plain e p reply e' store store' plain (inl does) = inl (same_status reply p.reply does.0 plain)
committed_plain e p reply e' store store' plain (inr does) = inr (does.0, does.2)

-- the reply to a load is plain, unless the store failed
load_plain : (e : Standing) (plan : Result LoadPlan LoadFault) (reply : Reply) (e' : Standing) (store store' : Store)
    → HasPlain plan → LoadDoes e plan reply e' store store' → IsPlain reply.status ⊎ IsUnsaved reply store store'
load_plain e (Err fault) reply e' store store' plain does = inl (same_status reply (load_refusal fault) does.1 (load_status_is fault))
load_plain e (Ok (kept_plan kept)) reply e' store store' plain does = inl (same_status reply kept does.0 plain)
load_plain e (Ok (New p)) reply e' store store' plain does = committed_plain e p reply e' store store' plain does

-- ---- checks

abbrev HasPlainCheck : Result CheckPlan CheckFault → Type 0
HasPlainCheck (Err fault) = ⊤
HasPlainCheck (Ok (Nothing reply)) = IsPlain reply.status
HasPlainCheck (Ok (new_check p)) = IsPlain p.reply.status

plain_keeps : (e : Standing) (groups : List ℕ) (now : ℤ) (keeps : Result Keeps BuildFault) → HasPlainCheck (over_keeps e groups now keeps)
plain_keeps e groups now (Err (build.G2 name)) = tt
plain_keeps e groups now (Err build.NoMemory) = tt
plain_keeps e groups now (Ok keeps) = (refl, refl)

plain_number : (b : Bool) (plan : Result CheckPlan CheckFault) → HasPlainCheck plan → HasPlainCheck (if b then Err (check.G2 []) else plan)
plain_number true plan h = tt
plain_number false plan h = h

plain_triggered : (e : Standing) (now : ℤ) (groups : List ℕ) → HasPlainCheck (over_triggered e now groups)
plain_triggered e now [] = (refl, refl)
plain_triggered e now (g ∷ groups) =
    let keeps = kept_anew e.model (g ∷ groups) (rows_of_each e.state.tables) e.keeps in
    plain_number (nat_lt 9223372036854775807 (e.state.number + 1)) (over_keeps e (g ∷ groups) now keeps) (plain_keeps e (g ∷ groups) now keeps)

plain_checker : (b : Bool) (user : List ℕ) (plan : Result CheckPlan CheckFault) → HasPlainCheck plan → HasPlainCheck (if b then plan else Err (check.G1 user))
plain_checker true user plan h = h
plain_checker false user plan h = tt

checked_plain : (e : Standing) (user : List ℕ) (now : ℤ) → HasPlainCheck (check_planned e user now)
checked_plain e user now = plain_checker (is_loader e.users user) user (over_triggered e now (groups_triggered e now)) (plain_triggered e now (groups_triggered e now))

-- the reply to a check is plain, unless the store failed
check_plain : (e : Standing) (plan : Result CheckPlan CheckFault) (reply : Reply) (e' : Standing) (store store' : Store)
    → HasPlainCheck plan → CheckDoes e plan reply e' store store' → IsPlain reply.status ⊎ IsUnsaved reply store store'
check_plain e (Err fault) reply e' store store' plain does = inl (same_status reply (check_refusal fault) does.1 (check_status_is fault))
check_plain e (Ok (Nothing unbuilt)) reply e' store store' plain does = inl (same_status reply unbuilt does.0 plain)
check_plain e (Ok (new_check p)) reply e' store store' plain does = committed_plain e p reply e' store store' plain does

-- ---- requests

pub target_plain : (IsTold : Telling) → IsPlainTelling IsTold → (e : Standing) (now : ℤ) (request : Request) (t : Target) (reply : Reply) (e' : Standing) (store store' : Store)
    → TargetDoes IsTold e now request t reply e' store store' → IsPlain reply.status ⊎ IsUnsaved reply store store'
target_plain IsTold plain e now request (target.Query explore) reply e' store store' does = inl (queried_plain IsTold plain e request.user explore request.body now reply does.0)
target_plain IsTold plain e now request (target.Load table replace id) reply e' store store' does =
    load_plain e (load_planned e (call_of request table replace id)) reply e' store store' (plan_plain e (call_of request table replace id)) does
target_plain IsTold plain e now request target.Check reply e' store store' does =
    check_plain e (check_planned e request.user now) reply e' store store' (checked_plain e request.user now) does

written : (reply : Reply) (store store' : Store) → IsPlain reply.status ⊎ IsUnsaved reply store store' → is_status reply.status ≡ true
written reply store store' (inl plain) = plain.0
written reply store store' (inr failed) = ap (λ (r : Reply). is_status r.status) failed.0

-- a reply to a request has a status that is written
pub served_status : (e : Standing) (now : ℤ) (request : Request) (reply : Reply) (e' : Standing) (store store' : Store)
    → Serves by_edition e now request reply e' store store' → is_status reply.status ≡ true
served_status e now request reply e' store store' h =
    written reply store store' (target_plain by_edition edition_plain e now request request.target reply e' store store' h)
