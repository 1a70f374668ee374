-- A request does something at the next moment: it is replied, and leaves a server.
use Rattle.std.proofs.Common.{◌≡◌, ℕ, ℤ, ◌+◌, Bool, true, false, List, [], ◌∷◌, Option, Some, None, IfSome, Result, Ok, Err, refl, inl, slice_get, le_refl, if◌then◌else◌}
use Rattle.std.specs.Option.{option_map}
use Rattle.std.specs.Prelude.{nat_lt, pos}
use Rattle.lk_val.specs.Years.{IsMomentInYears}
use Rattle.lk_io.specs.Moments.{later}
use Rattle.lk_types.specs.Tables.{Rows}
use Rattle.lk_types.specs.declared.answer.Reply.{Reply}
use Rattle.lk_types.specs.declared.model.Model.{Model}
use Rattle.lk_schema.specs.declared.users.Users.{Users}
use Rattle.lk_table.specs.Contents.{rows_of_each}
use Rattle.lk_table.specs.declared.fault.BatchFault.{BatchFault}
use Rattle.lk_table.specs.declared.fault.BatchFault.TheVariants as batch
use Rattle.lk_load.specs.Loading.{LoadedTable, table_loaded}
use Rattle.lk_ledger.specs.Saving.{Save, after_saves}
use Rattle.lk_ledger.specs.declared.kept.Kept.{Kept}
use Rattle.lk_ledger.specs.declared.kept.KeptId.{KeptId}
use Rattle.lk_reply.specs.Statuses.{refusal_reply}
use Rattle.lk_command_reply.specs.Refusals.{check_refusal, load_refusal}
use Rattle.lk_command_reply.specs.declared.fault.CheckFault.{CheckFault}
use Rattle.lk_command_reply.specs.declared.fault.CheckFault.TheVariants as check_fault
use Rattle.lk_command_reply.specs.declared.fault.LoadFault.{LoadFault}
use Rattle.lk_command_reply.specs.declared.fault.LoadFault.TheVariants as load_fault
use Rattle.lk_keeps.specs.Anew.{keeps_anew, kept_anew, unless_large}
use Rattle.lk_keeps.specs.Keeps.{Keeps, sources_over}
use Rattle.lk_keeps.specs.Large.{large_builds}
use Rattle.lk_state.specs.Limits.{is_over}
use Rattle.lk_state.specs.States.{State}
use Rattle.lk_state.specs.Tables.{content_at, def_at, table_named}
use Rattle.lk_edition.specs.Checks as checks
use Rattle.lk_edition.specs.Checks.{check_planned, groups_triggered, over_keeps, over_triggered}
use Rattle.lk_edition.specs.Loads as loads
use Rattle.lk_edition.specs.Loads.{into_table, is_loader, kept_load, load_planned, over_batch, planned, unless_kept, unless_over}
use Rattle.lk_edition.specs.Plans.{Planned}
use Rattle.lk_edition.specs.Standings.{Standing}
use Rattle.lk_edition.specs.declared.call.LoadCall.{LoadCall}
use Rattle.lk_edition.specs.declared.plan.CheckPlan.{CheckPlan}
use Rattle.lk_edition.specs.declared.plan.CheckPlan.TheVariants as check_plan
use Rattle.lk_edition.specs.declared.plan.LoadPlan.{LoadPlan}
use Rattle.lk_edition.specs.declared.plan.LoadPlan.TheVariants as load_plan
use Rattle.lk_ask.specs.declared.fault.AskFault.{AskFault}
use Rattle.lk_answer.specs.Replies.{IsReplied, replied}
use Rattle.lk_http.specs.declared.request.Request.{Request}
use Rattle.lk_http.specs.declared.request.Target.{Target}
use Rattle.lk_http.specs.declared.request.Target.TheVariants as target
use Rattle.lk_session.specs.Servers.{CheckDoes, IsQueried, LoadDoes, Saves, Server, Stays, Store, TargetDoes, Tells, by_history, call_of}
use Rattle.lk_complete_laws.specs.Bodies.{IsBodyRead}
use Rattle.lk_complete_laws.specs.Holding.{HoldsOfSome}
use Rattle.lk_complete_laws.proofs.NotNot.{of_these, of_this}
use Rattle.lk_some_reply.specs.Requests.{HasMoment, IsServed}
use Rattle.lk_some_reply.proofs.Failing.{FailsBy, fails_if}
use Rattle.lk_some_reply.proofs.Batches.{IsBatchFault, loaded_faults}
use Rattle.lk_some_reply.proofs.Moments.{in_1970}
use Rattle.lk_some_reply.proofs.Refusals.{IsRefusal, replied_so}

-- ---- no refusal of a load or a check is want of memory

abbrev IsLoadRefusal : LoadFault → Type 0
IsLoadRefusal why = loads.is_no_memory why ≡ false

abbrev IsCheckRefusal : CheckFault → Type 0
IsCheckRefusal why = checks.is_no_memory why ≡ false

batch_refused : (why : BatchFault) → IsBatchFault why → IsLoadRefusal (loads.load_fault why)
batch_refused (batch.L3 row column) h = refl
batch_refused (batch.L4 key) h = refl
batch_refused (batch.L5 row) h = refl
batch_refused batch.NoMemory h = absurd h

plan_refused : (over : Bool) (p : Planned) → FailsBy IsLoadRefusal (if over then Err load_fault.L6 else Ok (load_plan.New p))
plan_refused true p = refl
plan_refused false p = tt

over_refused : (e : Standing) (call : LoadCall) (number : ℕ) (r : Result LoadedTable BatchFault) → FailsBy IsBatchFault r → FailsBy IsLoadRefusal (over_batch e call number r)
over_refused e call number (Err why) h = batch_refused why h
over_refused e call number (Ok loaded) h = plan_refused (is_over (planned e call number loaded).standing.state) (planned e call number loaded)

kept_refused : (e : Standing) (call : LoadCall) (number : ℕ) (o : Option KeptId) → FailsBy IsLoadRefusal (unless_kept e call number o)
kept_refused e call number (Some kept) = tt
kept_refused e call number None =
    over_refused e call number (table_loaded (def_at e.model.schema.tables number) (content_at e.state.tables number).rows call.body call.replace)
    (loaded_faults (def_at e.model.schema.tables number) (content_at e.state.tables number).rows call.body call.replace)

into_refused : (e : Standing) (call : LoadCall) (o : Option ℕ) → FailsBy IsLoadRefusal (into_table e call o)
into_refused e call None = refl
into_refused e call (Some number) = kept_refused e call number (kept_load e.state.ids call.id)

load_refused : (e : Standing) (call : LoadCall) → FailsBy IsLoadRefusal (load_planned e call)
load_refused e call =
    fails_if IsLoadRefusal (is_loader e.users call.user) (into_table e call (table_named e.model.schema.tables call.table)) (Err (load_fault.L1 call.user))
    (into_refused e call (table_named e.model.schema.tables call.table)) refl

keeps_refused : (e : Standing) (groups : List ℕ) (now : ℤ) (keeps : Keeps) (names : List (List ℕ)) → FailsBy IsCheckRefusal (over_keeps e groups now (unless_large keeps names))
keeps_refused e groups now keeps [] = tt
keeps_refused e groups now keeps (name ∷ names) = refl

anew_refused : (e : Standing) (now : ℤ) (groups : List ℕ) (stored : List Rows) → FailsBy IsCheckRefusal (over_keeps e groups now (kept_anew e.model groups stored e.keeps))
anew_refused e now groups stored = keeps_refused e groups now (keeps_anew e.model groups stored e.keeps) (large_builds e.model groups (sources_over e.model stored))

triggered_refused : (e : Standing) (now : ℤ) (groups : List ℕ) → FailsBy IsCheckRefusal (over_triggered e now groups)
triggered_refused e now [] = tt
triggered_refused e now (g ∷ groups) =
    fails_if IsCheckRefusal (nat_lt 9223372036854775807 (e.state.number + 1)) (Err (check_fault.G2 []))
    (over_keeps e (g ∷ groups) now (kept_anew e.model (g ∷ groups) (rows_of_each e.state.tables) e.keeps)) refl
    (anew_refused e now (g ∷ groups) (rows_of_each e.state.tables))

check_refused : (e : Standing) (user : List ℕ) (now : ℤ) → FailsBy IsCheckRefusal (check_planned e user now)
check_refused e user now =
    fails_if IsCheckRefusal (is_loader e.users user) (over_triggered e now (groups_triggered e now)) (Err (check_fault.G1 user))
    (triggered_refused e now (groups_triggered e now)) refl

-- ---- what a request comes to

-- a reply, the edition and the store behind it
record Behind : Type 0 where
  reply : Reply
  standing : Standing
  store : Store

-- the edition and the store stay
stays : (e : Standing) (store : Store) → Stays e e store store
stays e store = record { standing = refl; saves = record { held = none_held store.held; later = le_refl store.faults } }
  where
    none_held : (held : Option Kept) → held ≡ option_map (λ (kept : Kept). after_saves kept []) held
    none_held None = refl
    none_held (Some kept) = refl

-- what a store holds behind a save
saved : Save → Store → Store
saved save store = record { held = option_map (λ (kept : Kept). after_saves kept (save ∷ [])) store.held; faults = store.faults }

saves_so : (save : Save) (store : Store) → Saves (save ∷ []) store (saved save store)
unfolding saved
saves_so save store = record { held = refl; later = le_refl store.faults }

abbrev LoadsBehind : Standing → Store → Result LoadPlan LoadFault → Behind → Type 0
LoadsBehind e store r b = LoadDoes e r b.reply b.standing store b.store

abbrev ChecksBehind : Standing → Store → Result CheckPlan CheckFault → Behind → Type 0
ChecksBehind e store r b = CheckDoes e r b.reply b.standing store b.store

load_does : (e : Standing) (store : Store) (r : Result LoadPlan LoadFault) → FailsBy IsLoadRefusal r → HoldsOfSome (LoadsBehind e store r)
load_does e store (Err why) h = of_this {Holds = LoadsBehind e store (Err why)} (record { reply = load_refusal why; standing = e; store = store }) (h, refl, stays e store)
load_does e store (Ok (load_plan.Kept kept)) h = of_this {Holds = LoadsBehind e store (Ok (load_plan.Kept kept))} (record { reply = kept; standing = e; store = store }) (refl, stays e store)
load_does e store (Ok (load_plan.New p)) h =
    of_this {Holds = LoadsBehind e store (Ok (load_plan.New p))} (record { reply = p.reply; standing = p.standing; store = saved p.save store }) (inl (refl, refl, saves_so p.save store))

check_does : (e : Standing) (store : Store) (r : Result CheckPlan CheckFault) → FailsBy IsCheckRefusal r → HoldsOfSome (ChecksBehind e store r)
check_does e store (Err why) h = of_this {Holds = ChecksBehind e store (Err why)} (record { reply = check_refusal why; standing = e; store = store }) (h, refl, stays e store)
check_does e store (Ok (check_plan.Nothing unbuilt)) h = of_this {Holds = ChecksBehind e store (Ok (check_plan.Nothing unbuilt))} (record { reply = unbuilt; standing = e; store = store }) (refl, stays e store)
check_does e store (Ok (check_plan.New p)) h =
    of_this {Holds = ChecksBehind e store (Ok (check_plan.New p))} (record { reply = p.reply; standing = p.standing; store = saved p.save store }) (inl (refl, refl, saves_so p.save store))

query_tells : (r : Result Reply AskFault) → FailsBy IsRefusal r → HoldsOfSome (Tells r)
query_tells (Ok answer) h = of_this {Holds = Tells (Ok answer)} answer refl
query_tells (Err why) h = of_this {Holds = Tells (Err why)} (refusal_reply why) (h, refl)

module _ (past : List State) where
  query_so : (e : Standing) (user explore body : List ℕ) (now : ℤ) (r : Result Reply AskFault) → IsReplied e past user explore body now false r
      → FailsBy IsRefusal r → HoldsOfSome (IsQueried (by_history past) e user explore body now)
  query_so e user explore body now r is h =
      of_these {Holds = Tells r} {Fits = IsQueried (by_history past) e user explore body now} (query_tells r h) (λ reply tells.
      of_this {Holds = IsQueried (by_history past) e user explore body now} reply (record { told = r; is = is; tells = tells }))

  abbrev Does : Standing → Store → ℤ → Request → Target → Behind → Type 0
  Does e store now request to b = TargetDoes (by_history past) e now request to b.reply b.standing store b.store

  module _ (body_read : (m : Model) (users : Users) (user explore body : List ℕ) (now : ℤ) → HoldsOfSome (IsBodyRead m users user explore body now)) where
    some_query : (e : Standing) (user explore body : List ℕ) (now : ℤ) → HoldsOfSome (IsQueried (by_history past) e user explore body now)
    some_query e user explore body now =
        of_these {Holds = IsBodyRead e.model e.users user explore body now} {Fits = IsQueried (by_history past) e user explore body now}
        (body_read e.model e.users user explore body now) (λ bound b.
        query_so e user explore body now (replied e past now false bound) (record { bound = bound; is_bound = b.bound; is = refl })
        (replied_so e past now false bound b.told))

    target_does : (e : Standing) (store : Store) (now : ℤ) (request : Request) (to : Target) → HoldsOfSome (Does e store now request to)
    target_does e store now request (target.Query explore) =
        of_these {Holds = IsQueried (by_history past) e request.user explore request.body now} {Fits = Does e store now request (target.Query explore)}
        (some_query e request.user explore request.body now) (λ reply is.
        of_this {Holds = Does e store now request (target.Query explore)} (record { reply = reply; standing = e; store = store }) (is, stays e store))
    target_does e store now request (target.Load table replace id) =
        load_does e store (load_planned e (call_of request table replace id)) (load_refused e (call_of request table replace id))
    target_does e store now request target.Check =
        check_does e store (check_planned e request.user now) (check_refused e request.user now)

    served_at : (s : Server) (request : Request) (now : ℤ) → IsMomentInYears now → IfSome s.moments (λ told. slice_get told 0 ≡ Some now) → HoldsOfSome (IsServed past s request)
    served_at s request now in_years first =
        of_these {Holds = Does s.standing s.store now request request.target} {Fits = IsServed past s request}
        (target_does s.standing s.store now request request.target) (λ b does.
        of_this {Holds = IsServed past s request}
        (record { reply = b.reply; server = record { standing = b.standing; store = b.store; moments = option_map later s.moments } })
        (record { now = now; years = in_years; first = first; moments = refl; serves = does }))

    by_moments : (s : Server) (request : Request) (moments : Option (List ℤ)) → s.moments ≡ moments → HasMoment moments → HoldsOfSome (IsServed past s request)
    by_moments s request None is h = served_at s request (pos 0) in_1970 (rw is tt)
    by_moments s request (Some []) is h = absurd h
    by_moments s request (Some (now ∷ more)) is h = served_at s request now h (rw is refl)

    pub some_served : (s : Server) (request : Request) → HasMoment s.moments → HoldsOfSome (IsServed past s request)
    some_served s request h = by_moments s request s.moments refl h
