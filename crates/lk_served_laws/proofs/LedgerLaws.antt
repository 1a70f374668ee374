-- What an item does with the loads that a server keeps.
use Rattle.std.proofs.Common.{◌≡◌, ◌∙◌, ◌++◌, ◌∷◌, [], ℕ, Bool, true, false, List, Option, Some, None, refl, ap, subst, inl, inr}
use Rattle.std.specs.Prelude.{◌⊎◌, ℤ, if◌then◌else◌, Result, Ok, Err}
use Rattle.std.specs.Option.{option_map, option_or}
use Rattle.std.proofs.lemmas.List.Folds.{find-append}
use Rattle.std.proofs.lemmas.Slice.Eq.{bytes_eq-Decides}
use Rattle.lk_val.specs.Texts.{is_same_text}
use Rattle.lk_types.specs.declared.answer.Reply.{Reply}
use Rattle.lk_ledger.specs.Saving.{after_saves}
use Rattle.lk_ledger.specs.declared.kept.Kept.{Kept}
use Rattle.lk_ledger.specs.declared.kept.KeptId.{KeptId}
use Rattle.lk_command_reply.specs.Replies.{load_reply}
use Rattle.lk_command_reply.specs.declared.fault.CheckFault.{CheckFault}
use Rattle.lk_command_reply.specs.declared.fault.LoadFault.{LoadFault}
use Rattle.lk_command_reply.specs.declared.fault.LoadFault.TheVariants as fault
use Rattle.lk_state.specs.Tables.{table_named}
use Rattle.lk_edition.specs.Checks.{check_planned}
use Rattle.lk_edition.specs.Loads.{into_table, is_loader, kept_id, kept_load, load_planned}
use Rattle.lk_edition.specs.Plans.{Planned}
use Rattle.lk_edition.specs.Standings.{Standing}
use Rattle.lk_edition.specs.declared.call.LoadCall.{LoadCall}
use Rattle.lk_edition.specs.declared.plan.CheckPlan.{CheckPlan}
use Rattle.lk_edition.specs.declared.plan.CheckPlan.TheVariants.{New as new_check, Nothing}
use Rattle.lk_edition.specs.declared.plan.LoadPlan.{LoadPlan}
use Rattle.lk_edition.specs.declared.plan.LoadPlan.TheVariants.{Kept as kept_plan, New}
use Rattle.lk_edition.proofs.PlanLaws.{is_built, is_new}
use Rattle.lk_http.specs.Items.{Item}
use Rattle.lk_http.specs.Replies.{memory_reply}
use Rattle.lk_http.specs.declared.request.Got.TheVariants.{End, Req}
use Rattle.lk_http.specs.declared.request.Request.{Request}
use Rattle.lk_http.specs.declared.request.Target.{Target}
use Rattle.lk_http.specs.declared.request.Target.TheVariants as target
use Rattle.lk_session.specs.Recorded.{Recorded, RecordedDoes}
use Rattle.lk_session.specs.Servers.{CheckDoes, IsCommitted, ItemDoes, LoadDoes, Server, Stays, TargetDoes, Telling, by_history, call_of}
use Rattle.lk_served_laws.specs.Ledgers.{DoesSo, Enters, IsLoad, IsUnmoved, KeepsLedger, Repeats, ledger_of, reply_of}

-- ---- what stays

no_saves : (held : Option Kept) → option_map (λ (kept : Kept). after_saves kept []) held ≡ held
no_saves None = refl
no_saves (Some kept) = refl

unmoved : (s t : Server) → Stays s.standing t.standing s.store t.store → IsUnmoved s t
unmoved s t stays = record { standing = stays.standing; held = stays.saves.held ∙ no_saves s.store.held }

same_ledger : (s t : Server) → Stays s.standing t.standing s.store t.store → ledger_of t ≡ ledger_of s
same_ledger s t stays = ap (λ (e : Standing). e.state.ids) stays.standing

-- what is found among some is found among these and more
found_still : (ids more : List KeptId) (id : List ℕ) (load : KeptId) → kept_load ids id ≡ Some load → kept_load (ids ++ more) id ≡ Some load
found_still ids more id load found =
    find-append (λ (kept : KeptId). is_same_text kept.id id) ids more
    ∙ ap (λ (o : Option KeptId). option_or o (kept_load more id)) found

found_behind : (ids : List KeptId) (load : KeptId) → kept_load ids load.id ≡ None → kept_load (ids ++ load ∷ []) load.id ≡ Some load
found_behind ids load none =
    find-append (λ (kept : KeptId). is_same_text kept.id load.id) ids (load ∷ [])
    ∙ ap (λ (o : Option KeptId). option_or o (kept_load (load ∷ []) load.id)) none
    ∙ ap (λ (b : Bool). if b then Some load else None) ((bytes_eq-Decides load.id load.id).1 refl)

pub entered : (s t : Server) (item : Item) (reply : Reply) (enters : Enters s item reply t) → kept_load (ledger_of t) enters.load.id ≡ Some enters.load
entered s t item reply enters =
    ap (λ (ids : List KeptId). kept_load ids enters.load.id) enters.behind ∙ found_behind (ledger_of s) enters.load enters.new

-- ---- the ledger grows

by_loader : (b : Bool) (next : Result LoadPlan LoadFault) (why : LoadFault) (plan : LoadPlan) → (if b then next else Err why) ≡ Ok plan → b ≡ true
by_loader true next why plan is = refl
by_loader false next why plan is = cc is

may_load : (e : Standing) (call : LoadCall) (p : Planned) → load_planned e call ≡ Ok (New p) → is_loader e.users call.user ≡ true
may_load e call p is =
    by_loader (is_loader e.users call.user) (into_table e call (table_named e.model.schema.tables call.table)) (fault.L1 call.user) (New p) is

abbrev Grows : Server → Item → Reply → Server → Type 0
Grows s item reply t = (ledger_of t ≡ ledger_of s) ⊎ Enters s item reply t

load_enters : (s t : Server) (request : Request) (table : List ℕ) (replace : Bool) (id : List ℕ) (p : Planned) (reply : Reply)
    → request.target ≡ target.Load table replace id → load_planned s.standing (call_of request table replace id) ≡ Ok (New p)
    → IsCommitted s.standing p reply t.standing s.store t.store → Grows s (Ok (Req request)) reply t
load_enters s t request table replace id p reply to planned (inl does) =
    let call = call_of request table replace id in
    let is = is_new s.standing call p planned in
    inr (record {
      load = kept_id s.standing.state call is.table;
      asks = record { table = table; replace = replace; target_is = to; loader = may_load s.standing call p planned; number = is.number; named = is.named };
      new = is.new;
      behind = ap (λ (e : Standing). e.state.ids) does.1 ∙ ap (λ (q : Planned). q.standing.state.ids) is.is;
      told = does.0 ∙ ap (λ (q : Planned). q.reply) is.is;
    })
load_enters s t request table replace id p reply to planned (inr does) = inl (same_ledger s t does.1)

load_grows : (s t : Server) (request : Request) (table : List ℕ) (replace : Bool) (id : List ℕ) (plan : Result LoadPlan LoadFault) (reply : Reply)
    → request.target ≡ target.Load table replace id → load_planned s.standing (call_of request table replace id) ≡ plan
    → LoadDoes s.standing plan reply t.standing s.store t.store → Grows s (Ok (Req request)) reply t
load_grows s t request table replace id (Err why) reply to is does = inl (same_ledger s t does.2)
load_grows s t request table replace id (Ok (kept_plan kept)) reply to is does = inl (same_ledger s t does.1)
load_grows s t request table replace id (Ok (New p)) reply to is does = load_enters s t request table replace id p reply to is does

checked_ids : (s t : Server) (user : List ℕ) (now : ℤ) (p : Planned) (reply : Reply) → check_planned s.standing user now ≡ Ok (new_check p)
    → IsCommitted s.standing p reply t.standing s.store t.store → ledger_of t ≡ ledger_of s
checked_ids s t user now p reply is (inl does) =
    let built = is_built s.standing user now p is in
    ap (λ (e : Standing). e.state.ids) does.1 ∙ ap (λ (q : Planned). q.standing.state.ids) built.is
checked_ids s t user now p reply is (inr does) = same_ledger s t does.1

check_stays : (s t : Server) (user : List ℕ) (now : ℤ) (plan : Result CheckPlan CheckFault) (reply : Reply) → check_planned s.standing user now ≡ plan
    → CheckDoes s.standing plan reply t.standing s.store t.store → ledger_of t ≡ ledger_of s
check_stays s t user now (Err why) reply is does = same_ledger s t does.2
check_stays s t user now (Ok (Nothing unbuilt)) reply is does = same_ledger s t does.1
check_stays s t user now (Ok (new_check p)) reply is does = checked_ids s t user now p reply is does

target_grows : (IsTold : Telling) (s t : Server) (now : ℤ) (request : Request) (to : Target) (reply : Reply) → request.target ≡ to
    → TargetDoes IsTold s.standing now request to reply t.standing s.store t.store → Grows s (Ok (Req request)) reply t
target_grows IsTold s t now request (target.Query explore) reply is does = inl (same_ledger s t does.1)
target_grows IsTold s t now request (target.Load table replace id) reply is does =
    load_grows s t request table replace id (load_planned s.standing (call_of request table replace id)) reply is refl does
target_grows IsTold s t now request target.Check reply is does =
    inl (check_stays s t request.user now (check_planned s.standing request.user now) reply refl does)

item_grows : (IsTold : Telling) (s : Server) (item : Item) (reply : Reply) (t : Server) → ItemDoes IsTold s item reply t → Grows s item reply t
item_grows IsTold s (Ok End) reply t none = absurd none
item_grows IsTold s (Ok (Req request)) reply t (inl does) = target_grows IsTold s t does.now request request.target reply refl does.serves
item_grows IsTold s (Ok (Req request)) reply t (inr forgotten) = inl (same_ledger s t forgotten.1.stays)
item_grows IsTold s (Err why) reply t does = inl (ap ledger_of does.1)

-- what the ledger has stays in it
still : (s t : Server) (item : Item) (reply : Reply) (id : List ℕ) (load : KeptId) → Grows s item reply t
    → kept_load (ledger_of s) id ≡ Some load → kept_load (ledger_of t) id ≡ Some load
still s t item reply id load (inl same) found = ap (λ (ids : List KeptId). kept_load ids id) same ∙ found
still s t item reply id load (inr enters) found =
    ap (λ (ids : List KeptId). kept_load ids id) enters.behind ∙ found_still (ledger_of s) (enters.load ∷ []) id load found

-- ---- a kept load repeats

-- that a kept load is planned as one
abbrev pub KeptPlanned : Type 0
KeptPlanned = (e : Standing) (call : LoadCall) (number : ℕ) (kept : KeptId) → is_loader e.users call.user ≡ true
    → table_named e.model.schema.tables call.table ≡ Some number → kept_load e.state.ids call.id ≡ Some kept
    → load_planned e call ≡ Ok (kept_plan (load_reply kept.rows kept.number))

module _ (planned : KeptPlanned) where
  request_repeats : (IsTold : Telling) (s t : Server) (now : ℤ) (request : Request) (id : List ℕ) (load : KeptId) (reply : Reply)
      → kept_load (ledger_of s) id ≡ Some load → TargetDoes IsTold s.standing now request request.target reply t.standing s.store t.store
      → IsLoad s.standing request id → ((reply ≡ reply_of load) ⊎ (reply ≡ memory_reply)) × IsUnmoved s t
  request_repeats IsTold s t now request id load reply found does asks =
      let call = call_of request asks.table asks.replace id in
      let loads : LoadDoes s.standing (load_planned s.standing call) reply t.standing s.store t.store =
      subst (λ to. TargetDoes IsTold s.standing now request to reply t.standing s.store t.store) asks.target_is does in
      let known : LoadDoes s.standing (Ok (kept_plan (load_reply load.rows load.number))) reply t.standing s.store t.store =
      subst (λ plan. LoadDoes s.standing plan reply t.standing s.store t.store) (planned s.standing call asks.number load asks.loader asks.named found) loads in
      (inl known.0, unmoved s t known.1)

  item_repeats : (IsTold : Telling) (s : Server) (item : Item) (reply : Reply) (t : Server) (id : List ℕ) (load : KeptId)
      → kept_load (ledger_of s) id ≡ Some load → ItemDoes IsTold s item reply t → Repeats id load s item reply t
  item_repeats IsTold s (Ok End) reply t id load found none = absurd none
  item_repeats IsTold s (Ok (Req request)) reply t id load found (inl does) =
      request_repeats IsTold s t does.now request id load reply found does.serves
  item_repeats IsTold s (Ok (Req request)) reply t id load found (inr forgotten) = λ _. (inr forgotten.0, unmoved s t forgotten.1.stays)
  item_repeats IsTold s (Err why) reply t id load found does = λ asks. absurd asks

  -- ---- an item of a history

  pub keeps_ledger : (h : Recorded) (item : Item) (reply : Reply) (t : Recorded) → Unit {0} → RecordedDoes h item reply t
      → DoesSo KeepsLedger h item reply t × Unit {0}
  keeps_ledger h item reply t known does = (
    (
      does,
      record {
        repeats = λ id load found. item_repeats (by_history h.past) h.server item reply t.server id load found does.0;
        grows = item_grows (by_history h.past) h.server item reply t.server does.0;
      },
    ),
    tt,
  )

  pub repeats_load : (id : List ℕ) (load : KeptId) (h : Recorded) (item : Item) (reply : Reply) (t : Recorded)
      → kept_load (ledger_of h.server) id ≡ Some load → RecordedDoes h item reply t
      → DoesSo (Repeats id load) h item reply t × (kept_load (ledger_of t.server) id ≡ Some load)
  repeats_load id load h item reply t found does = (
    (does, item_repeats (by_history h.past) h.server item reply t.server id load found does.0),
    still h.server t.server item reply id load (item_grows (by_history h.past) h.server item reply t.server does.0) found,
  )
