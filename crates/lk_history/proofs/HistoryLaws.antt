-- From the turns of a session to the loads and checks that it accepts.
use Rattle.std.proofs.Common.{◌≡◌, ◌∙◌, ◌++◌, ◌+◌, ℕ, List, [], ◌∷◌, refl, sym, ap, subst, inl, inr, Option, Some, None}
use Rattle.std.specs.Prelude.{ℤ, IfSome, Result, Ok, Err}
use Rattle.std.specs.List.{All}
use Rattle.std.specs.Option.{option_map}
use Rattle.lk_types.specs.declared.answer.Reply.{Reply}
use Rattle.lk_table.specs.BatchTexts.{HasNamedColumns}
use Rattle.lk_ledger.specs.Saving.{Save, after_save, after_saves}
use Rattle.lk_ledger.specs.declared.kept.Kept.{Kept}
use Rattle.lk_command_reply.specs.declared.fault.CheckFault.{CheckFault}
use Rattle.lk_command_reply.specs.declared.fault.LoadFault.{LoadFault}
use Rattle.lk_state.specs.Openings.{opened}
use Rattle.lk_edition.specs.Checks.{check_planned}
use Rattle.lk_edition.specs.Loads.{load_planned}
use Rattle.lk_edition.specs.Plans.{Planned}
use Rattle.lk_edition.specs.Standings.{Standing}
use Rattle.lk_edition.specs.declared.call.LoadCall.{LoadCall}
use Rattle.lk_edition.specs.declared.plan.CheckPlan.{CheckPlan}
use Rattle.lk_edition.specs.declared.plan.CheckPlan.TheVariants.{New as new_check, Nothing}
use Rattle.lk_edition.specs.declared.plan.LoadPlan.{LoadPlan}
use Rattle.lk_edition.specs.declared.plan.LoadPlan.TheVariants.{Kept as kept_plan, New}
use Rattle.lk_http.specs.Items.{Item}
use Rattle.lk_http.specs.declared.request.Got.TheVariants.{End, Req}
use Rattle.lk_http.specs.declared.request.Request.{Request}
use Rattle.lk_http.specs.declared.request.Target.{Target}
use Rattle.lk_http.specs.declared.request.Target.TheVariants as target
use Rattle.lk_kept.specs.Accepted.{AreAccepted, LeadsTo, Step, by_check, by_load}
use Rattle.lk_turns.specs.Doings.{Sent}
use Rattle.lk_turns.specs.Runs.{AreTurns, IsRun}
use Rattle.lk_turns.specs.declared.ended.Ended.{Ended}
use Rattle.lk_session.specs.Recorded.{Recorded, RecordedDoes}
use Rattle.lk_session.specs.Servers.{CheckDoes, IsCommitted, ItemDoes, LoadDoes, Server, Stays, TargetDoes, Telling, by_history, call_of}
use Rattle.lk_history.specs.Histories.{HasAccepted}

-- ---- no step, and one

abbrev held_with : List Save → Option Kept → Option Kept
held_with saves = option_map (λ (kept : Kept). after_saves kept saves)

none_held : (held : Option Kept) → held ≡ held_with [] held
none_held None = refl
none_held (Some kept) = refl

-- the store of one server is another, and the edition the same
stayed : (s t : Server) → Stays s.standing t.standing s.store t.store → HasAccepted s t
stayed s t stays = record { steps = []; saves = []; accepted = stays.standing; held = stays.saves.held }

unmoved : (s t : Server) → t ≡ s → HasAccepted s t
unmoved s t is = subst (HasAccepted s) (sym is) (record { steps = []; saves = []; accepted = refl; held = none_held s.store.held })

commit_of : (s t : Server) (step : Step) (p : Planned) (reply : Reply) → LeadsTo s.standing step p
    → IsCommitted s.standing p reply t.standing s.store t.store → HasAccepted s t
commit_of s t step p reply leads (inl does) = record {
  steps = step ∷ [];
  saves = p.save ∷ [];
  accepted = (p, leads, refl, does.1);
  held = does.2.held;
}
commit_of s t step p reply leads (inr does) = stayed s t does.1

load_of : (s t : Server) (call : LoadCall) (plan : Result LoadPlan LoadFault) (reply : Reply) → load_planned s.standing call ≡ plan
    → LoadDoes s.standing plan reply t.standing s.store t.store → HasAccepted s t
load_of s t call (Err fault) reply is does = stayed s t does.2
load_of s t call (Ok (kept_plan kept)) reply is does = stayed s t does.1
load_of s t call (Ok (New p)) reply is does = commit_of s t (by_load call) p reply is does

check_of : (s t : Server) (user : List ℕ) (now : ℤ) (plan : Result CheckPlan CheckFault) (reply : Reply) → check_planned s.standing user now ≡ plan
    → CheckDoes s.standing plan reply t.standing s.store t.store → HasAccepted s t
check_of s t user now (Err fault) reply is does = stayed s t does.2
check_of s t user now (Ok (Nothing unbuilt)) reply is does = stayed s t does.1
check_of s t user now (Ok (new_check p)) reply is does = commit_of s t (by_check user now) p reply is does

target_of : (IsTold : Telling) (s t : Server) (now : ℤ) (request : Request) (to : Target) (reply : Reply) → TargetDoes IsTold s.standing now request to reply t.standing s.store t.store → HasAccepted s t
target_of IsTold s t now request (target.Query explore) reply does = stayed s t does.1
target_of IsTold s t now request (target.Load table replace id) reply does =
    load_of s t (call_of request table replace id) (load_planned s.standing (call_of request table replace id)) reply refl does
target_of IsTold s t now request target.Check reply does =
    check_of s t request.user now (check_planned s.standing request.user now) reply refl does

item_of : (IsTold : Telling) (s : Server) (item : Item) (reply : Reply) (t : Server) → ItemDoes IsTold s item reply t → HasAccepted s t
item_of IsTold s (Ok End) reply t none = absurd none
item_of IsTold s (Ok (Req request)) reply t (inl does) = target_of IsTold s t does.now request request.target reply does.serves
item_of IsTold s (Ok (Req request)) reply t (inr forgotten) = stayed s t forgotten.1.stays
item_of IsTold s (Err fault) reply t does = unmoved s t does.1

-- ---- one behind the other

accepted_behind : (e m last : Standing) (steps more : List Step) (saves others : List Save)
    → AreAccepted e steps saves m → AreAccepted m more others last → AreAccepted e (steps ++ more) (saves ++ others) last
accepted_behind e m last [] more [] others p q = subst (λ k. AreAccepted k more others last) p q
accepted_behind e m last [] more (save ∷ saves) others p q = absurd p
accepted_behind e m last (step ∷ steps) more [] others p q = absurd p
accepted_behind e m last (step ∷ steps) more (save ∷ saves) others (planned, is, same, p) q =
    (planned, is, same, accepted_behind planned.standing m last steps more saves others p q)

saves_behind : (kept : Kept) (saves more : List Save) → after_saves (after_saves kept saves) more ≡ after_saves kept (saves ++ more)
saves_behind kept [] more = refl
saves_behind kept (save ∷ saves) more = saves_behind (after_save kept save) saves more

held_behind : (held : Option Kept) (saves others : List Save) → held_with others (held_with saves held) ≡ held_with (saves ++ others) held
held_behind None saves others = refl
held_behind (Some kept) saves others = ap (λ (k : Kept). Some k) (saves_behind kept saves others)

behind : (s m t : Server) → HasAccepted s m → HasAccepted m t → HasAccepted s t
behind s m t p q = record {
  steps = p.steps ++ q.steps;
  saves = p.saves ++ q.saves;
  accepted = accepted_behind s.standing m.standing t.standing p.steps q.steps p.saves q.saves p.accepted q.accepted;
  held = q.held ∙ ap (held_with q.saves) p.held ∙ held_behind s.store.held p.saves q.saves;
}

turns_of : (before : ℕ) (h : Recorded) (bytes : List ℕ) (sents : List Sent) (last : Recorded) (rest : List ℕ) → AreTurns RecordedDoes before h bytes sents last rest
    → HasAccepted h.server last.server
turns_of before h bytes [] last rest turns = unmoved h.server last.server (ap (λ (k : Recorded). k.server) (sym turns.0))
turns_of before h bytes (sent ∷ more) last rest (m, left, turn, stays, turns) =
    behind h.server m.server last.server (item_of (by_history h.past) h.server turn.item sent.reply m.server turn.does.0)
    (turns_of (before + 1) m left more last rest turns)

pub run_of : (h last : Recorded) (bytes rest : List ℕ) (sents : List Sent) (how : Ended) → IsRun RecordedDoes h bytes sents last rest how → HasAccepted h.server last.server
run_of h last bytes rest sents how (inl none) = unmoved h.server last.server (ap (λ (k : Recorded). k.server) none.same)
run_of h last bytes rest sents how (inr (inl stopped)) = turns_of 0 h bytes sents last stopped.left stopped.turns
run_of h last bytes rest sents how (inr (inr closed)) =
    behind h.server closed.m.server last.server (turns_of 0 h bytes closed.front closed.m closed.left closed.turns)
    (item_of (by_history closed.m.past) closed.m.server closed.closes.turn.item closed.sent.reply last.server closed.closes.turn.does.0)

-- ---- what the store opens

-- that the store holds the last state
abbrev pub HoldsLast : Type 0
HoldsLast = (kept : Kept) (e : Standing) (steps : List Step) (saves : List Save) (last : Standing)
    → All HasNamedColumns e.model.schema.tables → opened e.model.schema.tables kept [] ≡ Ok e.state → AreAccepted e steps saves last
    → opened e.model.schema.tables (after_saves kept saves) [] ≡ Ok last.state

pub opens_last : HoldsLast → (s last : Server) (kept : Kept) → HasAccepted s last → s.store.held ≡ Some kept
    → All HasNamedColumns s.standing.model.schema.tables → opened s.standing.model.schema.tables kept [] ≡ Ok s.standing.state
    → IfSome last.store.held (λ held. opened s.standing.model.schema.tables held [] ≡ Ok last.standing.state)
opens_last holds s last kept h told named is =
    subst (λ o. IfSome o (λ held. opened s.standing.model.schema.tables held [] ≡ Ok last.standing.state))
    (sym (h.held ∙ ap (held_with h.saves) told))
    (holds kept s.standing h.steps h.saves last.standing named is h.accepted)
