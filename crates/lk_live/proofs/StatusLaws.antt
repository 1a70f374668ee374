-- What a load or a check comes to is what it does in a session, and each reply has a status that is written.
use Rattle.std.proofs.Common.{◌≡◌, ◌∙◌, ℕ, ℤ, List, true, refl, sym, ap, subst, inl, None}
use Rattle.std.proofs.Math.Nat.{le_refl}
use Rattle.std.specs.Prelude.{Result, Ok, Err}
use Rattle.lk_types.specs.declared.answer.Reply.{Reply}
use Rattle.lk_command_reply.specs.declared.fault.CheckFault.{CheckFault}
use Rattle.lk_command_reply.specs.declared.fault.LoadFault.{LoadFault}
use Rattle.lk_edition.specs.Checks.{check_planned}
use Rattle.lk_edition.specs.Loads.{load_planned}
use Rattle.lk_edition.specs.Standings.{Standing}
use Rattle.lk_edition.specs.declared.plan.CheckPlan.{CheckPlan}
use Rattle.lk_edition.specs.declared.plan.CheckPlan.TheVariants.{New as new_check, Nothing}
use Rattle.lk_edition.specs.declared.plan.LoadPlan.{LoadPlan}
use Rattle.lk_edition.specs.declared.plan.LoadPlan.TheVariants.{Kept as kept_plan, New}
use Rattle.lk_http.specs.Replies.{is_status}
use Rattle.lk_http.specs.declared.request.Request.{Request}
use Rattle.lk_http.specs.declared.request.Target.{Target}
use Rattle.lk_http.specs.declared.request.Target.TheVariants as target
use Rattle.lk_session.specs.Servers.{CheckDoes, IsQueried, LoadDoes, Stays, Store, TargetDoes, by_edition, call_of, store_of}
use Rattle.lk_session.proofs.ServingLaws.{served_status}
use Rattle.lk_session.proofs.StayLaws.{stays}
use Rattle.lk_bureau.specs.Outcomes.{CheckComes, ComesTo, LoadComes, Outcome}
use Rattle.lk_bureau.specs.Told.{IsTold}

-- a store that tells nothing, and none of whose calls failed
abbrev silent : Store
silent = store_of None 0

stays_so : (e : Standing) (outcome : Outcome) → outcome.standing ≡ e → Stays e outcome.standing silent silent
stays_so e outcome is = subst (λ k. Stays e k silent silent) (sym is) (stays e silent)

load_done : (e : Standing) (plan : Result LoadPlan LoadFault) (outcome : Outcome) → LoadComes e plan outcome → LoadDoes e plan outcome.reply outcome.standing silent silent
load_done e (Err fault) outcome (known, is) = (known, ap (λ o. o.reply) is, stays_so e outcome (ap (λ o. o.standing) is))
load_done e (Ok (kept_plan kept)) outcome is = (ap (λ o. o.reply) is, stays_so e outcome (ap (λ o. o.standing) is))
load_done e (Ok (New plan)) outcome is = inl (ap (λ o. o.reply) is, ap (λ o. o.standing) is, record { held = refl; later = le_refl 0 })

check_done : (e : Standing) (plan : Result CheckPlan CheckFault) (outcome : Outcome) → CheckComes e plan outcome → CheckDoes e plan outcome.reply outcome.standing silent silent
check_done e (Err fault) outcome (known, is) = (known, ap (λ o. o.reply) is, stays_so e outcome (ap (λ o. o.standing) is))
check_done e (Ok (Nothing unbuilt)) outcome is = (ap (λ o. o.reply) is, stays_so e outcome (ap (λ o. o.standing) is))
check_done e (Ok (new_check plan)) outcome is = inl (ap (λ o. o.reply) is, ap (λ o. o.standing) is, record { held = refl; later = le_refl 0 })

-- what it comes to is what a session does
pub outcome_done : (e : Standing) (now : ℤ) (request : Request) (t : Target) (outcome : Outcome) → ComesTo e request.user t request.body now outcome
    → TargetDoes by_edition e now request t outcome.reply outcome.standing silent silent
outcome_done e now request (target.Query explore) outcome comes = absurd comes
outcome_done e now request (target.Load table replace id) outcome comes = load_done e (load_planned e (call_of request table replace id)) outcome comes
outcome_done e now request target.Check outcome comes = check_done e (check_planned e request.user now) outcome comes

pub told_status : (least : ℕ) (request : Request) (now : ℤ) (reply : Reply) (note : List Standing) → IsTold least request.user request.target request.body now reply note
    → is_status reply.status ≡ true
told_status least request now reply note told =
    ap (λ (r : Reply). is_status r.status) told.answers
    ∙ served_status told.before now request told.outcome.reply told.outcome.standing silent silent (outcome_done told.before now request request.target told.outcome told.comes)

pub queried_status : (e : Standing) (now : ℤ) (request : Request) (explore : List ℕ) (reply : Reply) → request.target ≡ target.Query explore
    → IsQueried by_edition e request.user explore request.body now reply → is_status reply.status ≡ true
queried_status e now request explore reply is queried =
    served_status e now request reply e silent silent (subst (λ t. TargetDoes by_edition e now request t reply e silent silent) (sym is) (queried, stays e silent))
