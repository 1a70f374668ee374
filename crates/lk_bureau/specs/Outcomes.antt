-- What a load or a check comes to on an edition. (lookd)
use Rattle.std.specs.Prelude.{◌≡◌, ℕ, ℤ, Bool, false, List, [], ◌∷◌, Result, Ok, Err}
use Rattle.lk_types.specs.declared.answer.Reply.{Reply}
use Rattle.lk_ledger.specs.Saving.{Save}
use Rattle.lk_command_reply.specs.Refusals.{check_refusal, load_refusal}
use Rattle.lk_command_reply.specs.declared.fault.CheckFault.{CheckFault}
use Rattle.lk_command_reply.specs.declared.fault.LoadFault.{LoadFault}
use Rattle.lk_edition.specs.Checks.{check_planned}
use Rattle.lk_edition.specs.Checks as checks
use Rattle.lk_edition.specs.Loads.{load_planned}
use Rattle.lk_edition.specs.Loads as loads
use Rattle.lk_edition.specs.Plans.{Planned}
use Rattle.lk_edition.specs.Standings.{Standing}
use Rattle.lk_edition.specs.declared.call.LoadCall.{LoadCall}
use Rattle.lk_edition.specs.declared.plan.CheckPlan.{CheckPlan}
use Rattle.lk_edition.specs.declared.plan.CheckPlan.TheVariants.{New as new_check, Nothing}
use Rattle.lk_edition.specs.declared.plan.LoadPlan.{LoadPlan}
use Rattle.lk_edition.specs.declared.plan.LoadPlan.TheVariants.{Kept as kept_plan, New}
use Rattle.lk_http.specs.declared.request.Target.{Target}
use Rattle.lk_http.specs.declared.request.Target.TheVariants as target

-- the reply, the edition behind the one that was there, and what the store is told
pub record Outcome : Type 0 where
  pub reply : Reply
  pub standing : Standing
  pub saves : List Save

-- nothing is changed: the reply is a refusal, or that of a load that is kept or of a check that finds nothing to build
abbrev pub unchanged : Standing → Reply → Outcome
unchanged e reply = record { reply = reply; standing = e; saves = [] }

-- the edition is that of the plan, which is saved
abbrev pub carried_out : Planned → Outcome
carried_out plan = record { reply = plan.reply; standing = plan.standing; saves = plan.save ∷ [] }

abbrev pub LoadComes : Standing → Result LoadPlan LoadFault → Outcome → Type 0
LoadComes e (Err fault) outcome = (loads.is_no_memory fault ≡ false) × (outcome ≡ unchanged e (load_refusal fault))
LoadComes e (Ok (kept_plan reply)) outcome = outcome ≡ unchanged e reply
LoadComes e (Ok (New plan)) outcome = outcome ≡ carried_out plan

abbrev pub CheckComes : Standing → Result CheckPlan CheckFault → Outcome → Type 0
CheckComes e (Err fault) outcome = (checks.is_no_memory fault ≡ false) × (outcome ≡ unchanged e (check_refusal fault))
CheckComes e (Ok (Nothing reply)) outcome = outcome ≡ unchanged e reply
CheckComes e (Ok (new_check plan)) outcome = outcome ≡ carried_out plan

abbrev pub load_call : List ℕ → List ℕ → Bool → List ℕ → List ℕ → LoadCall
load_call user table replace id body = record { user = user; table = table; replace = replace; id = id; body = body }

-- a caller's load or check at a moment comes to this on the edition; a query comes to nothing here
abbrev pub ComesTo : Standing → List ℕ → Target → List ℕ → ℤ → Outcome → Type 0
ComesTo e user (target.Query explore) body now outcome = ⊥
ComesTo e user (target.Load table replace id) body now outcome = LoadComes e (load_planned e (load_call user table replace id body)) outcome
ComesTo e user target.Check body now outcome = CheckComes e (check_planned e user now) outcome

-- a load or a check
abbrev pub IsCommand : Target → Type 0
IsCommand (target.Query explore) = ⊥
IsCommand (target.Load table replace id) = Unit {0}
IsCommand target.Check = Unit {0}
