-- What a step under the lock comes to. (lookd)
use Rattle.std.specs.Prelude.{◌≡◌, ℕ, ℤ, false, List, [], ◌∷◌, ◌++◌, Option, Result, Ok, Err}
use Rattle.std.specs.Option.{option_map}
use Rattle.lk_types.specs.declared.answer.Reply.{Reply}
use Rattle.lk_ledger.specs.Saving.{Save, after_saves}
use Rattle.lk_ledger.specs.declared.kept.Kept.{Kept}
use Rattle.lk_command_reply.specs.Refusals.{check_refusal, load_refusal}
use Rattle.lk_command_reply.specs.declared.fault.CheckFault.{CheckFault}
use Rattle.lk_command_reply.specs.declared.fault.LoadFault.{LoadFault}
use Rattle.lk_edition.specs.Checks as checks
use Rattle.lk_edition.specs.Loads as loads
use Rattle.lk_edition.specs.Standings.{Standing}
use Rattle.lk_edition.specs.declared.office.Office.{Office}
use Rattle.lk_edition.specs.declared.plan.CheckPlan.{CheckPlan}
use Rattle.lk_edition.specs.declared.plan.CheckPlan.TheVariants.{New as new_check, Nothing}
use Rattle.lk_edition.specs.declared.plan.LoadPlan.{LoadPlan}
use Rattle.lk_edition.specs.declared.plan.LoadPlan.TheVariants.{Kept as kept_plan, New}
use Rattle.lk_http.specs.declared.request.Target.{Target}
use Rattle.lk_bureau.specs.Holdings.{Held, IsPadded, IsShown}
use Rattle.lk_bureau.specs.Outcomes.{ComesTo, Outcome, carried_out, unchanged}

abbrev pub keeper_in : {K : Type 0} → Office K → K
keeper_in office = office.keeper

-- what the store holds after these saves, as far as it tells
abbrev pub told_after_all : List Save → Option Kept → Option Kept
told_after_all saves = option_map (λ kept. after_saves kept saves)

-- an outcome was saved and then shown, behind all that was shown before; its reply is given, and the whole list is told
pub record Publishes {K : Type 0} (outcome : Outcome) (reply : Reply) (note : List Standing) (before after : Held K) (told told' : Option Kept) : Type 0 where
  pub answers : reply ≡ outcome.reply
  pub stands : after.standing ≡ outcome.standing
  pub shows : after.shown ≡ before.shown ++ outcome.standing ∷ []
  pub tells : note ≡ after.shown
  pub saved : told' ≡ told_after_all outcome.saves told

-- the same of what a load was planned as
abbrev pub LoadShows : {K : Type 0} → Result LoadPlan LoadFault → Reply → List Standing → Held K → Held K → Option Kept → Option Kept → Type 0
LoadShows (Err fault) reply note before after told told' =
    (loads.is_no_memory fault ≡ false) × Publishes (unchanged before.standing (load_refusal fault)) reply note before after told told'
LoadShows (Ok (kept_plan kept)) reply note before after told told' = Publishes (unchanged before.standing kept) reply note before after told told'
LoadShows (Ok (New plan)) reply note before after told told' = Publishes (carried_out plan) reply note before after told told'

-- the same of what a check was planned as
abbrev pub CheckShows : {K : Type 0} → Result CheckPlan CheckFault → Reply → List Standing → Held K → Held K → Option Kept → Option Kept → Type 0
CheckShows (Err fault) reply note before after told told' =
    (checks.is_no_memory fault ≡ false) × Publishes (unchanged before.standing (check_refusal fault)) reply note before after told told'
CheckShows (Ok (Nothing unbuilt)) reply note before after told told' = Publishes (unchanged before.standing unbuilt) reply note before after told told'
CheckShows (Ok (new_check plan)) reply note before after told told' = Publishes (carried_out plan) reply note before after told told'

-- nothing was shown, and nothing changed
pub record Rests {K : Type 0} (before after : Held K) (told told' : Option Kept) : Type 0 where
  pub stands : after.standing ≡ before.standing
  pub shows : after.shown ≡ before.shown
  pub unsaved : told' ≡ told

-- a load or a check was carried out: it came to an outcome on the present edition, and behind all that was shown, and the present edition so often as was needed, stands that of the outcome
pub record IsCarriedOut {K : Type 0} (user : List ℕ) (target : Target) (body : List ℕ) (now : ℤ) (reply : Reply) (note : List Standing)
    (before after : Held K) (told told' : Option Kept) : Type 0 where
  pub outcome : Outcome
  pub comes : ComesTo before.standing user target body now outcome
  pub answers : reply ≡ outcome.reply
  pub stands : after.standing ≡ outcome.standing
  pub shows : IsShown before.standing outcome.standing before.shown after.shown
  pub tells : note ≡ after.shown
  pub saved : told' ≡ told_after_all outcome.saves told

-- nothing was carried out: no other edition than the present one was shown, and nothing changed
pub record IsLeft {K : Type 0} (before after : Held K) (told told' : Option Kept) : Type 0 where
  pub stands : after.standing ≡ before.standing
  pub shows : IsPadded before.standing before.shown after.shown
  pub unsaved : told' ≡ told
