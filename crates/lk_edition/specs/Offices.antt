-- What an office is, and what its calls keep. (lookd)
use Rattle.std.specs.Prelude.{◌≡◌, ◌⊎◌, ◌≤◌, ℕ, Bool, true, false, ℤ, List, Option, IfSome, Result, Ok}
use Rattle.std.specs.Arc.{arc_value}
use Rattle.lk_io.specs.Causes.{Rose}
use Rattle.lk_types.specs.declared.model.Model.{Model}
use Rattle.lk_schema.specs.declared.users.Users.{Users}
use Rattle.lk_ledger.specs.declared.kept.Kept.{Kept}
use Rattle.lk_state.specs.Openings.{Seed}
use Rattle.lk_state.specs.declared.fault.OpenFault.{OpenFault}
use Rattle.lk_state.specs.declared.fault.OpenFault.TheVariants as fault
use Rattle.lk_edition.specs.Checks.{check_planned}
use Rattle.lk_edition.specs.Loads.{load_planned}
use Rattle.lk_edition.specs.Openings.{standing_opened}
use Rattle.lk_edition.specs.Plans.{Planned}
use Rattle.lk_edition.specs.Standings.{Standing}
use Rattle.lk_edition.specs.declared.call.LoadCall.{LoadCall}
use Rattle.lk_edition.specs.declared.office.Office.{Office}
use Rattle.lk_edition.specs.declared.plan.CheckPlan.TheVariants as check
use Rattle.lk_edition.specs.declared.plan.LoadPlan.TheVariants as plan

-- what a store hands over is what it holds, where it tells that, and else what it may hand over
pub record Begins (held : Option Kept) (handed : Kept → Type 0) (kept : Kept) : Type 0 where
  pub told : IfSome held (λ holds. kept ≡ holds)
  pub may : handed kept

-- the edition comes of what a store handed over
pub record IsOpening (model : Model) (users : Users) (begins : Kept → Type 0) (seeds : List Seed) (now : ℤ) (result : Result Standing OpenFault) : Type 0 where
  pub kept : Kept
  pub handed : begins kept
  pub is : standing_opened model users kept seeds now ≡ result

-- the plan is that of some load on the edition
pub record IsLoadPlanned (e : Standing) (p : Planned) : Type 0 where
  pub call : LoadCall
  pub is : load_planned e call ≡ Ok (plan.New p)

-- the plan is that of some check on the edition
pub record IsCheckPlanned (e : Standing) (p : Planned) : Type 0 where
  pub user : List ℕ
  pub now : ℤ
  pub is : check_planned e user now ≡ Ok (check.New p)

abbrev pub IsPlanned : Standing → Planned → Type 0
IsPlanned e p = IsLoadPlanned e p ⊎ IsCheckPlanned e p

-- the edition of an office
abbrev pub standing_in : {K : Type 0} → Office K → Standing
standing_in office = arc_value office.edition

-- the fault comes from outside: it is the store's, or want of memory
abbrev pub is_outside : OpenFault → Bool
is_outside fault.Store = true
is_outside fault.NoMemory = true
is_outside other = false

-- the count never falls, and the office does not open for its store only where it rose
pub record HasOpenCause (before now : ℕ) (why : OpenFault) : Type 0 where
  pub later : before ≤ now
  pub rose : why ≡ fault.Store → Rose before now
