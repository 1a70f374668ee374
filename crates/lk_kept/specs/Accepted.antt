-- Loads and checks that a server accepts one after the other. (lookd)
use Rattle.std.specs.Prelude.{◌≡◌, ℕ, ℤ, List, [], ◌∷◌, Ok}
use Rattle.lk_ledger.specs.Saving.{Save, check, load}
use Rattle.lk_ledger.specs.declared.command.Command.{Command}
use Rattle.lk_edition.specs.Checks.{check_planned}
use Rattle.lk_edition.specs.Loads.{load_planned}
use Rattle.lk_edition.specs.Plans.{Planned}
use Rattle.lk_edition.specs.Standings.{Standing}
use Rattle.lk_edition.specs.declared.call.LoadCall.{LoadCall}
use Rattle.lk_edition.specs.declared.plan.CheckPlan.TheVariants as check_plan
use Rattle.lk_edition.specs.declared.plan.LoadPlan.TheVariants as load_plan

-- what a server is asked: a load, or a check by a user at a moment
pub data Step : Type 0 where
  by_load : LoadCall → Step
  by_check : List ℕ → ℤ → Step

-- the step makes a new state, by this plan
abbrev pub LeadsTo : Standing → Step → Planned → Type 0
LeadsTo e (by_load call) p = load_planned e call ≡ Ok (load_plan.New p)
LeadsTo e (by_check user now) p = check_planned e user now ≡ Ok (check_plan.New p)

-- each step makes a new state of the edition that the one before it made, the store is told these saves, and the last edition is this
abbrev pub AreAccepted : Standing → List Step → List Save → Standing → Type 0
AreAccepted e [] [] last = last ≡ e
AreAccepted e (step ∷ steps) (save ∷ saves) last =
    (p : Planned) × LeadsTo e step p × (save ≡ p.save) × AreAccepted p.standing steps saves last
AreAccepted e steps saves last = ⊥

-- the loads among steps
abbrev pub loads_of : List Step → List LoadCall
loads_of [] = []
loads_of (by_load call ∷ steps) = call ∷ loads_of steps
loads_of (by_check user now ∷ steps) = loads_of steps

-- the loads among saves
abbrev pub commands_of : List Save → List Command
commands_of [] = []
commands_of (load command ∷ saves) = command ∷ commands_of saves
commands_of (check number ∷ saves) = commands_of saves
