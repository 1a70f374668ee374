-- What a check does: the datagroups that trigger are built, all at one new state. (lookd)
use Rattle.std.specs.Prelude.{ℕ, ◌+◌, nat_lt, Bool, true, false, if◌then◌else◌, ℤ, List, [], ◌∷◌, map, length, Result, Ok, Err}
use Rattle.lk_types.specs.Expressions.{has_number}
use Rattle.lk_types.specs.declared.model.Model.{Model}
use Rattle.lk_semantics.specs.Joins.{numbers_below}
use Rattle.lk_table.specs.Contents.{rows_of_each}
use Rattle.lk_trigger.specs.Builds.{build_at, built_at, datagroup_at, triggered}
use Rattle.lk_trigger.specs.declared.build.Build.{Build}
use Rattle.lk_rollup.specs.declared.fault.BuildFault.{BuildFault}
use Rattle.lk_rollup.specs.declared.fault.BuildFault.TheVariants as build
use Rattle.lk_keeps.specs.Anew.{kept_anew}
use Rattle.lk_keeps.specs.Keeps.{Keeps}
use Rattle.lk_ledger.specs.Saving.{check}
use Rattle.lk_command_reply.specs.Replies.{built_reply}
use Rattle.lk_command_reply.specs.declared.fault.CheckFault.{CheckFault}
use Rattle.lk_command_reply.specs.declared.fault.CheckFault.TheVariants as fault
use Rattle.lk_state.specs.States.{State}
use Rattle.lk_edition.specs.Loads.{is_loader}
use Rattle.lk_edition.specs.Plans.{Planned}
use Rattle.lk_edition.specs.Standings.{Standing}
use Rattle.lk_edition.specs.declared.plan.CheckPlan.{CheckPlan}
use Rattle.lk_edition.specs.declared.plan.CheckPlan.TheVariants as plan

-- the datagroups that trigger at a moment, in the model's order
abbrev pub groups_triggered : Standing → ℤ → List ℕ
groups_triggered e now = triggered e.model.datagroups (rows_of_each e.state.tables) e.builds now

-- the state after a check: the next number, the same tables and loads
abbrev pub state_checked : State → State
state_checked s = record { number = s.number + 1; tables = s.tables; ids = s.ids }

-- the last builds, where some datagroups are built at the next state
abbrev pub rebuilt : Standing → List ℕ → ℤ → List Build
rebuilt e groups now =
    map (λ g. if has_number g groups
    then built_at (rows_of_each e.state.tables) (e.state.number + 1) now (datagroup_at e.model.datagroups g)
    else build_at e.builds g) (numbers_below (length e.model.datagroups))

-- the edition after a check that built some datagroups
abbrev pub checked : Standing → List ℕ → ℤ → Keeps → Standing
checked e groups now keeps = record {
  model = e.model;
  users = e.users;
  state = state_checked e.state;
  builds = rebuilt e groups now;
  keeps = keeps;
}

abbrev pub names_of : Model → List ℕ → List (List ℕ)
names_of m groups = map (λ g. (datagroup_at m.datagroups g).name) groups

abbrev pub built : Standing → List ℕ → ℤ → Keeps → Planned
built e groups now keeps = record {
  standing = checked e groups now keeps;
  save = check (e.state.number + 1);
  reply = built_reply (names_of e.model groups) (e.state.number + 1);
}

-- unless a build is too large (G2)
abbrev pub over_keeps : Standing → List ℕ → ℤ → Result Keeps BuildFault → Result CheckPlan CheckFault
over_keeps e groups now (Err (build.G2 name)) = Err (fault.G2 name)
over_keeps e groups now (Err build.NoMemory) = Err fault.NoMemory
over_keeps e groups now (Ok keeps) = Ok (plan.New (built e groups now keeps))

-- nothing is done where no datagroup triggers; else the next state's number is within 63 bits (G2 without a name), and all of them are built over the present tables
abbrev pub over_triggered : Standing → ℤ → List ℕ → Result CheckPlan CheckFault
over_triggered e now [] = Ok (plan.Nothing (built_reply [] e.state.number))
over_triggered e now (g ∷ groups) =
    if nat_lt 9223372036854775807 (e.state.number + 1) then Err (fault.G2 [])
    else over_keeps e (g ∷ groups) now (kept_anew e.model (g ∷ groups) (rows_of_each e.state.tables) e.keeps)

-- by a user who may check (G1)
abbrev pub check_planned : Standing → List ℕ → ℤ → Result CheckPlan CheckFault
check_planned e user now = if is_loader e.users user then over_triggered e now (groups_triggered e now) else Err (fault.G1 user)

-- want of memory is no refusal
abbrev pub is_no_memory : CheckFault → Bool
is_no_memory fault.NoMemory = true
is_no_memory (fault.G1 user) = false
is_no_memory (fault.G2 name) = false
