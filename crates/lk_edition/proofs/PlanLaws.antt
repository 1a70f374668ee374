-- What is known of a load, and of a check, that comes to a plan.
use Rattle.std.proofs.Common.{◌≡◌, ◌+◌, ℕ, Bool, true, false, List, [], ◌∷◌, Option, Some, None, refl}
use Rattle.std.specs.Prelude.{ℤ, nat_lt, Result, Ok, Err, if◌then◌else◌}
use Rattle.lk_table.specs.Contents.{rows_of_each}
use Rattle.lk_table.specs.declared.fault.BatchFault.{BatchFault}
use Rattle.lk_load.specs.Loading.{LoadedTable, table_loaded}
use Rattle.lk_rollup.specs.declared.fault.BuildFault.{BuildFault}
use Rattle.lk_rollup.specs.declared.fault.BuildFault.TheVariants as build
use Rattle.lk_keeps.specs.Anew.{kept_anew}
use Rattle.lk_keeps.specs.Keeps.{Keeps}
use Rattle.lk_ledger.specs.declared.kept.KeptId.{KeptId}
use Rattle.lk_command_reply.specs.declared.fault.CheckFault.TheVariants as check_fault
use Rattle.lk_command_reply.specs.declared.fault.LoadFault.TheVariants as fault
use Rattle.lk_state.specs.Limits.{is_over}
use Rattle.lk_state.specs.Tables.{content_at, def_at, table_named}
use Rattle.lk_edition.specs.Checks.{built, check_planned, groups_triggered, over_keeps, over_triggered}
use Rattle.lk_edition.specs.Loads.{into_table, is_loader, kept_load, load_planned, over_batch, planned, unless_kept}
use Rattle.lk_edition.specs.Plans.{Planned}
use Rattle.lk_edition.specs.Standings.{Standing}
use Rattle.lk_edition.specs.declared.call.LoadCall.{LoadCall}
use Rattle.lk_edition.specs.declared.plan.CheckPlan.TheVariants as check_plan
use Rattle.lk_edition.specs.declared.plan.LoadPlan.TheVariants as plan

-- ---- loads

-- a new one: its table is there, its id is not kept, its batch loads, and the state after it is within the limits
pub record IsNew (e : Standing) (call : LoadCall) (p : Planned) : Type 0 where
  pub number : ℕ
  pub table : LoadedTable
  pub named : table_named e.model.schema.tables call.table ≡ Some number
  pub new : kept_load e.state.ids call.id ≡ None
  pub loads : table_loaded (def_at e.model.schema.tables number) (content_at e.state.tables number).rows call.body call.replace ≡ Ok table
  pub within : is_over (planned e call number table).standing.state ≡ false
  pub is : p ≡ planned e call number table

module _ (e : Standing) (call : LoadCall) (p : Planned) where
  over_by : (number : ℕ) (table : LoadedTable) (b : Bool) → table_named e.model.schema.tables call.table ≡ Some number
      → kept_load e.state.ids call.id ≡ None
      → table_loaded (def_at e.model.schema.tables number) (content_at e.state.tables number).rows call.body call.replace ≡ Ok table
      → is_over (planned e call number table).standing.state ≡ b
      → (if b then Err fault.L6 else Ok (plan.New (planned e call number table))) ≡ Ok (plan.New p) → IsNew e call p
  over_by number table true named new loads within f = cc f
  over_by number table false named new loads within f =
      record { number = number; table = table; named = named; new = new; loads = loads; within = within; is = cc f }

  batch_by : (number : ℕ) (r : Result LoadedTable BatchFault) → table_named e.model.schema.tables call.table ≡ Some number
      → kept_load e.state.ids call.id ≡ None
      → table_loaded (def_at e.model.schema.tables number) (content_at e.state.tables number).rows call.body call.replace ≡ r
      → over_batch e call number r ≡ Ok (plan.New p) → IsNew e call p
  batch_by number (Err why) named new loads f = cc f
  batch_by number (Ok table) named new loads f =
      over_by number table (is_over (planned e call number table).standing.state) named new loads refl f

  kept_by : (number : ℕ) (o : Option KeptId) → table_named e.model.schema.tables call.table ≡ Some number
      → kept_load e.state.ids call.id ≡ o → unless_kept e call number o ≡ Ok (plan.New p) → IsNew e call p
  kept_by number (Some kept) named new f = cc f
  kept_by number None named new f =
      batch_by number (table_loaded (def_at e.model.schema.tables number) (content_at e.state.tables number).rows call.body call.replace) named new refl f

  table_by : (o : Option ℕ) → table_named e.model.schema.tables call.table ≡ o → into_table e call o ≡ Ok (plan.New p) → IsNew e call p
  table_by None named f = cc f
  table_by (Some number) named f = kept_by number (kept_load e.state.ids call.id) named refl f

  loader_by : (b : Bool) → (if b then into_table e call (table_named e.model.schema.tables call.table) else Err (fault.L1 call.user)) ≡ Ok (plan.New p)
      → IsNew e call p
  loader_by true f = table_by (table_named e.model.schema.tables call.table) refl f
  loader_by false f = cc f

  pub is_new : load_planned e call ≡ Ok (plan.New p) → IsNew e call p
  is_new f = loader_by (is_loader e.users call.user) f

-- ---- checks

-- one that builds: the next number is within the limit, and no build is too large
pub record IsBuilt (e : Standing) (now : ℤ) (p : Planned) : Type 0 where
  pub groups : List ℕ
  pub keeps : Keeps
  pub triggered : groups_triggered e now ≡ groups
  pub within : nat_lt 9223372036854775807 (e.state.number + 1) ≡ false
  pub kept : kept_anew e.model groups (rows_of_each e.state.tables) e.keeps ≡ Ok keeps
  pub is : p ≡ built e groups now keeps

module _ (e : Standing) (user : List ℕ) (now : ℤ) (p : Planned) where
  keeps_by : (groups : List ℕ) (r : Result Keeps BuildFault) → groups_triggered e now ≡ groups
      → nat_lt 9223372036854775807 (e.state.number + 1) ≡ false → kept_anew e.model groups (rows_of_each e.state.tables) e.keeps ≡ r
      → over_keeps e groups now r ≡ Ok (check_plan.New p) → IsBuilt e now p
  keeps_by groups (Err (build.G2 name)) triggered within kept f = cc f
  keeps_by groups (Err build.NoMemory) triggered within kept f = cc f
  keeps_by groups (Ok keeps) triggered within kept f =
      record { groups = groups; keeps = keeps; triggered = triggered; within = within; kept = kept; is = cc f }

  number_by : (groups : List ℕ) (b : Bool) → groups_triggered e now ≡ groups → nat_lt 9223372036854775807 (e.state.number + 1) ≡ b
      → (if b then Err (check_fault.G2 []) else over_keeps e groups now (kept_anew e.model groups (rows_of_each e.state.tables) e.keeps)) ≡ Ok (check_plan.New p)
      → IsBuilt e now p
  number_by groups true triggered within f = cc f
  number_by groups false triggered within f =
      keeps_by groups (kept_anew e.model groups (rows_of_each e.state.tables) e.keeps) triggered within refl f

  triggered_by : (groups : List ℕ) → groups_triggered e now ≡ groups → over_triggered e now groups ≡ Ok (check_plan.New p) → IsBuilt e now p
  triggered_by [] triggered f = cc f
  triggered_by (g ∷ groups) triggered f = number_by (g ∷ groups) (nat_lt 9223372036854775807 (e.state.number + 1)) triggered refl f

  checker_by : (b : Bool) → (if b then over_triggered e now (groups_triggered e now) else Err (check_fault.G1 user)) ≡ Ok (check_plan.New p)
      → IsBuilt e now p
  checker_by true f = triggered_by (groups_triggered e now) refl f
  checker_by false f = cc f

  pub is_built : check_planned e user now ≡ Ok (check_plan.New p) → IsBuilt e now p
  is_built f = checker_by (is_loader e.users user) f
