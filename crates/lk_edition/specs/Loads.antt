-- What a load does: the reply and the state after it, or its first refusal. (lookd)
use Rattle.std.specs.Prelude.{ℕ, ◌+◌, Bool, true, false, if◌then◌else◌, List, [], ◌∷◌, ◌++◌, codes, slice_set, Option, Some, None, Result, Ok, Err}
use Rattle.std.specs.List.{find}
use Rattle.std.specs.Option.{is_some}
use Rattle.lk_val.specs.Texts.{is_same_text}
use Rattle.lk_schema.specs.Users.{attribute_of}
use Rattle.lk_schema.specs.declared.users.Users.{Users}
use Rattle.lk_table.specs.Contents.{Content}
use Rattle.lk_table.specs.declared.fault.BatchFault.{BatchFault}
use Rattle.lk_table.specs.declared.fault.BatchFault.TheVariants as batch
use Rattle.lk_load.specs.Loading.{LoadedTable, table_loaded}
use Rattle.lk_ledger.specs.Saving.{load}
use Rattle.lk_ledger.specs.declared.command.Command.{Command}
use Rattle.lk_ledger.specs.declared.kept.KeptId.{KeptId}
use Rattle.lk_command_reply.specs.Replies.{load_reply}
use Rattle.lk_command_reply.specs.declared.fault.LoadFault.{LoadFault}
use Rattle.lk_command_reply.specs.declared.fault.LoadFault.TheVariants as fault
use Rattle.lk_state.specs.Limits.{is_over}
use Rattle.lk_state.specs.States.{State}
use Rattle.lk_state.specs.Tables.{content_at, def_at, table_named}
use Rattle.lk_edition.specs.Plans.{Planned}
use Rattle.lk_edition.specs.Standings.{Standing}
use Rattle.lk_edition.specs.declared.call.LoadCall.{LoadCall}
use Rattle.lk_edition.specs.declared.plan.LoadPlan.{LoadPlan}
use Rattle.lk_edition.specs.declared.plan.LoadPlan.TheVariants as plan

-- the user may load and check: the attribute `loader` has a value
abbrev pub is_loader : Users → List ℕ → Bool
is_loader users user = is_some (attribute_of users user (codes "loader"))

-- ---- the loads that are kept

-- the kept load of an id, the first where there are more
abbrev pub kept_load : List KeptId → List ℕ → Option KeptId
kept_load ids id = find (λ load. is_same_text load.id id) ids

-- ---- a load

abbrev pub load_fault : BatchFault → LoadFault
load_fault (batch.L3 row column) = fault.L3 row column
load_fault (batch.L4 key) = fault.L4 key
load_fault (batch.L5 row) = fault.L5 row
load_fault batch.NoMemory = fault.NoMemory

abbrev pub kept_id : State → LoadCall → LoadedTable → KeptId
kept_id s call loaded = record { id = call.id; number = s.number + 1; rows = loaded.rows }

-- the next state, with a table as it is then and these kept loads
abbrev pub state_with : State → ℕ → Content → List KeptId → State
state_with s number content ids = record { number = s.number + 1; tables = slice_set s.tables number content; ids = ids }

-- the state after a load into the table of a number: the next number, the table as it is then, and the load's id behind the others
abbrev pub state_after : State → LoadCall → ℕ → LoadedTable → State
state_after s call number loaded = record {
  number = s.number + 1;
  tables = slice_set s.tables number loaded.version;
  ids = s.ids ++ kept_id s call loaded ∷ [];
}

-- what the store is told of the load
abbrev pub command_of : State → LoadCall → LoadedTable → Command
command_of s call loaded = record {
  number = s.number + 1;
  id = call.id;
  table = call.table;
  replace = call.replace;
  rows = loaded.rows;
  body = loaded.text;
}

-- the edition after a load; no datagroup is built
abbrev pub planned : Standing → LoadCall → ℕ → LoadedTable → Planned
planned e call number loaded = record {
  standing = record { model = e.model; users = e.users; state = state_after e.state call number loaded; builds = e.builds; keeps = e.keeps };
  save = load (command_of e.state call loaded);
  reply = load_reply loaded.rows (e.state.number + 1);
}

-- the plan, unless the state after it would be over a limit (L6)
abbrev pub unless_over : Planned → Result LoadPlan LoadFault
unless_over p = if is_over p.standing.state then Err fault.L6 else Ok (plan.New p)

-- the table as the batch leaves it, or the batch's first fault (L3, L5, L4)
abbrev pub over_batch : Standing → LoadCall → ℕ → Result LoadedTable BatchFault → Result LoadPlan LoadFault
over_batch e call number (Err f) = Err (load_fault f)
over_batch e call number (Ok loaded) = unless_over (planned e call number loaded)

-- a kept load gets its reply again, whatever its body is
abbrev pub unless_kept : Standing → LoadCall → ℕ → Option KeptId → Result LoadPlan LoadFault
unless_kept e call number (Some kept) = Ok (plan.Kept (load_reply kept.rows kept.number))
unless_kept e call number None =
    over_batch e call number
    (table_loaded (def_at e.model.schema.tables number) (content_at e.state.tables number).rows call.body call.replace)

-- into a table of the schema (L2)
abbrev pub into_table : Standing → LoadCall → Option ℕ → Result LoadPlan LoadFault
into_table e call None = Err (fault.L2 call.table)
into_table e call (Some number) = unless_kept e call number (kept_load e.state.ids call.id)

-- by a user who may load (L1)
abbrev pub load_planned : Standing → LoadCall → Result LoadPlan LoadFault
load_planned e call =
    if is_loader e.users call.user then into_table e call (table_named e.model.schema.tables call.table)
    else Err (fault.L1 call.user)

-- want of memory is no refusal
abbrev pub is_no_memory : LoadFault → Bool
is_no_memory fault.NoMemory = true
is_no_memory other = false
