-- What is known of a load whose id is kept.
use Rattle.std.proofs.Common.{◌≡◌, ◌∙◌, ℕ, Bool, true, Some, ap}
use Rattle.std.specs.Prelude.{Ok, Err, if◌then◌else◌}
use Rattle.lk_ledger.specs.declared.kept.KeptId.{KeptId}
use Rattle.lk_command_reply.specs.Replies.{load_reply}
use Rattle.lk_command_reply.specs.declared.fault.LoadFault.TheVariants as fault
use Rattle.lk_state.specs.Tables.{table_named}
use Rattle.lk_edition.specs.Loads.{into_table, is_loader, kept_load, load_planned, unless_kept}
use Rattle.lk_edition.specs.Standings.{Standing}
use Rattle.lk_edition.specs.declared.call.LoadCall.{LoadCall}
use Rattle.lk_edition.specs.declared.plan.LoadPlan.TheVariants as plan

pub kept_planned : (e : Standing) (call : LoadCall) (number : ℕ) (kept : KeptId) → is_loader e.users call.user ≡ true
    → table_named e.model.schema.tables call.table ≡ Some number → kept_load e.state.ids call.id ≡ Some kept
    → load_planned e call ≡ Ok (plan.Kept (load_reply kept.rows kept.number))
kept_planned e call number kept may named found =
    ap (λ (b : Bool). if b then into_table e call (table_named e.model.schema.tables call.table) else Err (fault.L1 call.user)) may
    ∙ ap (into_table e call) named
    ∙ ap (unless_kept e call number) found
