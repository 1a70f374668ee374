use Rattle.std.proofs.Common.{◌≡◌, ◌∙◌, ℤ, subst, w64, true}
use Rattle.std.specs.Prelude.{Result}
use Rattle.std.proofs.lemmas.Int.{to_z-of_z}
use Rattle.lk_val.specs.Memory.{IsUnlessMemory}
use Rattle.lk_table.specs.Contents.{rows_of_each}
use Rattle.lk_trigger.specs.Builds.{triggered}
use Rattle.lk_command_reply.specs.declared.fault.CheckFault.{CheckFault}
use Rattle.lk_edition.proofs.StandingLaws.{may_check}
use Rattle.lk_edition.specs.Checks.{is_no_memory, over_triggered}
use Rattle.lk_edition.specs.Loads.{is_loader}
use Rattle.lk_edition.specs.declared.plan.CheckPlan.{CheckPlan}
use Rattle.lk_edition.proofs.checking.plan_check.Goals as goal

pub returns : goal.returns
returns c =
    let e = c.args.edition.now in
    let user = c.args.user.now in
    let same = to_z-of_z w64 c.args.now c.ranges.now in
    let loads = c.in_ok-is_loader.ensures ∙ (λ i. is_loader (c.users.ensures i) user) in
    let datagroups = c.as_slice-datagroups.ensures ∙ (λ i. (c.model.ensures i).datagroups) in
    let groups = c.as_slice.ensures ∙ c.in_ok-groups.ensures
    ∙ (λ i. triggered (datagroups i) (rows_of_each (c.tables.ensures.tables i)) (c.builds.ensures i) (same i)) in
    let may : c.in_ok-is_loader.field-0 ≡ true = c.if-not-branch.false in
    subst (λ (planned : Result CheckPlan CheckFault). IsUnlessMemory is_no_memory c.over_triggered.result planned)
    (may_check e user c.args.now c.in_ok-is_loader.field-0 c.as_slice.result.now loads may groups)
    (subst (λ (now : ℤ). IsUnlessMemory is_no_memory c.over_triggered.result (over_triggered e now c.as_slice.result.now)) same c.over_triggered.ensures)
