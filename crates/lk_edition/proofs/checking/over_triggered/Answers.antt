use Rattle.std.proofs.Common.{◌∙◌, ◌≤◌, ◌+◌, ℤ, sym, subst, arith, w64}
use Rattle.std.specs.Prelude.{Result}
use Rattle.std.proofs.lemmas.Int.{to_z-of_z}
use Rattle.lk_val.specs.Memory.{IsUnlessMemory}
use Rattle.lk_table.specs.Contents.{rows_of_each}
use Rattle.lk_keeps.specs.Anew.{kept_anew}
use Rattle.lk_command_reply.specs.declared.fault.CheckFault.{CheckFault}
use Rattle.lk_edition.proofs.StandingLaws.{some_triggered}
use Rattle.lk_edition.specs.Checks.{is_no_memory, over_keeps}
use Rattle.lk_edition.specs.declared.plan.CheckPlan.{CheckPlan}
use Rattle.lk_edition.proofs.checking.over_triggered.Goals as goal

pub returns : goal.returns
returns c =
    let e = c.args.edition.now in
    let groups = c.args.groups.now in
    let next : e.state.number + 1 ≤ 9223372036854775807 = omega arith in
    subst (λ (planned : Result CheckPlan CheckFault). IsUnlessMemory is_no_memory c.over_keeps.result planned)
    (sym (some_triggered e c.args.now groups (sym c.is_empty.ensures ∙ c.if-is_empty.false) next))
    (subst (λ (now : ℤ). IsUnlessMemory is_no_memory c.over_keeps.result (over_keeps e groups now (kept_anew e.model groups (rows_of_each e.state.tables) e.keeps)))
    (to_z-of_z w64 c.args.now c.ranges.now) c.over_keeps.ensures)
