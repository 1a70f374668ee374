use Rattle.std.proofs.Common.{ℤ, subst, w64}
use Rattle.std.proofs.lemmas.Int.{to_z-of_z}
use Rattle.lk_val.specs.Memory.{IsUnlessMemory}
use Rattle.lk_edition.specs.Checks.{check_planned, is_no_memory}
use Rattle.lk_edition.specs.Standings.{Standing}
use Rattle.lk_edition.proofs.office.Office.plan_check.Goals as goal

pub returns : goal.returns
returns g c =
    subst (λ (e : Standing). IsUnlessMemory is_no_memory c.plan_check.result (check_planned e c.args.user.now c.args.now)) c.deref.ensures
    (subst (λ (now : ℤ). IsUnlessMemory is_no_memory c.plan_check.result (check_planned c.deref.result.now c.args.user.now now))
    (to_z-of_z w64 c.args.now c.ranges.now) c.plan_check.ensures)
