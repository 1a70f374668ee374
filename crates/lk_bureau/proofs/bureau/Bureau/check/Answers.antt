use Rattle.std.proofs.lemmas.Int.{to_z-of_z}
use Rattle.std.proofs.Common.{w64, ◌≡◌, ◌∙◌, Ok, Err, ap, subst, sym, inr}
use Rattle.lk_val.specs.Memory.{Unless}
use Rattle.lk_edition.specs.Checks.{check_planned, is_no_memory}
use Rattle.lk_edition.specs.Offices.{IsPlanned, standing_in}
use Rattle.lk_edition.specs.declared.plan.CheckPlan.TheVariants.{New}
use Rattle.lk_bureau.proofs.StepLaws.{check_refused, check_shown}
use Rattle.lk_bureau.proofs.bureau.Bureau.check.Goals as goal

pub commit-requires : goal.commit-requires
commit-requires g c =
    let same : standing_in c.self.inside.office ≡ c.args.self.now.standing = ap (λ held. held.standing) c.self.view_is in
    subst (λ e. IsPlanned e c.in-Ok-New.pending) same
    (inr (record { user = c.args.user.now; now = _; is = sym c.in-Ok-New.ensures ∙ ap Ok c.in-Ok-New.field-0-is }))

pub returns-in-Ok-New-clause-done : goal.returns-in-Ok-New-clause-done
returns-in-Ok-New-clause-done g c reply note is =
    let same : standing_in c.self.inside.office ≡ c.args.self.now.standing = ap (λ held. held.standing) c.self.view_is in
    let at = subst (λ z. Ok c.in-Ok-New.field-0 ≡ check_planned (standing_in c.self.inside.office) c.args.user.now z) (to_z-of_z w64 c.args.now c.ranges.now) c.in-Ok-New.ensures in
    let planned = subst (λ e. Ok c.in-Ok-New.field-0 ≡ check_planned e c.args.user.now c.args.now) same at in
    let found : Ok (New c.in-Ok-New.pending) ≡ check_planned c.args.self.now.standing c.args.user.now c.args.now = ap Ok (sym c.in-Ok-New.field-0-is) ∙ planned in
    check_shown _ _ reply note _ _ _ _ found (c.commit.ensures.done reply note is)

pub returns-in-Err-clause-done : goal.returns-in-Err-clause-done
returns-in-Err-clause-done g c reply note is =
    let same : standing_in c.self.inside.office ≡ c.args.self.now.standing = ap (λ held. held.standing) c.self.view_is in
    let at = subst (λ z. Unless (is_no_memory c.in-Err.fault) (Err c.in-Err.fault ≡ check_planned (standing_in c.self.inside.office) c.args.user.now z)) (to_z-of_z w64 c.args.now c.ranges.now) c.in-Err.ensures in
    let planned = subst (λ e. Unless (is_no_memory c.in-Err.fault) (Err c.in-Err.fault ≡ check_planned e c.args.user.now c.args.now)) same at in
    check_refused c.in-Err.fault _ c.refuse_check.result reply note _ _ _ _ planned c.refuse_check.ensures (c.settle-in-Err.ensures.done reply note is)
