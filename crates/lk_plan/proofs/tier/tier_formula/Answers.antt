use Rattle.std.proofs.Common.{◌≡◌, ◌^◌, ◌∙◌, IfOk, ap, neg_ℤ, pos, subst}
use Rattle.lk_types.specs.Formula.{Formula, Case}
use Rattle.lk_types.specs.FormulaNodes.{cases_of}
use Rattle.lk_plan.specs.FieldFormulas.{tier_formula}
use Rattle.lk_plan.proofs.TierLaws.{cases_are}
use Rattle.lk_plan.proofs.tier.tier_formula.Goals as goal

pub returns : goal.returns
returns c =
    let same : Case (cases_of c.as_slice.result.now) ≡ tier_formula c.args.e.now c.args.bounds.now =
    ap (λ xs. Case (cases_of xs)) (c.as_slice.ensures ∙ c.in_ok-operands.ensures)
    ∙ ap Case (cases_are c.args.e.now (neg_ℤ (pos (2 ^ 63))) c.args.bounds.now) in
    subst (λ (w : Formula). IfOk c.choice.result (λ made. made ≡ w)) same c.choice.ensures
