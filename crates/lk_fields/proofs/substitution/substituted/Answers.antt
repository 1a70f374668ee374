use Rattle.std.proofs.Common.{◌∙◌, ap, subst, arith}
use Rattle.lk_fields.specs.Substituted.{replacement, substituted}
use Rattle.lk_fields.proofs.SubstitutionLaws.{IsAt, expr_is}
use Rattle.lk_fields.proofs.substitution.substituted.Goals as goal

pub returns : goal.returns
returns c =
    let s = replacement c.args.by.now in
    let old = c.nodes-old.result.now in
    c.whole_expr.ensures
    ∙ expr_is s old c.loop-node.nodes c.nodes-old.ensures.whole (subst (λ i. IsAt s old i c.loop-node.nodes) (omega arith) c.loop-node.invariant)
    ∙ ap (substituted s) c.nodes-old.ensures.value
