use Rattle.std.proofs.Common.{◌≡◌, ◌+◌, ◌++◌, ◌∷◌, [], ◌∙◌, ap, arith, length, refl, subst, sym, take}
use Rattle.std.proofs.lemmas.List.{take_more}
use Rattle.lk_postfix.specs.Postfix.{Builds}
use Rattle.lk_postfix.proofs.PostfixLaws.{Builds-append}
use Rattle.lk_types.specs.FormulaNodes.{arity, made}
use Rattle.lk_types.specs.declared.expr.Node.TheVariants as node
use Rattle.lk_types.proofs.NodeLaws.{BuildsOne, own, whole}
use Rattle.lk_plan.proofs.TierLaws.{of_all}
use Rattle.lk_plan.proofs.tier.choice.Goals as goal

pub loop-operand-preserved : goal.loop-operand-preserved
loop-operand-preserved c =
    let xs = c.args.operands.now in
    let i = c.loop-operand.operand-index in
    let e = c.operand-item.result in
    let one : BuildsOne c.nodes.result.now e = subst (BuildsOne c.nodes.result.now) c.nodes.ensures.value (own c.nodes.result.now c.nodes.ensures.whole) in
    let more : take i xs ++ e ∷ [] ≡ take (i + 1) xs = ap (λ y. take i xs ++ y ∷ []) c.operand-item.is ∙ sym (take_more xs i e (omega arith)) in
    subst (λ ts. Builds arity made c.add_copies.new.nodes ts) more
    (subst (λ ns. Builds arity made ns (take i xs ++ e ∷ [])) (sym c.in_ok-add_copies.ensures) (Builds-append arity made c.loop-operand.invariant one))

pub unwrap-requires : goal.unwrap-requires
unwrap-requires c =
    c.from_nodes.ensures.some
    ∙ whole (of_all c.loop-operand.nodes c.push.new.self (node.Case (length c.args.operands.now)) c.loop-operand.operand-index c.args.operands.now c.loop-operand.invariant c.loop-operand-test.false refl c.in_ok-push.ensures.ok)
