use Rattle.std.proofs.Common.{List, ◌∙◌, ap, sym, subst, map}
use Rattle.std.specs.Prelude.{option_map}
use Rattle.lk_postfix.specs.Postfix.{Builds, after_node}
use Rattle.lk_types.specs.CalculationNodes.{arity, made}
use Rattle.lk_types.specs.declared.number.NumNode.{NumNode}
use Rattle.lk_lines.specs.Nesting.{put_in}
use Rattle.lk_lines.proofs.NestingLaws.{adds_number, adds_other}
use Rattle.lk_lines.proofs.nesting.add_node.Goals as goal

pub returns-in_ok-add_all-in-Some : goal.returns-in_ok-add_all-in-Some
returns-in_ok-add_all-in-Some c = λ stack within b.
    let x = c.args.x.now in
    subst (λ (ns : List NumNode). Builds arity made ns (map (put_in x) (after_node arity made stack c.args.node))) (sym c.in_ok-add_all-in-Some.ensures)
    (adds_number x c.args.nodes.now c.nodes.result.now c.args.node c.in-Some.number.now stack
    (sym c.number_at.ensures ∙ ap (option_map (λ number. number.now)) c.in-Some.is) c.nodes.ensures.value c.nodes.ensures.whole b)

pub returns-in_ok-push-in-None : goal.returns-in_ok-push-in-None
returns-in_ok-push-in-None c = λ stack within b.
    let x = c.args.x.now in
    subst (λ (ns : List NumNode). Builds arity made ns (map (put_in x) (after_node arity made stack c.args.node))) (sym c.in_ok-push-in-None.ensures.ok)
    (adds_other x c.args.nodes.now c.args.node stack
    (sym c.number_at.ensures ∙ ap (option_map (λ number. number.now)) c.in-None.is) within b)
