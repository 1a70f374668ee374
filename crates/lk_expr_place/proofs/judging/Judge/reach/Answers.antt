use Rattle.std.proofs.Common.{IfOk, subst, ◌∙◌}
use Rattle.lk_grammar.specs.Reaching.{HasReached}
use Rattle.lk_expr_place.specs.TerminalGrammar.{grammar_form}
use Rattle.lk_expr_place.proofs.judging.Judge.reach.Goals as goal

pub returns : goal.returns
returns c =
    let judge = c.args.self.now in
    let bytes = c.args.terminals.now in
    let by_form = subst (λ form. IfOk c.of.result (HasReached c.as_slice.result.now 100 form bytes)) judge.form_is c.of.ensures in
    subst (λ rules. IfOk c.of.result (HasReached rules 100 (grammar_form judge.grammar) bytes)) (c.as_slice.ensures.value ∙ judge.rules_are) by_form
