use Rattle.std.proofs.Common.{subst, sym, ◌∙◌}
use Rattle.lk_grammar.specs.Forms.{IsTextAt}
use Rattle.lk_grammar.specs.Places.{Judges}
use Rattle.lk_grammar.proofs.MachineLaws.{judged, judged_dead}
use Rattle.lk_grammar.proofs.judging.judge_nested.Goals as goal

pub returns-clause-judged : goal.returns-clause-judged
returns-clause-judged c sound live =
    let a = c.args in
    subst (Judges (IsTextAt a.rules.now a.depth a.form.now) a.text.now) (sym (c.place.ensures ∙ c.in_ok-of.ensures.place_is))
    (judged a.rules.now sound a.depth a.form.now a.text.now live)

pub returns-clause-dead : goal.returns-clause-dead
returns-clause-dead c dead =
    let a = c.args in
    c.place.ensures ∙ c.in_ok-of.ensures.place_is ∙ judged_dead a.rules.now a.depth a.form.now a.text.now dead
