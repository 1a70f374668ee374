use Rattle.std.proofs.Common.{sym, subst}
use Rattle.std.proofs.lemmas.Result.{IfOk-weaker}
use Rattle.lk_expr_place.specs.ExprTexts.{IsOfGrammar}
use Rattle.lk_expr_place.specs.SyntaxPlaces.{IsSyntaxPlace}
use Rattle.lk_expr_place.proofs.GrammarLaws.{place_there}
use Rattle.lk_expr_place.proofs.reading.fault_place.Goals as goal

pub returns : goal.returns
returns c =
    let Place = IsSyntaxPlace (IsOfGrammar c.args.grammar) c.args.text.now in
    IfOk-weaker c.short_place.result _ Place (λ short e. subst Place (sym e) (place_there c.args.grammar c.args.text.now c.in_ok-syntax_place.field-0 c.in_ok-syntax_place.ensures)) c.short_place.ensures
