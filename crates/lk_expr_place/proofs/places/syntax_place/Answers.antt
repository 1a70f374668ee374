use Rattle.std.proofs.Common.{IfOk, subst}
use Rattle.lk_expr_place.specs.TerminalGrammar.{IsTerminals}
use Rattle.lk_expr_place.specs.SyntaxPlaces.{IsSyntaxPlace, IsTerminalText}
use Rattle.lk_expr_place.proofs.places.syntax_place.Goals as goal

pub returns : goal.returns
returns c = subst (λ g. IfOk c.place_by.result (IsSyntaxPlace (IsTerminalText (IsTerminals g)) c.args.text.now)) c.in_ok-of.ensures c.place_by.ensures
