use Rattle.std.proofs.Common.{sym, subst, ◌∙◌, ◌≡◌, length, take}
use Rattle.std.specs.Option.{unwrap_or}
use Rattle.lk_grammar.specs.Places.{Judges}
use Rattle.lk_expr_token.specs.TokenFronts.{terminals_in}
use Rattle.lk_expr_place.specs.TerminalGrammar.{IsTerminals}
use Rattle.lk_expr_place.specs.SyntaxPlaces.{IsSyntaxPlace, IsTerminalText}
use Rattle.lk_expr_place.proofs.GrammarLaws.{tokens_of}
use Rattle.lk_expr_place.proofs.SyntaxPlaceLaws.{syntax_place}
use Rattle.lk_expr_place.proofs.TerminalJudged.{reached_judged}
use Rattle.lk_expr_place.proofs.places.place_by.Goals as goal

pub returns : goal.returns
returns c =
    let grammar = c.args.judge.now.grammar in
    let g = IsTerminals grammar in
    let text = c.args.text.now in
    let reached = c.in_ok-reached.reached in
    let stopped = reached.place in
    let all : c.as_slice-all.result.now ≡ terminals_in text = c.as_slice-all.ensures.value ∙ c.in_ok-all.ensures in
    let judged : Judges g (terminals_in text) stopped =
    subst (λ z. Judges g z stopped) all (reached_judged grammar c.as_slice-all.result.now reached c.in_ok-reached.ensures) in
    let kept : c.front_of-terminals.result.now ≡ take (unwrap_or stopped (length (terminals_in text))) (terminals_in text) =
    c.front_of-terminals.ensures ∙ (λ i. take (unwrap_or (c.place.ensures i) (length (all i))) (all i)) in
    let at = syntax_place g (tokens_of grammar) text stopped c.front_of-terminals.result.now c.in_ok-rest.rest.now c.in_ok-start_length.field-0 judged kept c.in_ok-rest.ensures c.in_ok-start_length.ensures.unread c.in_ok-start_length.ensures.longest in
    subst (IsSyntaxPlace (IsTerminalText g) text) (sym (c.place_behind.ensures at.within)) at
