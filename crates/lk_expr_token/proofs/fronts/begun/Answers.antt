use Rattle.std.proofs.Common.{◌≡◌, ◌∙◌, sym, false, Some, None, subst}
use Rattle.std.proofs.lemmas.Result.{IfOk-weaker}
use Rattle.lk_grammar.specs.Forms.{IsText}
use Rattle.lk_grammar.specs.Places.{IsPlace}
use Rattle.lk_expr_token.specs.declared.terminal.Terminal.TheVariants as terminal
use Rattle.lk_expr_token.specs.TokenFronts.{IsOfTerminal, is_unread}
use Rattle.lk_expr_token.specs.TerminalForms.{terminal_form}
use Rattle.lk_expr_token.proofs.FrontLaws.{terminal_live, form_placed, text_placed}
use Rattle.lk_expr_token.proofs.fronts.begun.Goals as goal

pub returns-in-Some : goal.returns-in-Some
returns-in-Some c =
    let e : terminal_form c.args.terminal ≡ Some c.in-Some.form = sym c.in_ok-form.ensures ∙ c.in-Some.is in
    IfOk-weaker c.place_in.result (IsPlace (IsText c.in-Some.form) c.args.text.now) (λ n. (c.args.terminal ≡ terminal.Number → is_unread c.args.text.now ≡ false) → IsPlace (IsOfTerminal c.args.terminal) c.args.text.now n)
    (λ n h read. form_placed c.args.terminal c.in-Some.form c.args.text.now n e read h)
    (c.place_in.ensures (terminal_live c.args.terminal c.in-Some.form e))

pub returns-in-None : goal.returns-in-None
returns-in-None c read =
    let e : terminal_form c.args.terminal ≡ None = sym c.in_ok-form.ensures ∙ c.in-None.is in
    subst (IsPlace (IsOfTerminal c.args.terminal) c.args.text.now) (sym c.text_front.ensures) (text_placed c.args.terminal c.args.text.now e)
