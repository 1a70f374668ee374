-- The longest front of a text that begins a token of a terminal.
use Rattle.std.proofs.Common.{◌≡◌, ℕ, ◌-◌, true, false, if◌then◌else◌, List, [], ◌∷◌, arith, Some, None, refl, sym, subst}
use Rattle.std.proofs.lemmas.Bool.{le-leb}
use Rattle.std.proofs.lemmas.Option.{same_Some}
use Rattle.lk_grammar.specs.Forms.{Form, either, IsText, is_live}
use Rattle.lk_grammar.specs.Words.{one, exactly, letters, char, is_small}
use Rattle.lk_grammar.specs.Places.{IsPlace, place_from}
use Rattle.lk_grammar.proofs.FormLaws.{and_both, or_one}
use Rattle.lk_expr_token.specs.declared.terminal.Terminal.{Terminal}
use Rattle.lk_expr_token.specs.declared.terminal.Terminal.TheVariants as terminal
use Rattle.lk_expr_token.specs.declared.quoting.Quoting.TheVariants.{Unopened}
use Rattle.lk_expr_token.specs.Tokens.{letters_of, sign_text}
use Rattle.lk_expr_token.specs.TokenFronts.{IsOfTerminal, is_unread}
use Rattle.lk_expr_token.specs.TerminalForms.{terminal_form}
use Rattle.lk_expr_token.specs.Quoting.{quoting_after}
use Rattle.lk_expr_token.proofs.LexSteps.{no_some}
use Rattle.lk_expr_token.proofs.FormFronts.{whole_viable, place_carried}
use Rattle.lk_expr_token.proofs.TerminalFronts.{terminal_is_text, terminal_onward}
use Rattle.lk_expr_token.proofs.NumberFronts.{numbers_placed}
use Rattle.lk_expr_token.proofs.TextFronts.{texts_placed}

-- ---- each form has a text

exactly_live : (bytes : List ℕ) → is_live 0 0 (exactly bytes) ≡ true
exactly_live [] = refl
exactly_live (b ∷ bytes) = and_both _ _ (one_live b) (exactly_live bytes)
  where
    one_live : (b : ℕ) → is_live 0 0 (one b) ≡ true
    one_live b = le-leb b b (omega arith)

letters_live : (small : List ℕ) → is_live 0 0 (letters small) ≡ true
letters_live [] = refl
letters_live (b ∷ small) = and_both _ _ (char_live b) (letters_live small)
  where
    char_live : (b : ℕ) → is_live 0 0 (char b) ≡ true
    char_live b = elim (is_small b) as (λ s. is_live 0 0 (if s then either (one b) (one (b - 32)) else one b) ≡ true) [
      | true ↦ or_one (is_live 0 0 (one b)) _ (le-leb b b (omega arith))
      | false ↦ le-leb b b (omega arith)
    ]

pub terminal_live : (k : Terminal) (form : Form) → terminal_form k ≡ Some form → is_live 0 0 form ≡ true
unfolding terminal_form
terminal_live (terminal.Word k) form e = subst (λ f. is_live 0 0 f ≡ true) (same_Some _ form e) (letters_live (letters_of k))
terminal_live (terminal.Sign s) form e = subst (λ f. is_live 0 0 f ≡ true) (same_Some _ form e) (exactly_live (sign_text s))
terminal_live terminal.MeasureFunction form e = subst (λ f. is_live 0 0 f ≡ true) (same_Some _ form e) refl
terminal_live terminal.Name form e = subst (λ f. is_live 0 0 f ≡ true) (same_Some _ form e) refl
terminal_live terminal.Compare form e = subst (λ f. is_live 0 0 f ≡ true) (same_Some _ form e) refl
terminal_live terminal.Number form e = subst (λ f. is_live 0 0 f ≡ true) (same_Some _ form e) refl
terminal_live terminal.Text form e = absurd (no_some form e)
terminal_live terminal.Column form e = subst (λ f. is_live 0 0 f ≡ true) (same_Some _ form e) refl
terminal_live terminal.Field form e = subst (λ f. is_live 0 0 f ≡ true) (same_Some _ form e) refl
terminal_live terminal.FieldOf form e = subst (λ f. is_live 0 0 f ≡ true) (same_Some _ form e) refl

-- ---- the place in the form is the place among the tokens

carried : (k : Terminal) (form : Form) (text : List ℕ) (n : ℕ) → (k ≡ terminal.Number → ⊥) → terminal_form k ≡ Some form → IsPlace (IsText form) text n → IsPlace (IsOfTerminal k) text n
carried k form text n isnt e h = place_carried (λ t i. terminal_onward k form t isnt e i) (λ t i. whole_viable (IsText form) t (terminal_is_text k form t e i)) text n h

-- of every terminal that has a form
pub form_placed : (k : Terminal) (form : Form) (text : List ℕ) (n : ℕ) → terminal_form k ≡ Some form → (k ≡ terminal.Number → is_unread text ≡ false) → IsPlace (IsText form) text n → IsPlace (IsOfTerminal k) text n
unfolding terminal_form
form_placed (terminal.Word k) form text n e read h = carried (terminal.Word k) form text n (λ i. cc) e h
form_placed (terminal.Sign s) form text n e read h = carried (terminal.Sign s) form text n (λ i. cc) e h
form_placed terminal.MeasureFunction form text n e read h = carried terminal.MeasureFunction form text n (λ i. cc) e h
form_placed terminal.Name form text n e read h = carried terminal.Name form text n (λ i. cc) e h
form_placed terminal.Compare form text n e read h = carried terminal.Compare form text n (λ i. cc) e h
form_placed terminal.Number form text n e read h = numbers_placed text n (read refl) (subst (λ f. IsPlace (IsText f) text n) (sym (same_Some _ form e)) h)
form_placed terminal.Text form text n e read h = absurd (no_some form e)
form_placed terminal.Column form text n e read h = carried terminal.Column form text n (λ i. cc) e h
form_placed terminal.Field form text n e read h = carried terminal.Field form text n (λ i. cc) e h
form_placed terminal.FieldOf form text n e read h = carried terminal.FieldOf form text n (λ i. cc) e h

-- and of texts, which have none
pub text_placed : (k : Terminal) (text : List ℕ) → terminal_form k ≡ None → IsPlace (IsOfTerminal k) text (place_from quoting_after Unopened text)
unfolding terminal_form
text_placed terminal.Text text e = texts_placed text
text_placed _ text e = absurd (let f : ⊥ = cc in f)
