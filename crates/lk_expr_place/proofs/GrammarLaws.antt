-- The texts of a grammar are those whose tokens have its terminals, and their places are the same.
use Rattle.std.proofs.Common.{◌≡◌, inl, inr, ℕ, ◌≤◌, true, List, length, map, refl, sym, subst}
use Rattle.lk_expr_token.specs.declared.token.Token.{Token}
use Rattle.lk_expr_token.specs.Tokens.{IsSpelled}
use Rattle.lk_expr_tree.specs.Grammar.{Tree, print, is_built, nests, IsExprText}
use Rattle.lk_expr_token.specs.Terminals.{token_byte}
use Rattle.lk_expr_place.specs.declared.judging.Grammar.{Grammar}
use Rattle.lk_expr_place.specs.declared.judging.Grammar.TheVariants.{Expressions, Measures}
use Rattle.lk_expr_place.specs.TerminalGrammar.{IsTerminals}
use Rattle.lk_expr_place.proofs.TerminalJudged.{expr_of_tokens, measure_of_tokens}
use Rattle.lk_expr_place.specs.SyntaxPlaces.{IsSyntaxPlace, IsTerminalText}
use Rattle.lk_expr_place.specs.ExprTexts.{IsOfGrammar}

pub tokens_of : (g : Grammar) (bytes : List ℕ) → IsTerminals g bytes → (ts : List Token) × (map token_byte ts ≡ bytes)
tokens_of Expressions bytes h = (print h.0, h.3)
tokens_of Measures bytes h = (print h.0, h.3)

expr_spelled : (e : Tree) (ts : List Token) (text : List ℕ) → is_built e ≡ true → nests e ≤ 100 → print e ≡ ts → IsSpelled (length text) ts text → IsExprText e text
expr_spelled e ts text built shallow printed spelled = record { built = built; shallow = shallow; spelled = subst (λ z. IsSpelled (length text) z text) (sym printed) spelled }

text_there : (g : Grammar) (text : List ℕ) → IsTerminalText (IsTerminals g) text → IsOfGrammar g text
text_there Expressions text h = let t = expr_of_tokens h.0 h.2 in (t.0, expr_spelled t.0 h.0 text t.1 t.2 t.3 h.1)
text_there Measures text h = let t = measure_of_tokens h.0 h.2 in (t.0, record { expr = expr_spelled t.0 h.0 text t.1 t.2 t.3 h.1; measure = t.4 })

text_back : (g : Grammar) (text : List ℕ) → IsOfGrammar g text → IsTerminalText (IsTerminals g) text
text_back Expressions text h = (print h.0, h.1.spelled, (h.0, h.1.built, h.1.shallow, refl))
text_back Measures text h = (print h.0, h.1.expr.spelled, (h.0, h.1.expr.built, h.1.expr.shallow, refl, h.1.measure))

pub place_there : (g : Grammar) (text : List ℕ) (n : ℕ) → IsSyntaxPlace (IsTerminalText (IsTerminals g)) text n → IsSyntaxPlace (IsOfGrammar g) text n
place_there g text n h = record {
  within = h.within;
  begins = (h.begins.0, text_there g _ h.begins.1);
  none = h.none;
  reached = elim h.reached [
    | inl number ↦ inl number
    | inr longest ↦ inr (λ m inside v. longest m inside (v.0, text_back g _ v.1))
  ];
}
