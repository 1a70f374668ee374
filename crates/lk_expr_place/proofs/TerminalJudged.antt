-- The terminals of both grammars: their place is that of the form, and each list of tokens with such terminals has a tree.
use Rattle.std.proofs.Common.{◌≡◌, ℕ, ◌≤◌, Bool, true, List, [], ◌∷◌, ◌++◌, length, map, Option, Result, IfOk, refl, sym, subst}
use Rattle.std.proofs.lemmas.Result.{IfOk-weaker}
use Rattle.lk_grammar.specs.Forms.{Form, IsTextAt, are_sound, is_live}
use Rattle.lk_grammar.specs.Places.{IsViable, Judges}
use Rattle.lk_grammar.specs.Reaching.{HasReached, Tells, reached_front}
use Rattle.lk_grammar.specs.declared.reaching.Reached.{Reached}
use Rattle.lk_grammar.proofs.PlaceLaws.{same_judgement}
use Rattle.lk_grammar.proofs.MachineLaws.{judged}
use Rattle.lk_expr_token.specs.declared.token.Token.{Token}
use Rattle.lk_expr_tree.specs.Grammar.{Tree, print, is_built, nests}
use Rattle.lk_expr_tree.specs.Calls.{is_measure}
use Rattle.lk_expr_token.specs.Terminals.{token_byte}
use Rattle.lk_expr_place.specs.declared.judging.Grammar.{Grammar}
use Rattle.lk_expr_place.specs.declared.judging.Grammar.TheVariants.{Expressions, Measures}
use Rattle.lk_expr_place.specs.GrammarForms.{named_form, case_form, atom_form, unary_form, term_form, sum_form, tail_form, test_form, not_form, and_form, expr_form, expr_rules, measure_atom, measure_unary, measure_term, measure_form, measure_rules}
use Rattle.lk_expr_place.specs.TerminalGrammar.{IsExprTerminals, IsMeasureTerminals, IsTerminals, grammar_rules, grammar_form}
use Rattle.lk_expr_place.proofs.TerminalMeasures.{measure_as_form, measure_from_form, measure_terminals}
use Rattle.lk_expr_place.proofs.TerminalExprs.{expr_as_form, expr_from_form, expr_terminals}
use Rattle.lk_expr_place.proofs.TerminalTrees.{is_meant}

-- ---- trees of tokens

-- tokens that have the terminals of an expression are those of one
pub expr_of_tokens : (ts : List Token) → IsExprTerminals (map token_byte ts) → (e : Tree) × (is_built e ≡ true) × (nests e ≤ 100) × (print e ≡ ts)
expr_of_tokens ts h = expr_from_form ts (expr_as_form (map token_byte ts) h)

-- tokens that have the terminals of a measure are those of one
pub measure_of_tokens : (ts : List Token) → IsMeasureTerminals (map token_byte ts) → (e : Tree) × (is_built e ≡ true) × (nests e ≤ 100) × (print e ≡ ts) × (is_measure e ≡ true)
measure_of_tokens ts h = measure_from_form ts (measure_as_form (map token_byte ts) h)

-- the same of both grammars
pub tree_of_tokens : (g : Grammar) (ts : List Token) → IsTerminals g (map token_byte ts) → (e : Tree) × (is_built e ≡ true) × (nests e ≤ 100) × (print e ≡ ts) × (is_meant g e ≡ true)
tree_of_tokens Expressions ts h = let e = expr_of_tokens ts h in (e.0, e.1, e.2, e.3, refl)
tree_of_tokens Measures ts h = measure_of_tokens ts h

-- ---- places

rules_sound : (g : Grammar) → are_sound (grammar_rules g) ≡ true
unfolding expr_rules expr_form and_form not_form test_form tail_form sum_form term_form unary_form atom_form named_form case_form measure_rules measure_form measure_term measure_unary measure_atom
rules_sound Expressions = refl
rules_sound Measures = refl

form_lives : (g : Grammar) → is_live 100 (length (grammar_rules g)) (grammar_form g) ≡ true
unfolding expr_rules expr_form and_form not_form test_form tail_form sum_form term_form unary_form atom_form named_form case_form measure_rules measure_form measure_term measure_unary measure_atom
form_lives Expressions = refl
form_lives Measures = refl

terminals_judged : (g : Grammar) (bytes : List ℕ) (o : Option ℕ) → Judges (IsTextAt (grammar_rules g) 100 (grammar_form g)) bytes o → Judges (IsTerminals g) bytes o
terminals_judged Expressions bytes o h = same_judgement expr_terminals expr_as_form bytes o h
terminals_judged Measures bytes o h = same_judgement measure_terminals measure_as_form bytes o h

-- how far the form of a grammar goes is how far its terminals go
pub reached_judged : (g : Grammar) (bytes : List ℕ) (reached : Reached) → HasReached (grammar_rules g) 100 (grammar_form g) bytes reached → Judges (IsTerminals g) bytes reached.place
reached_judged g bytes reached h =
    subst (Judges (IsTerminals g) bytes) (sym h.place_is)
    (terminals_judged g bytes _ (judged (grammar_rules g) (rules_sound g) 100 (grammar_form g) bytes (form_lives g)))

-- ---- what may follow

viable_there : (g : Grammar) (front : List ℕ) → IsViable (IsTextAt (grammar_rules g) 100 (grammar_form g)) front → IsViable (IsTerminals g) front
viable_there Expressions front v = (v.0, expr_terminals (front ++ v.0) v.1)
viable_there Measures front v = (v.0, measure_terminals (front ++ v.0) v.1)

viable_back : (g : Grammar) (front : List ℕ) → IsViable (IsTerminals g) front → IsViable (IsTextAt (grammar_rules g) 100 (grammar_form g)) front
viable_back Expressions front v = (v.0, expr_as_form (front ++ v.0) v.1)
viable_back Measures front v = (v.0, measure_as_form (front ++ v.0) v.1)

-- what may come where the form stops, and no other terminal, may follow the terminals
told : (g : Grammar) (front terminals : List ℕ) (b : ℕ) (may : Bool) → terminals ≡ front → Tells (IsViable (IsTextAt (grammar_rules g) 100 (grammar_form g)) (front ++ b ∷ [])) may → Tells (IsViable (IsTerminals g) (terminals ++ b ∷ [])) may
told g front terminals b may same tells = (
  (λ yes. subst (λ z. IsViable (IsTerminals g) (z ++ b ∷ [])) (sym same) (viable_there g (front ++ b ∷ []) (tells.0 yes))),
  (λ viable. tells.1 (viable_back g (front ++ b ∷ []) (subst (λ z. IsViable (IsTerminals g) (z ++ b ∷ [])) same viable))),
)

pub may_follow_there : {E : Type 0} (g : Grammar) (terminals all : List ℕ) (b c : ℕ) (reached : Reached) (r : Result Bool E) → HasReached (grammar_rules g) 100 (grammar_form g) all reached → terminals ≡ reached_front reached all → b ≡ c
    → ((rules : List Form) (depth : ℕ) (form : Form) (text : List ℕ) → HasReached rules depth form text reached → are_sound rules ≡ true → is_live depth (length rules) form ≡ true → IfOk r (Tells (IsViable (IsTextAt rules depth form) (reached_front reached text ++ b ∷ []))))
    → IfOk r (Tells (IsViable (IsTerminals g) (terminals ++ c ∷ [])))
may_follow_there g terminals all b c reached r goes front same may =
    subst (λ z. IfOk r (Tells (IsViable (IsTerminals g) (terminals ++ z ∷ [])))) same
    (IfOk-weaker r (Tells (IsViable (IsTextAt (grammar_rules g) 100 (grammar_form g)) (reached_front reached all ++ b ∷ []))) (Tells (IsViable (IsTerminals g) (terminals ++ b ∷ [])))
    (λ answer tells. told g (reached_front reached all) terminals b answer front tells)
    (may (grammar_rules g) 100 (grammar_form g) all goes (rules_sound g) (form_lives g)))
