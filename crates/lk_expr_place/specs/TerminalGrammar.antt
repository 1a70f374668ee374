-- The lists of terminals that the trees of expressions and of measures print, each terminal as its byte.
use Rattle.std.specs.Prelude.{◌≡◌, ℕ, ◌≤◌, true, List, map}
use Rattle.lk_grammar.specs.Forms.{Form}
use Rattle.lk_expr_tree.specs.Grammar.{Tree, print, is_built, nests}
use Rattle.lk_expr_tree.specs.Calls.{is_measure}
use Rattle.lk_expr_token.specs.Terminals.{token_byte}
use Rattle.lk_expr_place.specs.declared.judging.Grammar.{Grammar}
use Rattle.lk_expr_place.specs.declared.judging.Grammar.TheVariants.{Expressions, Measures}
use Rattle.lk_expr_place.specs.GrammarForms.{expr_form, expr_rules, measure_form, measure_rules}

-- the terminals of the tokens of an expression that nests at most 100 deep
abbrev pub IsExprTerminals : List ℕ → Type 0
IsExprTerminals bytes = (e : Tree) × (is_built e ≡ true) × (nests e ≤ 100) × (map token_byte (print e) ≡ bytes)

-- the terminals of the tokens of a measure that nests at most 100 deep
abbrev pub IsMeasureTerminals : List ℕ → Type 0
IsMeasureTerminals bytes =
    (e : Tree) × (is_built e ≡ true) × (nests e ≤ 100) × (map token_byte (print e) ≡ bytes) × (is_measure e ≡ true)

-- the terminals of the tokens of a tree of the grammar
abbrev pub IsTerminals : Grammar → List ℕ → Type 0
IsTerminals Expressions bytes = IsExprTerminals bytes
IsTerminals Measures bytes = IsMeasureTerminals bytes

-- the rules of a grammar, of which the first is the whole
abbrev pub grammar_rules : Grammar → List Form
grammar_rules Expressions = expr_rules
grammar_rules Measures = measure_rules

-- the form of a whole text of a grammar
abbrev pub grammar_form : Grammar → Form
grammar_form Expressions = expr_form
grammar_form Measures = measure_form
