-- The terminals of expressions: the texts of their form are the terminals that trees print.
use Rattle.std.proofs.Common.{◌≡◌, ℕ, zero, suc, ◌≤◌, true, List, map, refl, sym, ap, subst, ◌∙◌, arith}
use Rattle.lk_grammar.specs.Forms.{nested, IsRuleText, IsTextAt}
use Rattle.lk_expr_token.specs.declared.token.Token.{Token}
use Rattle.lk_expr_tree.specs.Grammar.{Tree, print, is_built, nests}
use Rattle.lk_expr_token.specs.Terminals.{token_byte}
use Rattle.lk_expr_place.specs.declared.judging.Grammar.TheVariants.{Expressions}
use Rattle.lk_expr_place.specs.GrammarForms.{named_form, case_form, atom_form, unary_form, term_form, sum_form, tail_form, test_form, not_form, and_form, expr_form, expr_rules}
use Rattle.lk_expr_place.specs.TerminalGrammar.{IsExprTerminals}
use Rattle.lk_expr_place.proofs.TerminalTokens.{text_has, rule_has}
use Rattle.lk_expr_place.proofs.TerminalTrees.{Makes, Prints, opened, stands_whole, built_whole}
use Rattle.lk_expr_place.proofs.TerminalExprsMade.{unary_made, not_made, expr_made}
use Rattle.lk_expr_place.proofs.TerminalExprsPrinted.{unary_prints, not_prints, expr_prints}

mutual
  unfolding IsRuleText expr_rules

  whole_made : (depth : ℕ) → Makes (IsRuleText expr_rules depth) Expressions 0 1 depth (nested 0)
  whole_made zero ts h = absurd h
  whole_made (suc depth) ts h = opened Expressions 0 depth ts (expr_made (IsRuleText expr_rules depth) depth (whole_made depth) (denied_made depth) (negated_made depth) ts h)

  denied_made : (depth : ℕ) → Makes (IsRuleText expr_rules depth) Expressions 2 1 depth (nested 1)
  denied_made zero ts h = absurd h
  denied_made (suc depth) ts h = opened Expressions 2 depth ts (not_made (IsRuleText expr_rules depth) depth (whole_made depth) (denied_made depth) (negated_made depth) ts h)

  negated_made : (depth : ℕ) → Makes (IsRuleText expr_rules depth) Expressions 6 1 depth (nested 2)
  negated_made zero ts h = absurd h
  negated_made (suc depth) ts h = opened Expressions 6 depth ts (unary_made (IsRuleText expr_rules depth) depth (whole_made depth) (denied_made depth) (negated_made depth) ts h)

mutual
  unfolding IsRuleText expr_rules

  whole_prints : (depth : ℕ) → Prints (IsRuleText expr_rules depth) Expressions 0 1 depth (nested 0)
  whole_prints zero e s m h = absurd (omega arith)
  whole_prints (suc depth) e s m h = expr_prints (IsRuleText expr_rules depth) depth (whole_prints depth) (denied_prints depth) (negated_prints depth) e s (omega arith) h

  denied_prints : (depth : ℕ) → Prints (IsRuleText expr_rules depth) Expressions 2 1 depth (nested 1)
  denied_prints zero e s m h = absurd (omega arith)
  denied_prints (suc depth) e s m h = not_prints (IsRuleText expr_rules depth) depth (whole_prints depth) (denied_prints depth) (negated_prints depth) e s (omega arith) h

  negated_prints : (depth : ℕ) → Prints (IsRuleText expr_rules depth) Expressions 6 1 depth (nested 2)
  negated_prints zero e s m h = absurd (omega arith)
  negated_prints (suc depth) e s m h = unary_prints (IsRuleText expr_rules depth) depth (whole_prints depth) (denied_prints depth) (negated_prints depth) e s (omega arith) h

-- the terminals of an expression are a text of the form
pub expr_as_form : (bytes : List ℕ) → IsExprTerminals bytes → IsTextAt expr_rules 100 expr_form bytes
expr_as_form bytes h =
    subst (IsTextAt expr_rules 100 expr_form) h.3
    (expr_prints (IsRuleText expr_rules 100) 100 (whole_prints 100) (denied_prints 100) (negated_prints 100) h.0 (stands_whole h.0 h.1) (omega (arith, h.2)) refl)

-- tokens whose terminals are a text of the form are those of an expression
pub expr_from_form : (ts : List Token) → IsTextAt expr_rules 100 expr_form (map token_byte ts) → (e : Tree) × (is_built e ≡ true) × (nests e ≤ 100) × (print e ≡ ts)
expr_from_form ts h =
    let made = expr_made (IsRuleText expr_rules 100) 100 (whole_made 100) (denied_made 100) (negated_made 100) ts h in
    (made.tree, built_whole 0 made.tree made.stood, omega (arith, made.shallow), sym made.printed)

-- a text of the form is the terminals of an expression
pub expr_terminals : (bytes : List ℕ) → IsTextAt expr_rules 100 expr_form bytes → IsExprTerminals bytes
unfolding expr_rules expr_form and_form not_form test_form tail_form sum_form term_form unary_form atom_form named_form case_form
expr_terminals bytes h =
    let ts = text_has (IsRuleText expr_rules 100) (rule_has expr_rules refl 100) expr_form refl bytes h in
    let e = expr_from_form ts.0 (subst (IsTextAt expr_rules 100 expr_form) (sym ts.1) h) in
    (e.0, e.1, e.2, ap (map token_byte) e.3 ∙ ts.1)
