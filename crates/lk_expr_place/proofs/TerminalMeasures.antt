-- The terminals of measures: the texts of their form are the terminals that the trees of measures print.
use Rattle.std.proofs.Common.{◌≡◌, inl, inr, ℕ, zero, suc, ◌≤◌, true, List, [], ◌∷◌, ◌++◌, map, refl, sym, ap, subst, ◌∙◌, arith}
use Rattle.std.proofs.lemmas.Bool.{false≢true}
use Rattle.lk_grammar.specs.Forms.{nested, IsRuleText, IsTextAt}
use Rattle.lk_expr_token.specs.declared.token.Sign.TheVariants as sign
use Rattle.lk_expr_token.specs.declared.token.Token.{Token}
use Rattle.lk_expr_token.specs.declared.token.Token.TheVariants as token
use Rattle.lk_expr_token.specs.declared.terminal.Terminal.TheVariants as terminal
use Rattle.lk_expr_tree.specs.declared.raw.Joint.TheVariants as joint
use Rattle.lk_expr_tree.specs.Grammar.{Tree, Number, Field, FieldOf, Group, Call, Negate, Chain, print, print_args, stands, is_built, nests}
use Rattle.lk_expr_token.specs.Functions.{function_of, is_of_measures}
use Rattle.lk_expr_tree.specs.Calls.{is_measure, are_measures}
use Rattle.lk_expr_token.specs.Terminals.{name_terminal, terminal_byte, token_byte}
use Rattle.lk_expr_token.proofs.LexSteps.{both, together}
use Rattle.lk_expr_text.proofs.ParseSound.{Stands}
use Rattle.lk_expr_place.specs.declared.judging.Grammar.TheVariants.{Measures}
use Rattle.lk_expr_place.specs.GrammarForms.{terminal_form, one_of, bracketed, listed, product_signs, measure_literals, measure_signs, measure_call, measure_atom, measure_unary, measure_term, measure_form, measure_rules}
use Rattle.lk_expr_place.specs.TerminalGrammar.{IsMeasureTerminals}
use Rattle.lk_expr_place.proofs.TerminalBytes.{IsNamed}
use Rattle.lk_expr_place.proofs.TerminalTokens.{seq_split, terminal_is, one_is, seq_joined, terminal_there, mark_there, mark_before, with_brackets, text_has, rule_has}
use Rattle.lk_expr_place.proofs.TerminalTrees.{IsMade, Makes, Prints, looser, opened, stands_whole, built_whole, left_max, right_max, no_chain, chain_made, chain_there, chain_begun, args_there, group_made, minus_made, call_made}

-- ---- what is made of tokens, where what stands deeper is made

module _ (Rule : ℕ → List ℕ → Type 0) (limit : ℕ) (whole : Makes Rule Measures 4 1 limit (nested 0)) (negated : Makes Rule Measures 6 1 limit (nested 1)) where
  literal_made : Makes Rule Measures 7 0 limit (one_of measure_literals)
  literal_made ts h =
      one_is Rule (IsMade Measures 7 0 limit) measure_literals (
        λ t l. record { tree = Number l.0; stood = refl; shallow = omega arith; meant = refl; printed = ap (λ z. z ∷ []) l.1 },
        (
          λ t l. record { tree = Field l.0; stood = refl; shallow = omega arith; meant = refl; printed = ap (λ z. z ∷ []) l.1 },
          (λ t l. record { tree = FieldOf l.0 l.1.0; stood = refl; shallow = omega arith; meant = refl; printed = ap (λ z. z ∷ []) l.1.1 }, tt),
        ),
      )
      ts h

  call_is : Makes Rule Measures 7 0 limit measure_call
  call_is ts h =
      let s = seq_split Rule (terminal_form terminal.MeasureFunction) (bracketed (listed (nested 0))) ts h in
      let k = terminal_is Rule terminal.MeasureFunction s.front s.first in
      let n : IsNamed true k.first = k.like in
      let front : s.front ≡ token.Name n.name n.place ∷ [] = k.alone ∙ ap (λ z. z ∷ []) n.is in
      subst (IsMade Measures 7 0 limit) (sym (s.joined ∙ ap (λ z. z ++ s.back) front))
      (call_made Rule Measures limit n.name n.place (nested 0) (λ us of. looser Measures 0 4 1 limit us (omega arith) (whole us of)) (λ args m. together _ _ n.of m) s.back s.second)

  atom_made : Makes Rule Measures 7 0 limit measure_atom
  unfolding measure_atom
  atom_made ts h =
      elim h [
        | inl p ↦ literal_made ts p
        | inr q ↦ elim q [ inl a ↦ group_made Rule Measures limit 4 (nested 0) whole ts a | inr b ↦ call_is ts b ]
      ]

  unary_made : Makes Rule Measures 6 0 limit measure_unary
  unfolding measure_unary
  unary_made ts h =
      elim h [
        | inl p ↦ minus_made Rule Measures limit (nested 1) negated ts p
        | inr q ↦ looser Measures 6 7 0 limit ts (omega arith) (atom_made ts q)
      ]

  term_made : Makes Rule Measures 5 0 limit measure_term
  unfolding measure_term
  term_made =
      chain_made Rule Measures 5 limit product_signs measure_unary (
        λ t l. record { joint = joint.Times; binds = refl; may = refl; printed = ap (λ z. z ∷ []) l },
        (λ t l. record { joint = joint.Over; binds = refl; may = refl; printed = ap (λ z. z ∷ []) l }, tt),
      )
      unary_made

  measure_made : Makes Rule Measures 4 0 limit measure_form
  unfolding measure_form
  measure_made =
      chain_made Rule Measures 4 limit measure_signs measure_term (
        λ t l. record { joint = joint.Plus; binds = refl; may = refl; printed = ap (λ z. z ∷ []) l },
        (λ t l. record { joint = joint.Minus; binds = refl; may = refl; printed = ap (λ z. z ∷ []) l }, tt),
      )
      term_made

-- ---- what trees print, where those that stand deeper print so

-- a whole measure is a sum
sum_stands : (e : Tree) → is_measure e ≡ true → Stands 0 e → Stands 4 e
sum_stands (Chain joint.Or a b) h s = absurd (false≢true h)
sum_stands (Chain joint.And a b) h s = absurd (false≢true h)
sum_stands (Chain joint.Plus a b) h s = s
sum_stands (Chain joint.Minus a b) h s = s
sum_stands (Chain joint.Concat a b) h s = s
sum_stands (Chain joint.Times a b) h s = s
sum_stands (Chain joint.Over a b) h s = s
sum_stands (Number n) h s = s
sum_stands (Field n) h s = s
sum_stands (FieldOf v n) h s = s
sum_stands (Group a) h s = s
sum_stands (Call name place args) h s = s
sum_stands (Negate a) h s = s
sum_stands e h s = absurd (false≢true h)

module _ (Rule : ℕ → List ℕ → Type 0) (limit : ℕ) (whole : Prints Rule Measures 0 1 limit (nested 0)) (negated : Prints Rule Measures 6 1 limit (nested 1)) where
  atom_prints : Prints Rule Measures 7 0 limit measure_atom
  unfolding measure_atom
  atom_prints (Number n) s m h = inl (inl (terminal_there Rule terminal.Number (token.Number n) refl))
  atom_prints (Field n) s m h = inl (inr (inl (terminal_there Rule terminal.Field (token.Field n) refl)))
  atom_prints (FieldOf v n) s m h = inl (inr (inr (inl (terminal_there Rule terminal.FieldOf (token.FieldOf v n) refl))))
  atom_prints (Group a) s m h = inr (inl (with_brackets Rule (nested 0) (print a) (whole a s (omega arith) h)))
  atom_prints (Call name place args) s m h =
      let p = both (is_of_measures (function_of name)) (are_measures args) h in
      inr (inr (seq_joined Rule (terminal_form terminal.MeasureFunction) (bracketed (listed (nested 0))) (token.Name name place ∷ []) (token.Sign sign.Open ∷ (print_args args ++ token.Sign sign.Close ∷ []))
      (terminal_there Rule terminal.MeasureFunction (token.Name name place) (ap (λ b. terminal_byte (name_terminal b)) p.0))
      (with_brackets Rule (listed (nested 0)) (print_args args) (args_there Rule Measures 0 1 limit (nested 0) whole args s (omega arith) p.1))))
  atom_prints (Negate a) s m h = absurd (false≢true s)
  atom_prints (Chain j a b) s m h = absurd (no_chain j 7 _ (omega arith) s)
  atom_prints e s m h = absurd (false≢true h)

  unary_prints : Prints Rule Measures 6 0 limit measure_unary
  unfolding measure_unary
  unary_prints (Negate a) s m h = inl (mark_before Rule sign.Minus (nested 1) (print a) (negated a s (omega arith) h))
  unary_prints (Chain j a b) s m h = absurd (no_chain j 6 _ (omega arith) s)
  unary_prints e s m h = inr (atom_prints e s m h)

  term_prints : Prints Rule Measures 5 0 limit measure_term
  unfolding measure_term
  term_prints (Chain joint.Times a b) s m h =
      let p = both (stands 5 a (is_built a)) _ s in
      let q = both (is_measure a) _ h in
      chain_there Rule Measures 5 limit product_signs measure_unary (print a) (token.Sign sign.Times) (print b)
      (term_prints a p.0 (left_max 0 (nests a) (nests b) limit m) q.0) (inl (mark_there Rule sign.Times)) (unary_prints b p.1 (right_max 0 (nests a) (nests b) limit m) q.1)
  term_prints (Chain joint.Over a b) s m h =
      let p = both (stands 5 a (is_built a)) _ s in
      let q = both (is_measure a) _ h in
      chain_there Rule Measures 5 limit product_signs measure_unary (print a) (token.Sign sign.Over) (print b)
      (term_prints a p.0 (left_max 0 (nests a) (nests b) limit m) q.0) (inr (inl (mark_there Rule sign.Over))) (unary_prints b p.1 (right_max 0 (nests a) (nests b) limit m) q.1)
  term_prints e s m h = chain_begun Rule Measures 5 limit product_signs measure_unary (print e) (unary_prints e s m h)

  measure_prints : Prints Rule Measures 4 0 limit measure_form
  unfolding measure_form
  measure_prints (Chain joint.Plus a b) s m h =
      let p = both (stands 4 a (is_built a)) _ s in
      let q = both (is_measure a) _ h in
      chain_there Rule Measures 4 limit measure_signs measure_term (print a) (token.Sign sign.Plus) (print b)
      (measure_prints a p.0 (left_max 0 (nests a) (nests b) limit m) q.0) (inl (mark_there Rule sign.Plus)) (term_prints b p.1 (right_max 0 (nests a) (nests b) limit m) q.1)
  measure_prints (Chain joint.Minus a b) s m h =
      let p = both (stands 4 a (is_built a)) _ s in
      let q = both (is_measure a) _ h in
      chain_there Rule Measures 4 limit measure_signs measure_term (print a) (token.Sign sign.Minus) (print b)
      (measure_prints a p.0 (left_max 0 (nests a) (nests b) limit m) q.0) (inr (inl (mark_there Rule sign.Minus))) (term_prints b p.1 (right_max 0 (nests a) (nests b) limit m) q.1)
  measure_prints (Chain joint.Concat a b) s m h = absurd (false≢true h)
  measure_prints e s m h = chain_begun Rule Measures 4 limit measure_signs measure_term (print e) (term_prints e s m h)

-- ---- all depths

mutual
  unfolding IsRuleText measure_rules

  whole_made : (depth : ℕ) → Makes (IsRuleText measure_rules depth) Measures 4 1 depth (nested 0)
  whole_made zero ts h = absurd h
  whole_made (suc depth) ts h = opened Measures 4 depth ts (measure_made (IsRuleText measure_rules depth) depth (whole_made depth) (negated_made depth) ts h)

  negated_made : (depth : ℕ) → Makes (IsRuleText measure_rules depth) Measures 6 1 depth (nested 1)
  negated_made zero ts h = absurd h
  negated_made (suc depth) ts h = opened Measures 6 depth ts (unary_made (IsRuleText measure_rules depth) depth (whole_made depth) (negated_made depth) ts h)

mutual
  unfolding IsRuleText measure_rules

  whole_prints : (depth : ℕ) → Prints (IsRuleText measure_rules depth) Measures 0 1 depth (nested 0)
  whole_prints zero e s m h = absurd (omega arith)
  whole_prints (suc depth) e s m h = measure_prints (IsRuleText measure_rules depth) depth (whole_prints depth) (negated_prints depth) e (sum_stands e h s) (omega arith) h

  negated_prints : (depth : ℕ) → Prints (IsRuleText measure_rules depth) Measures 6 1 depth (nested 1)
  negated_prints zero e s m h = absurd (omega arith)
  negated_prints (suc depth) e s m h = unary_prints (IsRuleText measure_rules depth) depth (whole_prints depth) (negated_prints depth) e s (omega arith) h

-- the terminals of a measure are a text of the form
pub measure_as_form : (bytes : List ℕ) → IsMeasureTerminals bytes → IsTextAt measure_rules 100 measure_form bytes
measure_as_form bytes h =
    let e = h.0 in
    subst (IsTextAt measure_rules 100 measure_form) h.3
    (measure_prints (IsRuleText measure_rules 100) 100 (whole_prints 100) (negated_prints 100) e (sum_stands e h.4 (stands_whole e h.1)) (omega (arith, h.2)) h.4)

-- tokens whose terminals are a text of the form are those of a measure
pub measure_from_form : (ts : List Token) → IsTextAt measure_rules 100 measure_form (map token_byte ts) → (e : Tree) × (is_built e ≡ true) × (nests e ≤ 100) × (print e ≡ ts) × (is_measure e ≡ true)
measure_from_form ts h =
    let made = measure_made (IsRuleText measure_rules 100) 100 (whole_made 100) (negated_made 100) ts h in
    (made.tree, built_whole 4 made.tree made.stood, omega (arith, made.shallow), sym made.printed, made.meant)

-- a text of the form is the terminals of a measure
pub measure_terminals : (bytes : List ℕ) → IsTextAt measure_rules 100 measure_form bytes → IsMeasureTerminals bytes
unfolding measure_rules measure_form measure_term measure_unary measure_atom
measure_terminals bytes h =
    let ts = text_has (IsRuleText measure_rules 100) (rule_has measure_rules refl 100) measure_form refl bytes h in
    let e = measure_from_form ts.0 (subst (IsTextAt measure_rules 100 measure_form) (sym ts.1) h) in
    (e.0, e.1, e.2, ap (map token_byte) e.3 ∙ ts.1, e.4)
