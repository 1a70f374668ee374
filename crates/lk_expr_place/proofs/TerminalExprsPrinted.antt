-- Expressions that are printed: the terminals of the tokens of each tree are a text of the form.
use Rattle.std.proofs.Common.{◌≡◌, inl, inr, ℕ, ◌+◌, ◌≤◌, Bool, true, false, List, [], ◌∷◌, ◌++◌, refl, ap, subst, append-nil, arith}
use Rattle.std.specs.Prelude.{max}
use Rattle.std.proofs.lemmas.Bool.{false≢true}
use Rattle.lk_grammar.specs.Forms.{Form, seq, either, nested, optional}
use Rattle.lk_expr_token.specs.declared.token.Keyword.TheVariants as keyword
use Rattle.lk_expr_token.specs.declared.token.Sign.TheVariants as sign
use Rattle.lk_expr_token.specs.declared.token.Token.{Token}
use Rattle.lk_expr_token.specs.declared.token.Token.TheVariants as token
use Rattle.lk_expr_token.specs.declared.terminal.Terminal.TheVariants as terminal
use Rattle.lk_expr_tree.specs.declared.raw.Joint.TheVariants as joint
use Rattle.lk_expr_tree.specs.Grammar.{Tree, Number, Text, Name, Column, Field, FieldOf, Truth, Null, Group, Call, Case, CaseElse, Negate, Chain, Compare, IsNull, In, Between, Like, Not, Args, Branches, when, then_when, negated, print, print_args, print_branches, stands, is_built, are_built, are_branches_built, nests, nests_args, nests_branches}
use Rattle.lk_expr_token.specs.Functions.{function_of, is_of_measures}
use Rattle.lk_expr_token.specs.Terminals.{name_terminal, terminal_byte}
use Rattle.lk_expr_token.proofs.LexSteps.{both}
use Rattle.lk_expr_text.proofs.ParseSound.{Stands}
use Rattle.lk_expr_place.specs.declared.judging.Grammar.TheVariants.{Expressions}
use Rattle.lk_expr_place.specs.GrammarForms.{terminal_form, word, one_of, bracketed, listed, product_signs, names, sum_signs, named_form, branch_form, branches_form, else_form, case_form, atom_form, unary_form, term_form, sum_form, optional_not, null_form, in_form, between_form, like_form, choice_form, tail_form, test_form, not_form, and_form, expr_form}
use Rattle.lk_expr_place.proofs.TerminalTokens.{IsTokens, seq_joined, terminal_there, word_there, mark_there, word_before, mark_before, with_brackets, begun, one_more}
use Rattle.lk_expr_place.proofs.TerminalTrees.{Prints, left_max, right_max, no_chain, chain_there, chain_begun, args_there}

module _ (Rule : ℕ → List ℕ → Type 0) (limit : ℕ) (whole : Prints Rule Expressions 0 1 limit (nested 0)) (denied : Prints Rule Expressions 2 1 limit (nested 1)) (minus : Prints Rule Expressions 6 1 limit (nested 2)) where
  -- ---- atoms

  name_there : (name : List ℕ) (place : ℕ) (b : Bool) → is_of_measures (function_of name) ≡ b → IsTokens Rule (one_of names) (token.Name name place ∷ [])
  name_there name place true e = inr (inl (terminal_there Rule terminal.MeasureFunction (token.Name name place) (ap (λ b. terminal_byte (name_terminal b)) e)))
  name_there name place false e = inl (terminal_there Rule terminal.Name (token.Name name place) (ap (λ b. terminal_byte (name_terminal b)) e))

  branch_there : (c a : Tree) → Stands 0 c → Stands 0 a → 1 + nests c ≤ limit → 1 + nests a ≤ limit → IsTokens Rule branch_form (token.Word keyword.When ∷ (print c ++ token.Word keyword.Then ∷ print a))
  branch_there c a s t m n =
      word_before Rule keyword.When (seq (nested 0) (seq (word keyword.Then) (nested 0))) (print c ++ token.Word keyword.Then ∷ print a)
      (seq_joined Rule (nested 0) (seq (word keyword.Then) (nested 0)) (print c) (token.Word keyword.Then ∷ print a) (whole c s m refl) (word_before Rule keyword.Then (nested 0) (print a) (whole a t n refl)))

  branches_there : (branches : Branches) → are_branches_built branches ≡ true → 1 + nests_branches branches ≤ limit → IsTokens Rule branches_form (print_branches branches)
  branches_there (when c a) s m =
      let p = both (stands 0 c (is_built c)) _ s in
      begun Rule branch_form branch_form (print_branches (when c a)) (branch_there c a p.0 p.1 (left_max 1 (nests c) (nests a) limit m) (right_max 1 (nests c) (nests a) limit m))
  branches_there (then_when branches c a) s m =
      let p = both (are_branches_built branches) _ s in
      let q = both (stands 0 c (is_built c)) _ p.1 in
      let n = right_max 1 (nests_branches branches) (max (nests c) (nests a)) limit m in
      one_more Rule branch_form branch_form (print_branches branches) (token.Word keyword.When ∷ (print c ++ token.Word keyword.Then ∷ print a))
      (branches_there branches p.0 (left_max 1 (nests_branches branches) (max (nests c) (nests a)) limit m))
      (branch_there c a q.0 q.1 (left_max 1 (nests c) (nests a) limit n) (right_max 1 (nests c) (nests a) limit n))

  case_there : (branches : Branches) (us : List Token) → IsTokens Rule branches_form (print_branches branches) → IsTokens Rule (optional else_form) us → IsTokens Rule case_form (token.Word keyword.Case ∷ (print_branches branches ++ (us ++ token.Word keyword.End ∷ [])))
  unfolding case_form
  case_there branches us h k =
      word_before Rule keyword.Case (seq branches_form (seq (optional else_form) (word keyword.End))) (print_branches branches ++ (us ++ token.Word keyword.End ∷ []))
      (seq_joined Rule branches_form (seq (optional else_form) (word keyword.End)) (print_branches branches) (us ++ token.Word keyword.End ∷ []) h
      (seq_joined Rule (optional else_form) (word keyword.End) us (token.Word keyword.End ∷ []) k (word_there Rule keyword.End)))

  call_there : (name : List ℕ) (place : ℕ) (args : Args) → are_built 0 args ≡ true → 1 + nests_args args ≤ limit → IsTokens Rule named_form (print (Call name place args))
  unfolding named_form
  call_there name place args s m =
      seq_joined Rule (one_of names) (optional (bracketed (listed (nested 0)))) (token.Name name place ∷ []) (token.Sign sign.Open ∷ (print_args args ++ token.Sign sign.Close ∷ []))
      (name_there name place (is_of_measures (function_of name)) refl)
      (inl (with_brackets Rule (listed (nested 0)) (print_args args) (args_there Rule Expressions 0 1 limit (nested 0) whole args s m refl)))

  bare_there : (name : List ℕ) (place : ℕ) → IsTokens Rule named_form (token.Name name place ∷ [])
  unfolding named_form
  bare_there name place = seq_joined Rule (one_of names) (optional (bracketed (listed (nested 0)))) (token.Name name place ∷ []) [] (name_there name place (is_of_measures (function_of name)) refl) (inr refl)

  atom_prints : Prints Rule Expressions 7 0 limit atom_form
  unfolding atom_form
  atom_prints (Number n) s m h = inl (inl (terminal_there Rule terminal.Number (token.Number n) refl))
  atom_prints (Text n) s m h = inl (inr (inl (terminal_there Rule terminal.Text (token.Text n) refl)))
  atom_prints (Truth true) s m h = inl (inr (inr (inl (word_there Rule keyword.True))))
  atom_prints (Truth false) s m h = inl (inr (inr (inr (inl (word_there Rule keyword.False)))))
  atom_prints Null s m h = inl (inr (inr (inr (inr (inl (word_there Rule keyword.Null))))))
  atom_prints (Column n) s m h = inl (inr (inr (inr (inr (inr (inl (terminal_there Rule terminal.Column (token.Column n) refl)))))))
  atom_prints (Field n) s m h = inl (inr (inr (inr (inr (inr (inr (inl (terminal_there Rule terminal.Field (token.Field n) refl))))))))
  atom_prints (FieldOf v n) s m h = inl (inr (inr (inr (inr (inr (inr (inr (inl (terminal_there Rule terminal.FieldOf (token.FieldOf v n) refl)))))))))
  atom_prints (Name name place) s m h = inr (inl (bare_there name place))
  atom_prints (Call name place args) s m h = inr (inl (call_there name place args s (omega arith)))
  atom_prints (Group a) s m h = inr (inr (inl (with_brackets Rule (nested 0) (print a) (whole a s (omega arith) refl))))
  atom_prints (Case branches) s m h = inr (inr (inr (case_there branches [] (branches_there branches s (omega arith)) (inr refl))))
  atom_prints (CaseElse branches a) s m h =
      let p = both (are_branches_built branches) _ s in
      let n : 1 + max (nests_branches branches) (nests a) ≤ limit = omega arith in
      inr (inr (inr (case_there branches (token.Word keyword.Else ∷ print a) (branches_there branches p.0 (left_max 1 (nests_branches branches) (nests a) limit n))
      (inl (word_before Rule keyword.Else (nested 0) (print a) (whole a p.1 (right_max 1 (nests_branches branches) (nests a) limit n) refl))))))
  atom_prints (Chain j a b) s m h = absurd (no_chain j 7 _ (omega arith) s)
  atom_prints e s m h = absurd (false≢true s)

  pub unary_prints : Prints Rule Expressions 6 0 limit unary_form
  unfolding unary_form
  unary_prints (Negate a) s m h = inl (mark_before Rule sign.Minus (nested 2) (print a) (minus a s (omega arith) refl))
  unary_prints (Chain j a b) s m h = absurd (no_chain j 6 _ (omega arith) s)
  unary_prints e s m h = inr (atom_prints e s m h)

  -- ---- sums

  term_prints : Prints Rule Expressions 5 0 limit term_form
  unfolding term_form
  term_prints (Chain joint.Times a b) s m h =
      let p = both (stands 5 a (is_built a)) _ s in
      chain_there Rule Expressions 5 limit product_signs unary_form (print a) (token.Sign sign.Times) (print b)
      (term_prints a p.0 (left_max 0 (nests a) (nests b) limit m) refl) (inl (mark_there Rule sign.Times)) (unary_prints b p.1 (right_max 0 (nests a) (nests b) limit m) refl)
  term_prints (Chain joint.Over a b) s m h =
      let p = both (stands 5 a (is_built a)) _ s in
      chain_there Rule Expressions 5 limit product_signs unary_form (print a) (token.Sign sign.Over) (print b)
      (term_prints a p.0 (left_max 0 (nests a) (nests b) limit m) refl) (inr (inl (mark_there Rule sign.Over))) (unary_prints b p.1 (right_max 0 (nests a) (nests b) limit m) refl)
  term_prints e s m h = chain_begun Rule Expressions 5 limit product_signs unary_form (print e) (unary_prints e s m h)

  sum_prints : Prints Rule Expressions 4 0 limit sum_form
  unfolding sum_form
  sum_prints (Chain joint.Plus a b) s m h =
      let p = both (stands 4 a (is_built a)) _ s in
      chain_there Rule Expressions 4 limit sum_signs term_form (print a) (token.Sign sign.Plus) (print b)
      (sum_prints a p.0 (left_max 0 (nests a) (nests b) limit m) refl) (inl (mark_there Rule sign.Plus)) (term_prints b p.1 (right_max 0 (nests a) (nests b) limit m) refl)
  sum_prints (Chain joint.Minus a b) s m h =
      let p = both (stands 4 a (is_built a)) _ s in
      chain_there Rule Expressions 4 limit sum_signs term_form (print a) (token.Sign sign.Minus) (print b)
      (sum_prints a p.0 (left_max 0 (nests a) (nests b) limit m) refl) (inr (inl (mark_there Rule sign.Minus))) (term_prints b p.1 (right_max 0 (nests a) (nests b) limit m) refl)
  sum_prints (Chain joint.Concat a b) s m h =
      let p = both (stands 4 a (is_built a)) _ s in
      chain_there Rule Expressions 4 limit sum_signs term_form (print a) (token.Sign sign.Concat) (print b)
      (sum_prints a p.0 (left_max 0 (nests a) (nests b) limit m) refl) (inr (inr (inl (mark_there Rule sign.Concat)))) (term_prints b p.1 (right_max 0 (nests a) (nests b) limit m) refl)
  sum_prints e s m h = chain_begun Rule Expressions 4 limit sum_signs term_form (print e) (term_prints e s m h)

  -- ---- tests

  null_there : (n : Bool) → IsTokens Rule null_form (token.Word keyword.Is ∷ negated n (token.Word keyword.Null ∷ []))
  null_there true =
      word_before Rule keyword.Is (seq optional_not (word keyword.Null)) (token.Word keyword.Not ∷ token.Word keyword.Null ∷ [])
      (seq_joined Rule optional_not (word keyword.Null) (token.Word keyword.Not ∷ []) (token.Word keyword.Null ∷ []) (inl (word_there Rule keyword.Not)) (word_there Rule keyword.Null))
  null_there false =
      word_before Rule keyword.Is (seq optional_not (word keyword.Null)) (token.Word keyword.Null ∷ [])
      (seq_joined Rule optional_not (word keyword.Null) [] (token.Word keyword.Null ∷ []) (inr refl) (word_there Rule keyword.Null))

  abbrev choices : Form
  choices = either in_form (either between_form like_form)

  choice_there : (n : Bool) (us : List Token) → IsTokens Rule choices us → IsTokens Rule choice_form (negated n us)
  choice_there true us h = seq_joined Rule optional_not choices (token.Word keyword.Not ∷ []) us (inl (word_there Rule keyword.Not)) h
  choice_there false us h = seq_joined Rule optional_not choices [] us (inr refl) h

  tailed : (us vs : List Token) → IsTokens Rule sum_form us → IsTokens Rule tail_form vs → IsTokens Rule test_form (us ++ vs)
  unfolding test_form
  tailed us vs h k = seq_joined Rule sum_form (optional tail_form) us vs h (inl k)

  untailed : (us : List Token) → IsTokens Rule sum_form us → IsTokens Rule test_form us
  unfolding test_form
  untailed us h = subst (IsTokens Rule (seq sum_form (optional tail_form))) (append-nil us) (seq_joined Rule sum_form (optional tail_form) us [] h (inr refl))

  test_prints : Prints Rule Expressions 3 0 limit test_form
  unfolding tail_form
  test_prints (Compare c a b) s m h =
      let p = both (stands 4 a (is_built a)) _ s in
      tailed (print a) (token.Compare c ∷ print b) (sum_prints a p.0 (left_max 0 (nests a) (nests b) limit m) refl)
      (inl (seq_joined Rule (terminal_form terminal.Compare) sum_form (token.Compare c ∷ []) (print b) (terminal_there Rule terminal.Compare (token.Compare c) refl) (sum_prints b p.1 (right_max 0 (nests a) (nests b) limit m) refl)))
  test_prints (IsNull n a) s m h =
      tailed (print a) (token.Word keyword.Is ∷ negated n (token.Word keyword.Null ∷ [])) (sum_prints a s m refl) (inr (inl (null_there n)))
  test_prints (In n a args) s m h =
      let p = both (stands 4 a (is_built a)) _ s in
      let us = token.Sign sign.Open ∷ (print_args args ++ token.Sign sign.Close ∷ []) in
      tailed (print a) (negated n (token.Word keyword.In ∷ us)) (sum_prints a p.0 (left_max 0 (nests a) (nests_args args) limit m) refl)
      (inr (inr (choice_there n (token.Word keyword.In ∷ us) (inl (word_before Rule keyword.In (bracketed (listed sum_form)) us
      (with_brackets Rule (listed sum_form) (print_args args) (args_there Rule Expressions 4 0 limit sum_form sum_prints args p.1 (right_max 0 (nests a) (nests_args args) limit m) refl)))))))
  test_prints (Between n a low high) s m h =
      let p = both (stands 4 a (is_built a)) _ s in
      let q = both (stands 4 low (is_built low)) _ p.1 in
      let less = right_max 0 (nests a) (max (nests low) (nests high)) limit m in
      let us = print low ++ token.Word keyword.And ∷ print high in
      tailed (print a) (negated n (token.Word keyword.Between ∷ us)) (sum_prints a p.0 (left_max 0 (nests a) (max (nests low) (nests high)) limit m) refl)
      (inr (inr (choice_there n (token.Word keyword.Between ∷ us) (inr (inl (word_before Rule keyword.Between (seq sum_form (seq (word keyword.And) sum_form)) us
      (seq_joined Rule sum_form (seq (word keyword.And) sum_form) (print low) (token.Word keyword.And ∷ print high) (sum_prints low q.0 (left_max 0 (nests low) (nests high) limit less) refl)
      (word_before Rule keyword.And sum_form (print high) (sum_prints high q.1 (right_max 0 (nests low) (nests high) limit less) refl)))))))))
  test_prints (Like n a text) s m h =
      tailed (print a) (negated n (token.Word keyword.Like ∷ token.Text text ∷ [])) (sum_prints a s m refl)
      (inr (inr (choice_there n (token.Word keyword.Like ∷ token.Text text ∷ []) (inr (inr (word_before Rule keyword.Like (terminal_form terminal.Text) (token.Text text ∷ []) (terminal_there Rule terminal.Text (token.Text text) refl)))))))
  test_prints (Chain joint.Or a b) s m h = absurd (false≢true s)
  test_prints (Chain joint.And a b) s m h = absurd (false≢true s)
  test_prints e s m h = untailed (print e) (sum_prints e s m h)

  -- ---- NOT, AND and OR

  pub not_prints : Prints Rule Expressions 2 0 limit not_form
  unfolding not_form
  not_prints (Not a) s m h = inl (word_before Rule keyword.Not (nested 1) (print a) (denied a s (omega arith) refl))
  not_prints (Chain joint.Or a b) s m h = absurd (false≢true s)
  not_prints (Chain joint.And a b) s m h = absurd (false≢true s)
  not_prints e s m h = inr (test_prints e s m h)

  and_prints : Prints Rule Expressions 1 0 limit and_form
  unfolding and_form
  and_prints (Chain joint.And a b) s m h =
      let p = both (stands 1 a (is_built a)) _ s in
      chain_there Rule Expressions 1 limit (terminal.Word keyword.And ∷ []) not_form (print a) (token.Word keyword.And) (print b)
      (and_prints a p.0 (left_max 0 (nests a) (nests b) limit m) refl) (inl (word_there Rule keyword.And)) (not_prints b p.1 (right_max 0 (nests a) (nests b) limit m) refl)
  and_prints e s m h = chain_begun Rule Expressions 1 limit (terminal.Word keyword.And ∷ []) not_form (print e) (not_prints e s m h)

  pub expr_prints : Prints Rule Expressions 0 0 limit expr_form
  unfolding expr_form
  expr_prints (Chain joint.Or a b) s m h =
      let p = both (stands 0 a (is_built a)) _ s in
      chain_there Rule Expressions 0 limit (terminal.Word keyword.Or ∷ []) and_form (print a) (token.Word keyword.Or) (print b)
      (expr_prints a p.0 (left_max 0 (nests a) (nests b) limit m) refl) (inl (word_there Rule keyword.Or)) (and_prints b p.1 (right_max 0 (nests a) (nests b) limit m) refl)
  expr_prints e s m h = chain_begun Rule Expressions 0 limit (terminal.Word keyword.Or ∷ []) and_form (print e) (and_prints e s m h)
