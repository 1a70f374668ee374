-- Expressions that are made: of tokens whose terminals are a text of the form, a tree is made that prints them.
use Rattle.std.proofs.Common.{◌≡◌, inl, inr, ℕ, ◌+◌, ◌≤◌, Bool, true, false, List, [], ◌∷◌, ◌++◌, refl, sym, ap, subst, ◌∙◌, append-nil, arith}
use Rattle.std.specs.Prelude.{max}
use Rattle.lk_grammar.specs.Forms.{seq, either, nested, optional}
use Rattle.lk_expr_token.specs.declared.token.Keyword.TheVariants as keyword
use Rattle.lk_expr_token.specs.declared.token.Sign.TheVariants as sign
use Rattle.lk_expr_token.specs.declared.token.Token.{Token}
use Rattle.lk_expr_token.specs.declared.token.Token.TheVariants as token
use Rattle.lk_expr_token.specs.declared.terminal.Terminal.TheVariants as terminal
use Rattle.lk_expr_tree.specs.declared.raw.Joint.TheVariants as joint
use Rattle.lk_expr_tree.specs.Grammar.{Tree, Number, Text, Name, Column, Field, FieldOf, Truth, Null, Case, CaseElse, Compare, IsNull, In, Between, Like, Not, Branches, when, then_when, negated, print, print_args, print_branches, are_branches_built, nests, nests_args, nests_branches}
use Rattle.lk_expr_token.proofs.LexSteps.{together}
use Rattle.lk_expr_text.proofs.ParseSound.{Stands, max_deeper}
use Rattle.lk_expr_place.specs.declared.judging.Grammar.TheVariants.{Expressions}
use Rattle.lk_expr_place.specs.GrammarForms.{terminal_form, word, one_of, bracketed, listed, product_signs, literals, names, sum_signs, named_form, branch_form, branches_form, else_form, case_form, atom_form, unary_form, term_form, sum_form, optional_not, compared_form, null_form, in_form, between_form, like_form, choice_form, tail_form, test_form, not_form, and_form, expr_form}
use Rattle.lk_expr_place.proofs.TerminalTokens.{IsTokens, IsSplit, folded, seq_split, terminal_is, word_is, one_is, word_led, in_brackets, no_tokens}
use Rattle.lk_expr_place.proofs.TerminalTrees.{IsMade, Makes, looser, front_back, chain_made, args_made, group_made, minus_made, call_made}

-- a name alone
record IsName (ts : List Token) : Type 0 where
  name : List ℕ
  place : ℕ
  is : ts ≡ token.Name name place ∷ []

-- a condition and its value, behind WHEN
record IsBranch (deeper limit : ℕ) (ts : List Token) : Type 0 where
  condition : Tree
  value : Tree
  condition_stood : Stands 0 condition
  value_stood : Stands 0 value
  condition_shallow : deeper + nests condition ≤ limit
  value_shallow : deeper + nests value ≤ limit
  printed : ts ≡ token.Word keyword.When ∷ (print condition ++ token.Word keyword.Then ∷ print value)

record AreBranches (deeper limit : ℕ) (ts : List Token) : Type 0 where
  branches : Branches
  built : are_branches_built branches ≡ true
  shallow : deeper + nests_branches branches ≤ limit
  printed : ts ≡ print_branches branches

begun_branches : (deeper limit : ℕ) (us : List Token) → IsBranch deeper limit us → AreBranches deeper limit us
begun_branches deeper limit us b = record {
  branches = when b.condition b.value;
  built = together _ _ b.condition_stood b.value_stood;
  shallow = max_deeper deeper (nests b.condition) (nests b.value) limit b.condition_shallow b.value_shallow;
  printed = b.printed;
}

more_branches : (deeper limit : ℕ) (us vs : List Token) → AreBranches deeper limit us → IsBranch deeper limit vs → AreBranches deeper limit (us ++ vs)
more_branches deeper limit us vs all b = record {
  branches = then_when all.branches b.condition b.value;
  built = together (are_branches_built all.branches) _ all.built (together _ _ b.condition_stood b.value_stood);
  shallow = max_deeper deeper (nests_branches all.branches) (max (nests b.condition) (nests b.value)) limit all.shallow (max_deeper deeper (nests b.condition) (nests b.value) limit b.condition_shallow b.value_shallow);
  printed = front_back us vs (print_branches all.branches) _ all.printed b.printed;
}

negated_front : (n : Bool) (us : List Token) → negated n [] ++ us ≡ negated n us
negated_front true us = refl
negated_front false us = refl

module _ (Rule : ℕ → List ℕ → Type 0) (limit : ℕ) (whole : Makes Rule Expressions 0 1 limit (nested 0)) (denied : Makes Rule Expressions 2 1 limit (nested 1)) (minus : Makes Rule Expressions 6 1 limit (nested 2)) where
  -- ---- atoms

  literal_made : Makes Rule Expressions 7 0 limit (one_of literals)
  literal_made ts h =
      one_is Rule (IsMade Expressions 7 0 limit) literals (
        λ t l. record { tree = Number l.0; stood = refl; shallow = omega arith; meant = refl; printed = ap (λ z. z ∷ []) l.1 },
        (
          λ t l. record { tree = Text l.0; stood = refl; shallow = omega arith; meant = refl; printed = ap (λ z. z ∷ []) l.1 },
          (
            λ t l. record { tree = Truth true; stood = refl; shallow = omega arith; meant = refl; printed = ap (λ z. z ∷ []) l },
            (
              λ t l. record { tree = Truth false; stood = refl; shallow = omega arith; meant = refl; printed = ap (λ z. z ∷ []) l },
              (
                λ t l. record { tree = Null; stood = refl; shallow = omega arith; meant = refl; printed = ap (λ z. z ∷ []) l },
                (
                  λ t l. record { tree = Column l.0; stood = refl; shallow = omega arith; meant = refl; printed = ap (λ z. z ∷ []) l.1 },
                  (
                    λ t l. record { tree = Field l.0; stood = refl; shallow = omega arith; meant = refl; printed = ap (λ z. z ∷ []) l.1 },
                    (λ t l. record { tree = FieldOf l.0 l.1.0; stood = refl; shallow = omega arith; meant = refl; printed = ap (λ z. z ∷ []) l.1.1 }, tt),
                  ),
                ),
              ),
            ),
          ),
        ),
      )
      ts h

  name_is : (ts : List Token) → IsTokens Rule (one_of names) ts → IsName ts
  name_is ts h =
      one_is Rule IsName names (
        λ t l. record { name = l.name; place = l.place; is = ap (λ z. z ∷ []) l.is },
        (λ t l. record { name = l.name; place = l.place; is = ap (λ z. z ∷ []) l.is }, tt),
      )
      ts h

  named_made : Makes Rule Expressions 7 0 limit named_form
  unfolding named_form
  named_made ts h =
      let s = seq_split Rule (one_of names) (optional (bracketed (listed (nested 0)))) ts h in
      let n = name_is s.front s.first in
      let joined : ts ≡ token.Name n.name n.place ∷ s.back = s.joined ∙ ap (λ z. z ++ s.back) n.is in
      elim s.second [
        | inl b ↦ subst (IsMade Expressions 7 0 limit) (sym joined) (call_made Rule Expressions limit n.name n.place (nested 0) whole (λ args m. refl) s.back b)
        | inr none ↦ record { tree = Name n.name n.place; stood = refl; shallow = omega arith; meant = refl; printed = joined ∙ ap (λ z. token.Name n.name n.place ∷ z) (no_tokens s.back none) }
      ]

  branch_made : (ts : List Token) → IsTokens Rule branch_form ts → IsBranch 1 limit ts
  branch_made ts h =
      let l = word_led Rule keyword.When (seq (nested 0) (seq (word keyword.Then) (nested 0))) ts h in
      let s = seq_split Rule (nested 0) (seq (word keyword.Then) (nested 0)) l.rest l.behind in
      let v = word_led Rule keyword.Then (nested 0) s.back s.second in
      let c = whole s.front s.first in
      let a = whole v.rest v.behind in
      record {
        condition = c.tree;
        value = a.tree;
        condition_stood = c.stood;
        value_stood = a.stood;
        condition_shallow = c.shallow;
        value_shallow = a.shallow;
        printed = l.joined ∙ ap (λ z. token.Word keyword.When ∷ z) (s.joined ∙ front_back s.front s.back (print c.tree) (token.Word keyword.Then ∷ print a.tree) c.printed (v.joined ∙ ap (λ z. token.Word keyword.Then ∷ z) a.printed));
      }

  branches_made : (ts : List Token) → IsTokens Rule branches_form ts → AreBranches 1 limit ts
  branches_made ts h =
      folded Rule {Whole = AreBranches 1 limit} branch_form branch_form
      (λ us first. begun_branches 1 limit us (branch_made us first))
      (λ us vs all next. more_branches 1 limit us vs all (branch_made vs next))
      ts h

  ended : (us vs : List Token) → AreBranches 1 limit us → IsSplit (IsTokens Rule (optional else_form)) (IsTokens Rule (word keyword.End)) vs → IsMade Expressions 7 0 limit (token.Word keyword.Case ∷ (us ++ vs))
  ended us vs b s =
      let end = word_is Rule keyword.End s.back s.second in
      elim s.first [
        | inl o ↦
            let l = word_led Rule keyword.Else (nested 0) s.front o in
            let a = whole l.rest l.behind in
            record {
              tree = CaseElse b.branches a.tree;
              stood = together (are_branches_built b.branches) _ b.built a.stood;
              shallow = (let m = max_deeper 1 (nests_branches b.branches) (nests a.tree) limit b.shallow a.shallow in omega arith);
              meant = refl;
              printed = ap (λ z. token.Word keyword.Case ∷ z) (front_back us vs (print_branches b.branches) (token.Word keyword.Else ∷ (print a.tree ++ token.Word keyword.End ∷ [])) b.printed
                  (s.joined ∙ front_back s.front s.back (token.Word keyword.Else ∷ print a.tree) (token.Word keyword.End ∷ []) (l.joined ∙ ap (λ z. token.Word keyword.Else ∷ z) a.printed) end));
            }
        | inr none ↦ record {
          tree = Case b.branches;
          stood = b.built;
          shallow = (let m = b.shallow in omega arith);
          meant = refl;
          printed = ap (λ z. token.Word keyword.Case ∷ z) (front_back us vs (print_branches b.branches) (token.Word keyword.End ∷ []) b.printed
              (s.joined ∙ front_back s.front s.back [] (token.Word keyword.End ∷ []) (no_tokens s.front none) end));
        }
      ]

  case_made : Makes Rule Expressions 7 0 limit case_form
  unfolding case_form
  case_made ts h =
      let l = word_led Rule keyword.Case (seq branches_form (seq (optional else_form) (word keyword.End))) ts h in
      let s = seq_split Rule branches_form (seq (optional else_form) (word keyword.End)) l.rest l.behind in
      subst (IsMade Expressions 7 0 limit) (sym (l.joined ∙ ap (λ z. token.Word keyword.Case ∷ z) s.joined))
      (ended s.front s.back (branches_made s.front s.first) (seq_split Rule (optional else_form) (word keyword.End) s.back s.second))

  atom_made : Makes Rule Expressions 7 0 limit atom_form
  unfolding atom_form
  atom_made ts h =
      elim h [
        | inl p ↦ literal_made ts p
        | inr q ↦ elim q [
          | inl n ↦ named_made ts n
          | inr r ↦ elim r [ inl a ↦ group_made Rule Expressions limit 0 (nested 0) whole ts a | inr c ↦ case_made ts c ]
        ]
      ]

  pub unary_made : Makes Rule Expressions 6 0 limit unary_form
  unfolding unary_form
  unary_made ts h =
      elim h [
        | inl p ↦ minus_made Rule Expressions limit (nested 2) minus ts p
        | inr q ↦ looser Expressions 6 7 0 limit ts (omega arith) (atom_made ts q)
      ]

  -- ---- sums

  term_made : Makes Rule Expressions 5 0 limit term_form
  unfolding term_form
  term_made =
      chain_made Rule Expressions 5 limit product_signs unary_form (
        λ t l. record { joint = joint.Times; binds = refl; may = refl; printed = ap (λ z. z ∷ []) l },
        (λ t l. record { joint = joint.Over; binds = refl; may = refl; printed = ap (λ z. z ∷ []) l }, tt),
      )
      unary_made

  sum_made : Makes Rule Expressions 4 0 limit sum_form
  unfolding sum_form
  sum_made =
      chain_made Rule Expressions 4 limit sum_signs term_form (
        λ t l. record { joint = joint.Plus; binds = refl; may = refl; printed = ap (λ z. z ∷ []) l },
        (
          λ t l. record { joint = joint.Minus; binds = refl; may = refl; printed = ap (λ z. z ∷ []) l },
          (λ t l. record { joint = joint.Concat; binds = refl; may = refl; printed = ap (λ z. z ∷ []) l }, tt),
        ),
      )
      term_made

  -- ---- tests

  not_is : (ts : List Token) → IsTokens Rule optional_not ts → (n : Bool) × (ts ≡ negated n [])
  not_is ts h = elim h [ inl p ↦ (true, word_is Rule keyword.Not ts p) | inr none ↦ (false, no_tokens ts none) ]

  compared_made : (us : List Token) → IsMade Expressions 4 0 limit us → (vs : List Token) → IsTokens Rule compared_form vs → IsMade Expressions 3 0 limit (us ++ vs)
  compared_made us a vs h =
      let s = seq_split Rule (terminal_form terminal.Compare) sum_form vs h in
      let k = terminal_is Rule terminal.Compare s.front s.first in
      let b = sum_made s.back s.second in
      record {
        tree = Compare k.like.0 a.tree b.tree;
        stood = together _ _ a.stood b.stood;
        shallow = max_deeper 0 (nests a.tree) (nests b.tree) limit a.shallow b.shallow;
        meant = refl;
        printed = front_back us vs (print a.tree) (token.Compare k.like.0 ∷ print b.tree) a.printed
            (s.joined ∙ front_back s.front s.back (token.Compare k.like.0 ∷ []) (print b.tree) (k.alone ∙ ap (λ z. z ∷ []) k.like.1) b.printed);
      }

  null_made : (us : List Token) → IsMade Expressions 4 0 limit us → (vs : List Token) → IsTokens Rule null_form vs → IsMade Expressions 3 0 limit (us ++ vs)
  null_made us a vs h =
      let l = word_led Rule keyword.Is (seq optional_not (word keyword.Null)) vs h in
      let s = seq_split Rule optional_not (word keyword.Null) l.rest l.behind in
      let n = not_is s.front s.first in
      let nulls : s.front ++ s.back ≡ negated n.0 (token.Word keyword.Null ∷ []) =
      front_back s.front s.back (negated n.0 []) (token.Word keyword.Null ∷ []) n.1 (word_is Rule keyword.Null s.back s.second) ∙ negated_front n.0 (token.Word keyword.Null ∷ []) in
      record {
        tree = IsNull n.0 a.tree;
        stood = a.stood;
        shallow = a.shallow;
        meant = refl;
        printed = front_back us vs (print a.tree) (token.Word keyword.Is ∷ negated n.0 (token.Word keyword.Null ∷ [])) a.printed
            (l.joined ∙ ap (λ z. token.Word keyword.Is ∷ z) (s.joined ∙ nulls));
      }

  in_made : (n : Bool) (us : List Token) → IsMade Expressions 4 0 limit us → (vs : List Token) → IsTokens Rule in_form vs → IsMade Expressions 3 0 limit (us ++ negated n vs)
  in_made n us a vs h =
      let l = word_led Rule keyword.In (bracketed (listed sum_form)) vs h in
      let b = in_brackets Rule (listed sum_form) l.rest l.behind in
      let args = args_made Rule Expressions 4 0 limit sum_form sum_made b.inside b.within in
      record {
        tree = In n a.tree args.args;
        stood = together _ _ a.stood args.built;
        shallow = max_deeper 0 (nests a.tree) (nests_args args.args) limit a.shallow args.shallow;
        meant = refl;
        printed = front_back us (negated n vs) (print a.tree) (negated n (token.Word keyword.In ∷ token.Sign sign.Open ∷ (print_args args.args ++ token.Sign sign.Close ∷ []))) a.printed
            (ap (negated n) (l.joined ∙ ap (λ z. token.Word keyword.In ∷ z) (b.joined ∙ ap (λ z. token.Sign sign.Open ∷ (z ++ token.Sign sign.Close ∷ [])) args.printed)));
      }

  between_made : (n : Bool) (us : List Token) → IsMade Expressions 4 0 limit us → (vs : List Token) → IsTokens Rule between_form vs → IsMade Expressions 3 0 limit (us ++ negated n vs)
  between_made n us a vs h =
      let l = word_led Rule keyword.Between (seq sum_form (seq (word keyword.And) sum_form)) vs h in
      let s = seq_split Rule sum_form (seq (word keyword.And) sum_form) l.rest l.behind in
      let v = word_led Rule keyword.And sum_form s.back s.second in
      let low = sum_made s.front s.first in
      let high = sum_made v.rest v.behind in
      record {
        tree = Between n a.tree low.tree high.tree;
        stood = together _ _ a.stood (together _ _ low.stood high.stood);
        shallow = max_deeper 0 (nests a.tree) (max (nests low.tree) (nests high.tree)) limit a.shallow (max_deeper 0 (nests low.tree) (nests high.tree) limit low.shallow high.shallow);
        meant = refl;
        printed = front_back us (negated n vs) (print a.tree) (negated n (token.Word keyword.Between ∷ (print low.tree ++ token.Word keyword.And ∷ print high.tree))) a.printed
            (ap (negated n) (l.joined ∙ ap (λ z. token.Word keyword.Between ∷ z) (s.joined ∙ front_back s.front s.back (print low.tree) (token.Word keyword.And ∷ print high.tree) low.printed (v.joined ∙ ap (λ z. token.Word keyword.And ∷ z) high.printed))));
      }

  like_made : (n : Bool) (us : List Token) → IsMade Expressions 4 0 limit us → (vs : List Token) → IsTokens Rule like_form vs → IsMade Expressions 3 0 limit (us ++ negated n vs)
  like_made n us a vs h =
      let l = word_led Rule keyword.Like (terminal_form terminal.Text) vs h in
      let k = terminal_is Rule terminal.Text l.rest l.behind in
      record {
        tree = Like n a.tree k.like.0;
        stood = a.stood;
        shallow = a.shallow;
        meant = refl;
        printed = front_back us (negated n vs) (print a.tree) (negated n (token.Word keyword.Like ∷ token.Text k.like.0 ∷ [])) a.printed
            (ap (negated n) (l.joined ∙ ap (λ z. token.Word keyword.Like ∷ z) (k.alone ∙ ap (λ z. z ∷ []) k.like.1)));
      }

  choice_made : (us : List Token) → IsMade Expressions 4 0 limit us → (vs : List Token) → IsTokens Rule choice_form vs → IsMade Expressions 3 0 limit (us ++ vs)
  choice_made us a vs h =
      let s = seq_split Rule optional_not (either in_form (either between_form like_form)) vs h in
      let n = not_is s.front s.first in
      subst (λ z. IsMade Expressions 3 0 limit (us ++ z)) (sym (s.joined ∙ ap (λ z. z ++ s.back) n.1 ∙ negated_front n.0 s.back))
      (elim s.second [
        | inl p ↦ in_made n.0 us a s.back p
        | inr q ↦ elim q [ inl b ↦ between_made n.0 us a s.back b | inr k ↦ like_made n.0 us a s.back k ]
      ])

  tail_made : (us : List Token) → IsMade Expressions 4 0 limit us → (vs : List Token) → IsTokens Rule tail_form vs → IsMade Expressions 3 0 limit (us ++ vs)
  unfolding tail_form
  tail_made us a vs h =
      elim h [
        | inl p ↦ compared_made us a vs p
        | inr q ↦ elim q [ inl k ↦ null_made us a vs k | inr c ↦ choice_made us a vs c ]
      ]

  test_made : Makes Rule Expressions 3 0 limit test_form
  unfolding test_form
  test_made ts h =
      let s = seq_split Rule sum_form (optional tail_form) ts h in
      let a = sum_made s.front s.first in
      subst (IsMade Expressions 3 0 limit) (sym s.joined)
      (elim s.second [
        | inl t ↦ tail_made s.front a s.back t
        | inr none ↦ subst (λ z. IsMade Expressions 3 0 limit (s.front ++ z)) (sym (no_tokens s.back none)) (subst (IsMade Expressions 3 0 limit) (sym (append-nil s.front)) (looser Expressions 3 4 0 limit s.front (omega arith) a))
      ])

  -- ---- NOT, AND and OR

  pub not_made : Makes Rule Expressions 2 0 limit not_form
  unfolding not_form
  not_made ts h =
      elim h [
        | inl p ↦
            let l = word_led Rule keyword.Not (nested 1) ts p in
            let a = denied l.rest l.behind in
            record {
              tree = Not a.tree;
              stood = a.stood;
              shallow = (let m = a.shallow in omega arith);
              meant = refl;
              printed = l.joined ∙ ap (λ z. token.Word keyword.Not ∷ z) a.printed;
            }
        | inr q ↦ looser Expressions 2 3 0 limit ts (omega arith) (test_made ts q)
      ]

  and_made : Makes Rule Expressions 1 0 limit and_form
  unfolding and_form
  and_made =
      chain_made Rule Expressions 1 limit (terminal.Word keyword.And ∷ []) not_form
      (λ t l. record { joint = joint.And; binds = refl; may = refl; printed = ap (λ z. z ∷ []) l }, tt)
      not_made

  pub expr_made : Makes Rule Expressions 0 0 limit expr_form
  unfolding expr_form
  expr_made =
      chain_made Rule Expressions 0 limit (terminal.Word keyword.Or ∷ []) and_form
      (λ t l. record { joint = joint.Or; binds = refl; may = refl; printed = ap (λ z. z ∷ []) l }, tt)
      and_made
