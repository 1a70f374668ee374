-- What is built of nodes: that the lists of expressions join to those of larger ones, and which parts stand among the nodes.
use Rattle.std.proofs.Common.{◌≡◌, ℕ, Bool, true, false, ◌||◌, List, [], ◌∷◌, ◌++◌, length, refl, sym, ap, ◌∙◌, arith}
use Rattle.std.specs.Prelude.{nat_eq, drop}
use Rattle.std.proofs.lemmas.List.Folds.{list_any-append}
use Rattle.std.specs.List.{list_any}
use Rattle.lk_val.specs.declared.value.Value.TheVariants as value
use Rattle.lk_types.specs.declared.expr.Node.{Node}
use Rattle.lk_types.specs.declared.expr.Node.TheVariants as node
use Rattle.lk_types.specs.Formula.{Formula, Literal}
use Rattle.lk_types.specs.FormulaNodes.{arity, made, formula_of, operand, formulas_of, cases_of, is_of_part}
use Rattle.lk_types.specs.Expressions.{mentions, mentions_all, mentions_cases, has_number}
use Rattle.lk_postfix.specs.Postfix.{Builds, is_whole, gathered}
use Rattle.lk_postfix.proofs.PostfixLaws.{Builds-append, Builds-one, Builds-leaf, Builds-whole, whole-Builds, tree-Builds, gathered-Builds}

-- the nodes build the formula alone
abbrev pub BuildsOne : List Node → Formula → Type 0
BuildsOne nodes e = Builds arity made nodes (e ∷ [])

pub own : (nodes : List Node) → is_whole arity nodes ≡ true → BuildsOne nodes (formula_of nodes)
own nodes h = Builds-whole arity made nodes (Literal value.Null) h

pub whole : {nodes : List Node} {e : Formula} → BuildsOne nodes e → is_whole arity nodes ≡ true
whole b = whole-Builds arity made b

pub tree : {nodes : List Node} {e : Formula} → BuildsOne nodes e → formula_of nodes ≡ e
tree b = tree-Builds arity made (Literal value.Null) b

pub leaf : (n : Node) → arity n ≡ 0 → BuildsOne (n ∷ []) (made n [])
leaf n h = Builds-leaf arity made n h

pub unary : {xs : List Node} {a : Formula} (n : Node) → BuildsOne xs a → arity n ≡ 1 → BuildsOne (xs ++ n ∷ []) (made n (a ∷ []))
unary {a = a} n b h = Builds-one arity made (a ∷ []) n b (sym h)

pub binary : {xs ys : List Node} {a b : Formula} (n : Node) → BuildsOne xs a → BuildsOne ys b → arity n ≡ 2 → BuildsOne ((xs ++ ys) ++ n ∷ []) (made n (a ∷ b ∷ []))
binary {a = a} {b = b} n first second h = Builds-one arity made (a ∷ b ∷ []) n (Builds-append arity made first second) (sym h)

-- ---- the parts that stand in an expression

or_assoc : (a b c : Bool) → ((a || b) || c) ≡ (a || (b || c))
or_assoc true b c = refl
or_assoc false b c = refl

or_none : (a : Bool) → (a || false) ≡ a
or_none true = refl
or_none false = refl

module _ (part : ℕ) where
  -- the part stands in the expression, and in one of some
  abbrev stands : Formula → Bool
  stands e = has_number part (mentions e)

  abbrev any_of : List Formula → Bool
  any_of ts = gathered ◌||◌ false stands ts

  split : (us vs : List ℕ) → has_number part (us ++ vs) ≡ (has_number part us || has_number part vs)
  split us vs = list_any-append (nat_eq part) us vs

  one_of : (ts : List Formula) → length ts ≡ 1 → (any_of ts || false) ≡ stands (operand ts 0)
  one_of [] h = absurd (omega arith)
  one_of (a ∷ []) h = or_none (stands a || false) ∙ or_none (stands a)
  one_of (a ∷ b ∷ ts) h = absurd (omega arith)

  two_of : (ts : List Formula) → length ts ≡ 2 → (any_of ts || false) ≡ has_number part (mentions (operand ts 0) ++ mentions (operand ts 1))
  two_of [] h = absurd (omega arith)
  two_of (a ∷ []) h = absurd (omega arith)
  two_of (a ∷ b ∷ []) h =
      or_none (stands a || (stands b || false)) ∙ ap (λ x. stands a || x) (or_none (stands b)) ∙ sym (split (mentions a) (mentions b))
  two_of (a ∷ b ∷ c ∷ ts) h = absurd (omega arith)

  three_of : (ts : List Formula) → length ts ≡ 3 → (any_of ts || false) ≡ has_number part (mentions (operand ts 0) ++ mentions (operand ts 1) ++ mentions (operand ts 2))
  three_of [] h = absurd (omega arith)
  three_of (a ∷ []) h = absurd (omega arith)
  three_of (a ∷ b ∷ []) h = absurd (omega arith)
  three_of (a ∷ b ∷ c ∷ []) h =
      or_none (stands a || (stands b || (stands c || false))) ∙ ap (λ x. stands a || (stands b || x)) (or_none (stands c))
      ∙ sym (or_assoc (stands a) (stands b) (stands c))
      ∙ ap (λ x. x || stands c) (sym (split (mentions a) (mentions b)))
      ∙ sym (split (mentions a ++ mentions b) (mentions c))
  three_of (a ∷ b ∷ c ∷ d ∷ ts) h = absurd (omega arith)

  all_of : (ts : List Formula) → has_number part (mentions_all (formulas_of ts)) ≡ any_of ts
  all_of [] = refl
  all_of (a ∷ ts) = split (mentions a) (mentions_all (formulas_of ts)) ∙ ap (λ x. stands a || x) (all_of ts)

  in_cases : (ts : List Formula) → has_number part (mentions_cases (cases_of ts)) ≡ any_of ts
  in_cases [] = refl
  in_cases (a ∷ []) = sym (or_none (stands a))
  in_cases (c ∷ a ∷ ts) =
      split (mentions c ++ mentions a) (mentions_cases (cases_of ts))
      ∙ ap (λ x. x || has_number part (mentions_cases (cases_of ts))) (split (mentions c) (mentions a))
      ∙ or_assoc (stands c) (stands a) (has_number part (mentions_cases (cases_of ts)))
      ∙ ap (λ x. stands c || (stands a || x)) (in_cases ts)

  in_list : (ts : List Formula) → has_number part (mentions (operand ts 0) ++ mentions_all (formulas_of (drop 1 ts))) ≡ any_of ts
  in_list [] = refl
  in_list (a ∷ ts) = split (mentions a) (mentions_all (formulas_of ts)) ∙ ap (λ x. stands a || x) (all_of ts)

  does : (n : Node) (ts : List Formula) → length ts ≡ arity n → stands (made n ts) ≡ (any_of ts || is_of_part part n)
  does (node.Column p c) [] h = or_none (nat_eq part p)
  does (node.Column p c) (t ∷ ts) h = absurd (omega arith)
  does (node.Literal v) [] h = refl
  does (node.Literal v) (t ∷ ts) h = absurd (omega arith)
  does (node.Framed f) ts h = sym (one_of ts h)
  does node.Not ts h = sym (one_of ts h)
  does node.And ts h = sym (two_of ts h)
  does node.Or ts h = sym (two_of ts h)
  does (node.Compare c) ts h = sym (two_of ts h)
  does node.IsNull ts h = sym (one_of ts h)
  does (node.In count) ts h = in_list ts ∙ sym (or_none (any_of ts))
  does node.Between ts h = sym (three_of ts h)
  does (node.Like pieces) ts h = sym (one_of ts h)
  does (node.Number op) ts h = sym (two_of ts h)
  does node.Negate ts h = sym (one_of ts h)
  does node.Concat ts h = sym (two_of ts h)
  does (node.Case count) ts h = in_cases ts ∙ sym (or_none (any_of ts))
  does (node.Coalesce count) ts h = all_of ts ∙ sym (or_none (any_of ts))
  does node.NullIf ts h = sym (two_of ts h)
  does node.Lower ts h = sym (one_of ts h)
  does node.Upper ts h = sym (one_of ts h)

  any_node : (nodes : List Node) → gathered ◌||◌ false (is_of_part part) nodes ≡ list_any (is_of_part part) nodes
  any_node [] = refl
  any_node (n ∷ nodes) = ap (λ x. is_of_part part n || x) (any_node nodes)

  -- the part stands in the expression where a node is a column of it
  pub stands-any : (nodes : List Node) → is_whole arity nodes ≡ true → list_any (is_of_part part) nodes ≡ has_number part (mentions (formula_of nodes))
  stands-any nodes h =
      sym (any_node nodes)
      ∙ sym (gathered-Builds arity made ◌||◌ false or_assoc (λ a. refl) or_none stands (is_of_part part) does (own nodes h))
      ∙ or_none (stands (formula_of nodes))
