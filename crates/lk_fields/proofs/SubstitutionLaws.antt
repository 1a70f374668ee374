-- One pass over the nodes of an expression: the nodes so far build the expressions so far, with others in place of columns.
use Rattle.std.proofs.Common.{◌≡◌, ℕ, zero, suc, ◌+◌, ◌-◌, ◌<◌, ◌≤◌, Bool, true, false, List, [], ◌∷◌, ◌++◌, length, take, drop, get_or, map, Option, Some, None, refl, sym, ap, ◌∙◌, subst, arith, length-append}
use Rattle.std.specs.Prelude.{nat_le, nat_lt, if◌then◌else◌, slice_index_or}
use Rattle.std.proofs.lemmas.Bool.{false≢true}
use Rattle.std.proofs.lemmas.List.{take-append-drop, length-take-le, length-drop, get_or_default, get_or_past, take_more, take_all, at_drop_more, append-nil}
use Rattle.std.proofs.lemmas.List.Sums.{fold-append}
use Rattle.lk_val.specs.declared.value.Value.TheVariants as value
use Rattle.lk_postfix.specs.Postfix.{Builds, after_node, after_nodes, depth_after, is_one, is_whole}
use Rattle.lk_postfix.proofs.PostfixLaws.{after_nodes-map, Builds-append, Builds-node, Builds-none, tree-Builds, whole-Builds}
use Rattle.lk_types.specs.Formula as formula
use Rattle.lk_types.specs.Formula.{Formula, Literal, more, when}
use Rattle.lk_types.specs.FormulaNodes.{arity, cases_of, formula_of, formulas_of, made, operand}
use Rattle.lk_types.specs.declared.expr.Node.{Node}
use Rattle.lk_types.specs.declared.expr.Node.TheVariants as node
use Rattle.lk_types.proofs.NodeLaws.{BuildsOne, own}
use Rattle.lk_fields.specs.Substituted.{replacement, substituted, substituted_all, substituted_cases}
use Rattle.lk_fields.specs.SubstitutedNodes.{IsAddedWith, made_with}

if_some : (b : Bool) (x : Option ℕ) (e : ℕ) → (if b then x else None) ≡ Some e → (b ≡ true) × (x ≡ Some e)
if_some true x e h = (refl, h)
if_some false x e h = cc

le_of_test : (m n : ℕ) → nat_le m n ≡ true → m ≤ n
le_of_test m n h = grind arith

one_depth : (depth : Option ℕ) → is_one depth ≡ true → depth ≡ Some 1
one_depth None h = absurd (false≢true h)
one_depth (Some d) h = let same : d ≡ 1 = grind arith in ap (λ m. Some m) same

pub map_at : {A B : Type 0} (f : A → B) (xs : List A) (i : ℕ) (d : A) → slice_index_or (map f xs) i (f d) ≡ f (slice_index_or xs i d)
map_at f [] i d = refl
map_at f (x ∷ xs) zero d = refl
map_at f (x ∷ xs) (suc i) d = map_at f xs i d

map_drop_one : {A B : Type 0} (f : A → B) (xs : List A) → drop 1 (map f xs) ≡ map f (drop 1 xs)
map_drop_one f [] = refl
map_drop_one f (x ∷ xs) = refl

-- ---- what stands for a column

lt_of_test : (m n : ℕ) → nat_lt m n ≡ true → m < n
lt_of_test m n h = grind arith

le_of_no_test : (m n : ℕ) → nat_lt m n ≡ false → n ≤ m
le_of_no_test m n h = grind arith

pub found_at : (by : List Formula) (i : ℕ) (e : Formula) → true ≡ nat_lt i (length by) → e ≡ get_or by i e → e ≡ replacement by i
found_at by i e within is = is ∙ get_or_default by i e (Literal value.Null) (lt_of_test i (length by) (sym within))

pub past_end : (by : List Formula) (i : ℕ) → false ≡ nat_lt i (length by) → Literal value.Null ≡ replacement by i
past_end by i past = sym (get_or_past by i (Literal value.Null) (le_of_no_test i (length by) (sym past)))

module _ (s : ℕ → Formula) where
  abbrev pub put : Formula → Formula
  put e = substituted s e

  -- ---- what a node makes

  at : (xs : List Formula) (i : ℕ) → operand (map put xs) i ≡ put (operand xs i)
  at xs i = map_at put xs i (Literal value.Null)

  all_put : (xs : List Formula) → formulas_of (map put xs) ≡ substituted_all s (formulas_of xs)
  all_put [] = refl
  all_put (x ∷ xs) = ap (λ rest. more (put x) rest) (all_put xs)

  cases_put : (xs : List Formula) → cases_of (map put xs) ≡ substituted_cases s (cases_of xs)
  cases_put [] = refl
  cases_put (a ∷ []) = refl
  cases_put (c ∷ a ∷ xs) = ap (λ rest. when (put c) (put a) rest) (cases_put xs)

  pub does : (n : Node) (xs : List Formula) → made_with s n (map put xs) ≡ put (made n xs)
  does (node.Column part column) xs = refl
  does (node.Literal l) xs = refl
  does (node.Framed f) xs = ap (formula.Framed f) (at xs 0)
  does node.Not xs = ap formula.Not (at xs 0)
  does node.And xs = λ i. formula.And (at xs 0 i) (at xs 1 i)
  does node.Or xs = λ i. formula.Or (at xs 0 i) (at xs 1 i)
  does (node.Compare c) xs = λ i. formula.Compare c (at xs 0 i) (at xs 1 i)
  does node.IsNull xs = ap formula.IsNull (at xs 0)
  does (node.In count) xs = λ i. formula.In (at xs 0 i) ((ap formulas_of (map_drop_one put xs) ∙ all_put (drop 1 xs)) i)
  does node.Between xs = λ i. formula.Between (at xs 0 i) (at xs 1 i) (at xs 2 i)
  does (node.Like pieces) xs = ap (λ a. formula.Like a pieces) (at xs 0)
  does (node.Number op) xs = λ i. formula.Number op (at xs 0 i) (at xs 1 i)
  does node.Negate xs = ap formula.Negate (at xs 0)
  does node.Concat xs = λ i. formula.Concat (at xs 0 i) (at xs 1 i)
  does (node.Case count) xs = ap formula.Case (cases_put xs)
  does (node.Coalesce count) xs = ap formula.Coalesce (all_put xs)
  does node.NullIf xs = λ i. formula.NullIf (at xs 0 i) (at xs 1 i)
  does node.Lower xs = ap formula.Lower (at xs 0)
  does node.Upper xs = ap formula.Upper (at xs 0)

  -- the expressions that some nodes make, with others in place of columns
  abbrev pub stack_of : List Node → List Formula
  stack_of ns = after_nodes arity (made_with s) [] ns

  stack_is : (ns : List Node) → stack_of ns ≡ map put (after_nodes arity made [] ns)
  stack_is ns = after_nodes-map arity made (made_with s) put does [] ns

  -- ---- what is added for a node

  no_column : (n : Node) → ((p c : ℕ) → n ≡ node.Column p c → ⊥) → (xs : List Formula) → made_with s n xs ≡ made n xs
  no_column (node.Column p c) h xs = absurd (h p c refl)
  no_column (node.Literal l) h xs = refl
  no_column (node.Framed f) h xs = refl
  no_column node.Not h xs = refl
  no_column node.And h xs = refl
  no_column node.Or h xs = refl
  no_column (node.Compare c) h xs = refl
  no_column node.IsNull h xs = refl
  no_column (node.In count) h xs = refl
  no_column node.Between h xs = refl
  no_column (node.Like pieces) h xs = refl
  no_column (node.Number op) h xs = refl
  no_column node.Negate h xs = refl
  no_column node.Concat h xs = refl
  no_column (node.Case count) h xs = refl
  no_column (node.Coalesce count) h xs = refl
  no_column node.NullIf h xs = refl
  no_column node.Lower h xs = refl
  no_column node.Upper h xs = refl

  -- the node itself, which is no column
  pub node_added : (n : Node) (before after : List Node) → ((p c : ℕ) → n ≡ node.Column p c → ⊥) → after ≡ before ++ n ∷ [] → IsAddedWith s n before after
  node_added n before after other is low xs many b =
      subst (λ ns. Builds arity made ns (low ++ made_with s n xs ∷ [])) (sym is)
      (subst (λ t. Builds arity made (before ++ n ∷ []) (low ++ t ∷ [])) (sym (no_column n other xs)) (Builds-node arity made low xs n b many))

  -- in place of a column the nodes of what stands for it
  pub column_added : (p c : ℕ) (added before after : List Node) → BuildsOne added (s c) → after ≡ before ++ added → IsAddedWith s (node.Column p c) before after
  column_added p c added before after one is low [] many b =
      subst (λ ns. Builds arity made ns (low ++ s c ∷ [])) (sym is)
      (Builds-append arity made (subst (λ ts. Builds arity made before ts) (append-nil low) b) one)
  column_added p c added before after one is low (x ∷ xs) many b = absurd (omega arith)

  -- ---- the pass

  -- the first nodes are passed, and these build what they make
  pub record IsPassed (ns rest out : List Node) : Type 0 where
    pub left : depth_after arity (length (stack_of ns)) rest ≡ Some 1
    pub nodes : Builds arity made out (stack_of ns)

  passes : (ns rest : List Node) (n : Node) (out after : List Node) → IsAddedWith s n out after → IsPassed ns (n ∷ rest) out → IsPassed (ns ++ n ∷ []) rest after
  passes ns rest n out after added is =
      let stack = stack_of ns in
      let low = take (length stack - arity n) stack in
      let high = drop (length stack - arity n) stack in
      let parts = if_some (nat_le (arity n) (length stack)) (depth_after arity ((length stack - arity n) + 1) rest) 1 is.left in
      let within = le_of_test (arity n) (length stack) parts.0 in
      let split : low ++ high ≡ stack = take-append-drop (length stack - arity n) stack in
      let many : length high ≡ arity n = omega (arith, length-drop (length stack - arity n) stack) in
      let behind : stack_of (ns ++ n ∷ []) ≡ low ++ made_with s n high ∷ [] = fold-append (after_node arity (made_with s)) [] ns (n ∷ []) in
      record {
        left =
            ap (λ ts. depth_after arity (length ts) rest) behind
            ∙ ap (λ m. depth_after arity m rest) (omega (arith, length-append low (made_with s n high ∷ []), length-take-le (length stack - arity n) stack (omega arith)))
            ∙ parts.1;
        nodes =
            subst (λ ts. Builds arity made after ts) (sym behind)
            (added low high many (subst (λ ts. Builds arity made out ts) (sym split) is.nodes));
      }

  -- the nodes before a place of the list are passed
  abbrev pub IsAt : List Node → ℕ → List Node → Type 0
  IsAt ns i out = IsPassed (take i ns) (drop i ns) out

  pub begins : (ns out : List Node) → is_whole arity ns ≡ true → out ≡ [] → IsAt ns 0 out
  begins ns out whole none =
      subst (λ o. IsAt ns 0 o) (sym none)
      (record { left = one_depth (depth_after arity 0 ns) whole; nodes = Builds-none arity made })

  pub goes_on : (ns : List Node) (i : ℕ) (n : Node) (out after : List Node) → i < length ns → n ≡ get_or ns i n → IsAddedWith s n out after → IsAt ns i out → IsAt ns (i + 1) after
  goes_on ns i n out after lt is added at =
      subst (λ front. IsPassed front (drop (i + 1) ns) after)
      (sym (take_more ns i n lt ∙ ap (λ x. take i ns ++ x ∷ []) (sym is)))
      (passes (take i ns) (drop (i + 1) ns) n out after added
      (subst (λ rest. IsPassed (take i ns) rest out) (at_drop_more (λ rest. rest) ns i n lt ∙ ap (λ x. x ∷ drop (i + 1) ns) (sym is)) at))

  module _ (ns out : List Node) (whole : is_whole arity ns ≡ true) (at : IsAt ns (length ns) out) where
    builds : BuildsOne out (put (formula_of ns))
    builds =
        subst (λ ts. Builds arity made out ts) (stack_is ns ∙ ap (map put) (own ns whole).stack)
        (subst (λ front. IsPassed front (drop (length ns) ns) out) (take_all (length ns) ns (omega arith)) at).nodes

    pub is_whole_list : is_whole arity out ≡ true
    is_whole_list = whole-Builds arity made builds

    pub expr_is : formula_of out ≡ put (formula_of ns)
    expr_is = tree-Builds arity made (Literal value.Null) builds
