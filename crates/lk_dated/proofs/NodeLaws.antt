-- The last node of a list is that of its expression, which is a text literal where that node is one.
use Rattle.std.proofs.Common.{◌≡◌, ℕ, ◌+◌, ◌-◌, ◌≤◌, true, List, [], ◌∷◌, ◌++◌, length, get_or, take, drop, refl, sym, ap, ◌∙◌, subst, arith, length-append}
use Rattle.std.proofs.lemmas.Bool.{false≢true}
use Rattle.std.proofs.lemmas.List.{append-nil, take_all, take_more}
use Rattle.std.proofs.lemmas.List.Sums.{fold-append}
use Rattle.lk_postfix.specs.Postfix.{Builds, after_node, after_nodes, is_whole}
use Rattle.lk_postfix.proofs.PostfixLaws.{Builds-one}
use Rattle.lk_types.specs.Formula.{Formula}
use Rattle.lk_types.specs.FormulaNodes.{arity, formula_of, made}
use Rattle.lk_types.specs.declared.expr.Node.{Node}
use Rattle.lk_types.specs.declared.expr.Node.TheVariants as node
use Rattle.lk_types.proofs.NodeLaws.{BuildsOne, own}
use Rattle.lk_dated.specs.Dated.{text_of}
use Rattle.lk_dated.specs.DatedNodes.{equations_beside, text_of_node}
use Rattle.lk_dated.specs.declared.side.Side.{Side}

one : (low : List Formula) (t f : Formula) → low ++ t ∷ [] ≡ f ∷ [] → f ≡ t
one [] t f h = cc
one (x ∷ low) t f h = absurd (omega (arith, ap length h, length-append low (t ∷ [])))

made_text : (n : Node) (xs : List Formula) → text_of (made n xs) ≡ text_of_node n
made_text (node.Literal v) xs = refl
made_text n xs = refl

pub last_text : (nodes before : List Node) (n : Node) → is_whole arity nodes ≡ true → nodes ≡ before ++ n ∷ [] → text_of_node n ≡ text_of (formula_of nodes)
last_text nodes before n h is =
    let stack = after_nodes arity made [] before in
    let m = length stack - arity n in
    let left = sym (fold-append (after_node arity made) [] before (n ∷ [])) ∙ ap (after_nodes arity made []) (sym is) ∙ (own nodes h).stack in
    sym (ap text_of (one (take m stack) (made n (drop m stack)) (formula_of nodes) left) ∙ made_text n (drop m stack))

-- no list of nodes without a node is whole
pub some_node : (nodes : List Node) → is_whole arity nodes ≡ true → length nodes ≡ 0 → ⊥
some_node [] h none = false≢true h
some_node (n ∷ nodes) h none = omega arith

pub none_left : (xs : List Formula) → length xs ≡ 0 → xs ≡ []
none_left [] h = refl
none_left (x ∷ xs) h = absurd (omega arith)

-- the nodes of all trees
pub of_all : (nodes : List Node) (done rest all : List Formula) → Builds arity made nodes done → done ++ rest ≡ all → rest ≡ [] → Builds arity made nodes all
of_all nodes done rest all b is none =
    let same : done ≡ all = sym (append-nil done) ∙ ap (λ xs. done ++ xs) (sym none) ∙ is in
    subst (λ ts. Builds arity made nodes ts) same b

-- and the node that takes them
pub of_operands : (nodes after : List Node) (n : Node) (all : List Formula) → Builds arity made nodes all → length all ≡ arity n → after ≡ nodes ++ n ∷ [] → BuildsOne after (made n all)
of_operands nodes after n all b many at = subst (λ ns. BuildsOne ns (made n all)) (sym at) (Builds-one arity made all n b many)

-- beside no expression there is no equation
pub no_equation : (x : Formula) (sides : List Side) → equations_beside x sides [] ≡ []
no_equation x [] = refl
no_equation x (side ∷ sides) = refl

pub first_is : (a b : Formula) → a ∷ [] ≡ b ∷ [] → a ≡ b
first_is a b h = cc

-- ---- the last node

has_node : (nodes : List Node) → is_whole arity nodes ≡ true → 1 ≤ length nodes
has_node [] h = absurd (false≢true h)
has_node (n ∷ nodes) h = omega arith

pub last_at : (nodes : List Node) (m : ℕ) (n : Node) → is_whole arity nodes ≡ true → m ≡ length nodes → n ≡ get_or nodes (m - 1) n → nodes ≡ take (length nodes - 1) nodes ++ n ∷ []
last_at nodes m n h count is =
    let some = has_node nodes h in
    let same : length nodes ≡ (length nodes - 1) + 1 = omega arith in
    let at : n ≡ get_or nodes (length nodes - 1) n = is ∙ ap (λ k. get_or nodes (k - 1) n) count in
    sym (take_all (length nodes) nodes (omega arith))
    ∙ ap (λ k. take k nodes) same
    ∙ take_more nodes (length nodes - 1) n (omega arith)
    ∙ ap (λ x. take (length nodes - 1) nodes ++ x ∷ []) (sym at)
