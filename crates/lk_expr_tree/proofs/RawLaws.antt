-- What lists of nodes build where expressions grow by a step.
use Rattle.std.proofs.Common.{◌≡◌, ℕ, ◌+◌, ◌-◌, ◌<◌, Bool, true, false, List, [], ◌∷◌, ◌++◌, length, take, Option, Some, None, refl, sym, ap, ◌∙◌, arith, length-append}
use Rattle.std.specs.Prelude.{nat_le, if◌then◌else◌, reverse}
use Rattle.std.proofs.lemmas.List.{length-take-le, length-reverse, reverse-append, take-append-le, get_or-append_right}
use Rattle.lk_postfix.specs.Postfix.{operands, replaced, after_node, after_nodes, depth_after, Builds}
use Rattle.lk_postfix.proofs.PostfixLaws.{Builds-append, Builds-one}
use Rattle.lk_expr_tree.specs.declared.raw.RawNode.{RawNode}
use Rattle.lk_expr_tree.specs.declared.raw.RawNode.TheVariants as raw
use Rattle.lk_expr_tree.specs.declared.expr.RawExpr.{RawExpr}
use Rattle.lk_expr_tree.specs.declared.expr.RawArgs.{RawArgs}
use Rattle.lk_expr_tree.specs.declared.expr.RawBranches.{RawBranches}
use Rattle.lk_expr_tree.specs.Grammar.{Tree, Number, Call, Case, CaseElse, In, one, more, when, then_when}
use Rattle.lk_expr_tree.specs.RawNodes.{arity, made, operand, args_back, branches_back, args_among, branches_among, trees_of}
use Rattle.lk_expr_tree.specs.RawCode.{tree_of, args_of, branches_of}
use Rattle.lk_expr_tree.proofs.GatheredLaws.{alone}

-- ---- how many trees nodes build

pub if_some : (b : Bool) (x : Option ℕ) (e : ℕ) → (if b then x else None) ≡ Some e → (b ≡ true) × (x ≡ Some e)
if_some true x e h = (refl, h)
if_some false x e h = cc

length-replaced : (k : ℕ) (t : Tree) (gs : List Tree) → length (replaced k t gs) ≡ (length gs - k) + 1
length-replaced k t gs = omega (arith, length-append (take (length gs - k) gs) (t ∷ []), length-take-le (length gs - k) gs (omega arith))

length-after_nodes : (gs : List Tree) (e : ℕ) (nodes : List RawNode) → depth_after arity (length gs) nodes ≡ Some e → length (after_nodes arity made gs nodes) ≡ e
length-after_nodes gs e [] h = cc
length-after_nodes gs e (n ∷ nodes) h =
    let parts = if_some (nat_le (arity n) (length gs)) (depth_after arity ((length gs - arity n) + 1) nodes) e h in
    let deep = ap (λ m. depth_after arity m nodes) (length-replaced (arity n) (made n (operands (arity n) gs)) gs) ∙ parts.1 in
    length-after_nodes (after_node arity made gs n) e nodes deep

pub length-trees : (k : ℕ) (xs : List RawNode) → depth_after arity 0 xs ≡ Some k → length (trees_of xs) ≡ k
length-trees k xs h = length-after_nodes [] k xs h

builds : (k : ℕ) (xs : List RawNode) → depth_after arity 0 xs ≡ Some k → Builds arity made xs (trees_of xs)
builds k xs h = record { stack = refl; depth = h ∙ ap (λ m. Some m) (sym (length-trees k xs h)) }

-- ---- one tree, and lists one behind another

pub one_tree : (a : RawExpr) → trees_of a.nodes ≡ tree_of a ∷ []
unfolding tree_of
one_tree a = alone (trees_of a.nodes) (length-trees 1 a.nodes a.whole)

pub both_depth : (k m : ℕ) (xs ys : List RawNode) → depth_after arity 0 xs ≡ Some k → depth_after arity 0 ys ≡ Some m → depth_after arity 0 (xs ++ ys) ≡ Some (k + m)
both_depth k m xs ys h i =
    (Builds-append arity made (builds k xs h) (builds m ys i)).depth
    ∙ ap (λ n. Some n) (omega (arith, length-append (trees_of xs) (trees_of ys), length-trees k xs h, length-trees m ys i))

both_trees : (k m : ℕ) (xs ys : List RawNode) → depth_after arity 0 xs ≡ Some k → depth_after arity 0 ys ≡ Some m → trees_of (xs ++ ys) ≡ trees_of xs ++ trees_of ys
both_trees k m xs ys h i = (Builds-append arity made (builds k xs h) (builds m ys i)).stack

-- a tree behind others
pub then_depth : (k : ℕ) (xs : List RawNode) (a : RawExpr) → depth_after arity 0 xs ≡ Some k → depth_after arity 0 (xs ++ a.nodes) ≡ Some (k + 1)
then_depth k xs a h = both_depth k 1 xs a.nodes h a.whole

pub then_trees : (k : ℕ) (xs : List RawNode) (a : RawExpr) → depth_after arity 0 xs ≡ Some k → trees_of (xs ++ a.nodes) ≡ trees_of xs ++ tree_of a ∷ []
then_trees k xs a h = both_trees k 1 xs a.nodes h a.whole ∙ ap (λ ts. trees_of xs ++ ts) (one_tree a)

pub two_trees : (a b : RawExpr) → trees_of (a.nodes ++ b.nodes) ≡ tree_of a ∷ tree_of b ∷ []
two_trees a b = then_trees 1 a.nodes b a.whole ∙ ap (λ ts. ts ++ tree_of b ∷ []) (one_tree a)

pub two_depth : (a b : RawExpr) → depth_after arity 0 (a.nodes ++ b.nodes) ≡ Some 2
two_depth a b = then_depth 1 a.nodes b a.whole

pub three_trees : (a b c : RawExpr) → trees_of ((a.nodes ++ b.nodes) ++ c.nodes) ≡ tree_of a ∷ tree_of b ∷ tree_of c ∷ []
three_trees a b c = then_trees 2 (a.nodes ++ b.nodes) c (two_depth a b) ∙ ap (λ ts. ts ++ tree_of c ∷ []) (two_trees a b)

pub three_depth : (a b c : RawExpr) → depth_after arity 0 ((a.nodes ++ b.nodes) ++ c.nodes) ≡ Some 3
three_depth a b c = then_depth 2 (a.nodes ++ b.nodes) c (two_depth a b)

-- ---- a node behind all its operands

pub over_depth : (xs : List RawNode) (n : RawNode) → depth_after arity 0 xs ≡ Some (arity n) → depth_after arity 0 (xs ++ n ∷ []) ≡ Some 1
over_depth xs n h = (Builds-one arity made (trees_of xs) n (builds (arity n) xs h) (length-trees (arity n) xs h)).depth

pub over_tree : (e : RawExpr) (xs : List RawNode) (n : RawNode) → e.nodes ≡ xs ++ n ∷ [] → depth_after arity 0 xs ≡ Some (arity n) → tree_of e ≡ made n (trees_of xs)
unfolding tree_of
over_tree e xs n is h =
    ap (λ ns. operand (trees_of ns) 0) is
    ∙ ap (λ ts. operand ts 0) (Builds-one arity made (trees_of xs) n (builds (arity n) xs h) (length-trees (arity n) xs h)).stack

-- ---- arguments

more_back : (t : Tree) (rs : List Tree) → 0 < length rs → args_back (t ∷ rs) ≡ more (args_back rs) t
more_back t [] h = absurd (omega arith)
more_back t (r ∷ rs) h = refl

more_among : (ts : List Tree) (t : Tree) → 0 < length ts → args_among (ts ++ t ∷ []) ≡ more (args_among ts) t
more_among ts t h = ap args_back (reverse-append ts (t ∷ [])) ∙ more_back t (reverse ts) (omega (arith, length-reverse ts))

pub args_one : (args : RawArgs) (a : RawExpr) → args.nodes ≡ a.nodes → args_of args ≡ one (tree_of a)
unfolding args_of
args_one args a is = ap (λ ns. args_among (trees_of ns)) is ∙ ap args_among (one_tree a)

pub args_more : (args before : RawArgs) (a : RawExpr) → args.nodes ≡ before.nodes ++ a.nodes → args_of args ≡ more (args_of before) (tree_of a)
unfolding args_of
args_more args before a is =
    ap (λ ns. args_among (trees_of ns)) is
    ∙ ap args_among (then_trees before.count before.nodes a before.whole)
    ∙ more_among (trees_of before.nodes) (tree_of a) (omega (arith, length-trees before.count before.nodes before.whole, before.some))

pub args_called : (args : RawArgs) (name : List ℕ) (place : ℕ) → made (raw.Call name place args.count) (trees_of args.nodes) ≡ Call name place (args_of args)
unfolding args_of
args_called args name place = refl

-- a tree before a list
pub list_depth : (a : RawExpr) (list : RawArgs) → depth_after arity 0 (a.nodes ++ list.nodes) ≡ Some (list.count + 1)
list_depth a list = both_depth 1 list.count a.nodes list.nodes a.whole list.whole ∙ ap (λ m. Some m) (omega arith)

pub list_made : (a : RawExpr) (list : RawArgs) (n : Bool) (count : ℕ) → made (raw.In n count) (trees_of (a.nodes ++ list.nodes)) ≡ In n (tree_of a) (args_of list)
unfolding args_of
list_made a list n count =
    ap (made (raw.In n count)) (both_trees 1 list.count a.nodes list.nodes a.whole list.whole ∙ ap (λ ts. ts ++ trees_of list.nodes) (one_tree a))

-- ---- branches

then_back : (c a : Tree) (rs : List Tree) → 0 < length rs → branches_back (a ∷ c ∷ rs) ≡ then_when (branches_back rs) c a
then_back c a [] h = absurd (omega arith)
then_back c a (r ∷ rs) h = refl

then_among : (ts : List Tree) (c a : Tree) → 0 < length ts → branches_among ((ts ++ c ∷ []) ++ a ∷ []) ≡ then_when (branches_among ts) c a
then_among ts c a h =
    ap branches_back (reverse-append (ts ++ c ∷ []) (a ∷ []) ∙ ap (λ rs. a ∷ rs) (reverse-append ts (c ∷ [])))
    ∙ then_back c a (reverse ts) (omega (arith, length-reverse ts))

pub branches_one : (branches : RawBranches) (c a : RawExpr) → branches.nodes ≡ c.nodes ++ a.nodes → branches_of branches ≡ when (tree_of c) (tree_of a)
unfolding branches_of
branches_one branches c a is = ap (λ ns. branches_among (trees_of ns)) is ∙ ap branches_among (two_trees c a)

pub branches_more : (branches before : RawBranches) (c a : RawExpr) → branches.nodes ≡ (before.nodes ++ c.nodes) ++ a.nodes → branches_of branches ≡ then_when (branches_of before) (tree_of c) (tree_of a)
unfolding branches_of
branches_more branches before c a is =
    ap (λ ns. branches_among (trees_of ns)) is
    ∙ ap branches_among (then_trees (before.count + 1) (before.nodes ++ c.nodes) a (then_depth before.count before.nodes c before.whole)
    ∙ ap (λ ts. ts ++ tree_of a ∷ []) (then_trees before.count before.nodes c before.whole))
    ∙ then_among (trees_of before.nodes) (tree_of c) (tree_of a) (omega (arith, length-trees before.count before.nodes before.whole, before.some))

pub branches_depth : (before : RawBranches) (c a : RawExpr) → depth_after arity 0 ((before.nodes ++ c.nodes) ++ a.nodes) ≡ Some (before.count + 2)
branches_depth before c a =
    then_depth (before.count + 1) (before.nodes ++ c.nodes) a (then_depth before.count before.nodes c before.whole)
    ∙ ap (λ m. Some m) (omega arith)

pub branches_ended : (branches : RawBranches) → made (raw.Case branches.count) (trees_of branches.nodes) ≡ Case (branches_of branches)
unfolding branches_of
branches_ended branches = refl

-- what stands behind the branches
else_made : (ts : List Tree) (e : Tree) (count : ℕ) → count ≡ length ts + 1 → made (raw.CaseElse count) (ts ++ e ∷ []) ≡ CaseElse (branches_among ts) e
else_made ts e count h =
    let last : count - 1 ≡ length ts = omega arith in
    let first = take-append-le (length ts) ts (e ∷ []) (omega arith) ∙ all ts in
    let at_end = get_or-append_right ts (e ∷ []) (length ts) (length ts) (Number []) refl (omega arith) ∙ at_first e (length ts - length ts) (omega arith) in
    rw last (ap (λ xs. CaseElse (branches_among xs) (operand (ts ++ e ∷ []) (length ts))) first ∙ ap (CaseElse (branches_among ts)) at_end)
  where
    all : (ts : List Tree) → take (length ts) ts ≡ ts
    all [] = refl
    all (t ∷ ts) = ap (λ xs. t ∷ xs) (all ts)

    at_first : (e : Tree) (i : ℕ) → i ≡ 0 → operand (e ∷ []) i ≡ e
    at_first e i h = rw h refl

pub branches_else : (branches : RawBranches) (other : RawExpr) (count : ℕ) → count ≡ branches.count + 1 → made (raw.CaseElse count) (trees_of (branches.nodes ++ other.nodes)) ≡ CaseElse (branches_of branches) (tree_of other)
unfolding branches_of
branches_else branches other count h =
    ap (made (raw.CaseElse count)) (then_trees branches.count branches.nodes other branches.whole)
    ∙ else_made (trees_of branches.nodes) (tree_of other) count (omega (arith, h, length-trees branches.count branches.nodes branches.whole))
