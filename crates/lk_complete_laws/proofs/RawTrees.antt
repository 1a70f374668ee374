-- Each tree is that of some nodes.
use Rattle.std.proofs.Common.{◌≡◌, ◌∙◌, ℕ, ◌+◌, Bool, List, [], ◌∷◌, ◌++◌, Some, refl, sym, ap, arith}
use Rattle.lk_postfix.specs.Postfix.{depth_after}
use Rattle.lk_expr_tree.specs.declared.raw.RawNode.{RawNode}
use Rattle.lk_expr_tree.specs.declared.raw.RawNode.TheVariants as raw
use Rattle.lk_expr_tree.specs.declared.expr.RawExpr.{RawExpr}
use Rattle.lk_expr_tree.specs.declared.expr.RawArgs.{RawArgs}
use Rattle.lk_expr_tree.specs.declared.expr.RawBranches.{RawBranches}
use Rattle.lk_expr_tree.specs.Grammar.{Tree, Number, Text, Name, Column, Field, FieldOf, Truth, Null, Group, Call, Case, CaseElse, Negate, Chain, Compare, IsNull, In, Between, Like, Not, Args, one, more, Branches, when, then_when}
use Rattle.lk_expr_tree.specs.RawCode.{tree_of, args_of, branches_of}
use Rattle.lk_expr_tree.specs.RawNodes.{arity, made, trees_of}
use Rattle.lk_expr_tree.proofs.RawLaws.{one_tree, two_trees, three_trees, two_depth, three_depth, then_depth, over_depth, over_tree, args_one, args_more, args_called, list_depth, list_made, branches_one, branches_more, branches_depth, branches_ended, branches_else}

-- nodes of a tree, of arguments, and of branches
pub record HasNodes (e : Tree) : Type 0 where
  pub expr : RawExpr
  pub is : tree_of expr ≡ e

record HasArgNodes (args : Args) : Type 0 where
  list : RawArgs
  is : args_of list ≡ args

record HasBranchNodes (branches : Branches) : Type 0 where
  list : RawBranches
  is : branches_of list ≡ branches

-- ---- a node behind its operands

over : (xs : List RawNode) (n : RawNode) (e : Tree) → depth_after arity 0 xs ≡ Some (arity n) → made n (trees_of xs) ≡ e → HasNodes e
over xs n e h is =
    let whole : RawExpr = record { nodes = xs ++ n ∷ []; whole = over_depth xs n h } in
    record { expr = whole; is = over_tree whole xs n refl h ∙ is }

over_none : (n : RawNode) → arity n ≡ 0 → HasNodes (made n [])
over_none n none = over [] n (made n []) (ap (λ m. Some m) (sym none)) refl

over_one : (n : RawNode) (a : Tree) → arity n ≡ 1 → HasNodes a → HasNodes (made n (a ∷ []))
over_one n a takes x =
    over x.expr.nodes n (made n (a ∷ [])) (x.expr.whole ∙ ap (λ m. Some m) (sym takes))
    (ap (made n) (one_tree x.expr ∙ (λ i. x.is i ∷ [])))

over_two : (n : RawNode) (a b : Tree) → arity n ≡ 2 → HasNodes a → HasNodes b → HasNodes (made n (a ∷ b ∷ []))
over_two n a b takes x y =
    over (x.expr.nodes ++ y.expr.nodes) n (made n (a ∷ b ∷ [])) (two_depth x.expr y.expr ∙ ap (λ m. Some m) (sym takes))
    (ap (made n) (two_trees x.expr y.expr ∙ (λ i. x.is i ∷ y.is i ∷ [])))

over_three : (n : RawNode) (a b c : Tree) → arity n ≡ 3 → HasNodes a → HasNodes b → HasNodes c → HasNodes (made n (a ∷ b ∷ c ∷ []))
over_three n a b c takes x y z =
    over ((x.expr.nodes ++ y.expr.nodes) ++ z.expr.nodes) n (made n (a ∷ b ∷ c ∷ [])) (three_depth x.expr y.expr z.expr ∙ ap (λ m. Some m) (sym takes))
    (ap (made n) (three_trees x.expr y.expr z.expr ∙ (λ i. x.is i ∷ y.is i ∷ z.is i ∷ [])))

-- ---- nodes over lists

called : (name : List ℕ) (place : ℕ) (args : Args) → HasArgNodes args → HasNodes (Call name place args)
called name place args x =
    over x.list.nodes (raw.Call name place x.list.count) (Call name place args) x.list.whole
    (args_called x.list name place ∙ ap (λ a. Call name place a) x.is)

listed : (n : Bool) (a : Tree) (args : Args) → HasNodes a → HasArgNodes args → HasNodes (In n a args)
listed n a args x y =
    over (x.expr.nodes ++ y.list.nodes) (raw.In n (y.list.count + 1)) (In n a args) (list_depth x.expr y.list)
    (list_made x.expr y.list n (y.list.count + 1) ∙ (λ i. In n (x.is i) (y.is i)))

ended : (branches : Branches) → HasBranchNodes branches → HasNodes (Case branches)
ended branches x =
    over x.list.nodes (raw.Case x.list.count) (Case branches) x.list.whole (branches_ended x.list ∙ ap (λ b. Case b) x.is)

ended_else : (branches : Branches) (a : Tree) → HasBranchNodes branches → HasNodes a → HasNodes (CaseElse branches a)
ended_else branches a x y =
    over (x.list.nodes ++ y.expr.nodes) (raw.CaseElse (x.list.count + 1)) (CaseElse branches a)
    (then_depth x.list.count x.list.nodes y.expr x.list.whole)
    (branches_else x.list y.expr (x.list.count + 1) refl ∙ (λ i. CaseElse (x.is i) (y.is i)))

-- ---- lists

one_arg : (a : Tree) → HasNodes a → HasArgNodes (one a)
one_arg a x =
    let list : RawArgs = record { nodes = x.expr.nodes; count = 1; whole = x.expr.whole; some = omega arith } in
    record { list = list; is = args_one list x.expr refl ∙ ap (λ t. one t) x.is }

more_args : (args : Args) (a : Tree) → HasArgNodes args → HasNodes a → HasArgNodes (more args a)
more_args args a x y =
    let list : RawArgs = record {
      nodes = x.list.nodes ++ y.expr.nodes;
      count = x.list.count + 1;
      whole = then_depth x.list.count x.list.nodes y.expr x.list.whole;
      some = omega arith;
    } in
    record { list = list; is = args_more list x.list y.expr refl ∙ (λ i. more (x.is i) (y.is i)) }

first_branch : (c a : Tree) → HasNodes c → HasNodes a → HasBranchNodes (when c a)
first_branch c a x y =
    let list : RawBranches = record { nodes = x.expr.nodes ++ y.expr.nodes; count = 2; whole = two_depth x.expr y.expr; some = omega arith } in
    record { list = list; is = branches_one list x.expr y.expr refl ∙ (λ i. when (x.is i) (y.is i)) }

next_branch : (branches : Branches) (c a : Tree) → HasBranchNodes branches → HasNodes c → HasNodes a → HasBranchNodes (then_when branches c a)
next_branch branches c a x y z =
    let list : RawBranches = record {
      nodes = (x.list.nodes ++ y.expr.nodes) ++ z.expr.nodes;
      count = x.list.count + 2;
      whole = branches_depth x.list y.expr z.expr;
      some = omega arith;
    } in
    record { list = list; is = branches_more list x.list y.expr z.expr refl ∙ (λ i. then_when (x.is i) (y.is i) (z.is i)) }

-- ---- trees

mutual
  pub nodes_for : (e : Tree) → HasNodes e
  nodes_for (Number number) = over_none (raw.Number number) refl
  nodes_for (Text text) = over_none (raw.Text text) refl
  nodes_for (Column name) = over_none (raw.Column name) refl
  nodes_for (Field name) = over_none (raw.Field name) refl
  nodes_for (FieldOf view name) = over_none (raw.FieldOf view name) refl
  nodes_for (Name name place) = over_none (raw.Name name place) refl
  nodes_for (Truth b) = over_none (raw.Truth b) refl
  nodes_for Null = over_none raw.Null refl
  nodes_for (Group a) = over_one raw.Group a refl (nodes_for a)
  nodes_for (Call name place args) = called name place args (nodes_of_args args)
  nodes_for (Case branches) = ended branches (nodes_of_branches branches)
  nodes_for (CaseElse branches a) = ended_else branches a (nodes_of_branches branches) (nodes_for a)
  nodes_for (Negate a) = over_one raw.Negate a refl (nodes_for a)
  nodes_for (Chain j a b) = over_two (raw.Chain j) a b refl (nodes_for a) (nodes_for b)
  nodes_for (Compare c a b) = over_two (raw.Compare c) a b refl (nodes_for a) (nodes_for b)
  nodes_for (IsNull n a) = over_one (raw.IsNull n) a refl (nodes_for a)
  nodes_for (In n a args) = listed n a args (nodes_for a) (nodes_of_args args)
  nodes_for (Between n a low high) = over_three (raw.Between n) a low high refl (nodes_for a) (nodes_for low) (nodes_for high)
  nodes_for (Like n a text) = over_one (raw.Like n text) a refl (nodes_for a)
  nodes_for (Not a) = over_one raw.Not a refl (nodes_for a)

  nodes_of_args : (args : Args) → HasArgNodes args
  nodes_of_args (one a) = one_arg a (nodes_for a)
  nodes_of_args (more args a) = more_args args a (nodes_of_args args) (nodes_for a)

  nodes_of_branches : (branches : Branches) → HasBranchNodes branches
  nodes_of_branches (when c a) = first_branch c a (nodes_for c) (nodes_for a)
  nodes_of_branches (then_when branches c a) = next_branch branches c a (nodes_of_branches branches) (nodes_for c) (nodes_for a)
