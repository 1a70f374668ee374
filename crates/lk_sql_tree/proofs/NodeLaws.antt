-- The lists of nodes of expressions join to those of larger ones.
use Rattle.std.proofs.Common.{◌≡◌, true, ◌&&◌, List, [], ◌∷◌, ◌++◌, refl, sym, ap, ◌∙◌, arith}
use Rattle.std.proofs.lemmas.List.Folds.{list_all-append}
use Rattle.lk_sql_tree.specs.declared.node.SqlNode.{SqlNode}
use Rattle.lk_sql_tree.specs.declared.node.SqlNode.TheVariants as node
use Rattle.lk_sql_tree.specs.declared.standing.Standing.{Standing}
use Rattle.lk_sql_tree.specs.Trees.{Sql}
use Rattle.lk_sql_tree.specs.SqlNodes.{arity, made, sql_of, missing, has_list, has_lists}
use Rattle.lk_sql_tree.specs.Standings.{standing_of, standing_made}
use Rattle.lk_sql_tree.proofs.TreeLaws.{standing_does}
use Rattle.lk_postfix.specs.Postfix.{Builds, is_whole}
use Rattle.lk_postfix.proofs.PostfixLaws.{Builds-append, Builds-one, Builds-leaf, Builds-whole, whole-Builds, tree-Builds}

-- the nodes build the expression alone
abbrev pub BuildsOne : List SqlNode → Sql → Type 0
BuildsOne nodes e = Builds arity made nodes (e ∷ [])

pub own : (nodes : List SqlNode) → is_whole arity nodes ≡ true → BuildsOne nodes (sql_of nodes)
own nodes h = Builds-whole arity made nodes missing h

pub whole : {nodes : List SqlNode} {e : Sql} → BuildsOne nodes e → is_whole arity nodes ≡ true
whole b = whole-Builds arity made b

pub tree : {nodes : List SqlNode} {e : Sql} → BuildsOne nodes e → sql_of nodes ≡ e
tree b = tree-Builds arity made missing b

pub leaf : (n : SqlNode) → arity n ≡ 0 → BuildsOne (n ∷ []) (made n [])
leaf n h = Builds-leaf arity made n h

pub unary : {xs : List SqlNode} {a : Sql} (n : SqlNode) → BuildsOne xs a → arity n ≡ 1 → BuildsOne (xs ++ n ∷ []) (made n (a ∷ []))
unary {a = a} n b h = Builds-one arity made (a ∷ []) n b (sym h)

pub binary : {xs ys : List SqlNode} {a b : Sql} (n : SqlNode) → BuildsOne xs a → BuildsOne ys b → arity n ≡ 2 → BuildsOne ((xs ++ ys) ++ n ∷ []) (made n (a ∷ b ∷ []))
binary {a = a} {b = b} n first second h = Builds-one arity made (a ∷ b ∷ []) n (Builds-append arity made first second) (sym h)

-- ---- lists with their items

all_and : (xs ys : List SqlNode) → has_lists xs ≡ true → has_lists ys ≡ true → has_lists (xs ++ ys) ≡ true
all_and xs ys h k = list_all-append has_list xs ys ∙ (λ i. h i && k i)

one_has : (n : SqlNode) → has_list n ≡ true → has_lists (n ∷ []) ≡ true
one_has n h = ap (λ b. b && true) h

pub with_node : (xs : List SqlNode) (n : SqlNode) → has_lists xs ≡ true → has_list n ≡ true → has_lists (xs ++ n ∷ []) ≡ true
with_node xs n h i = all_and xs (n ∷ []) h (one_has n i)

pub with_both : (xs ys : List SqlNode) (n : SqlNode) → has_lists xs ≡ true → has_lists ys ≡ true → arity n ≡ 2 → has_lists ((xs ++ ys) ++ n ∷ []) ≡ true
with_both xs ys n h i two = with_node (xs ++ ys) n (all_and xs ys h i) (two_has n two)
  where
    two_has : (n : SqlNode) → arity n ≡ 2 → has_list n ≡ true
    two_has (node.In count) h = grind arith
    two_has (node.Case count) h = grind arith
    two_has (node.Coalesce count) h = grind arith
    two_has (node.Column part name) h = refl
    two_has (node.Literal v) h = refl
    two_has (node.Framed f) h = refl
    two_has node.Not h = refl
    two_has node.And h = refl
    two_has node.Or h = refl
    two_has (node.Compare c) h = refl
    two_has node.IsNull h = refl
    two_has (node.Like pieces) h = refl
    two_has (node.Number op) h = refl
    two_has node.Negate h = refl
    two_has node.Concat h = refl
    two_has node.Lower h = refl
    two_has node.Upper h = refl
    two_has node.NullIf h = refl
    two_has node.CountRows h = refl
    two_has (node.Folded f) h = refl
    two_has (node.ByKey f) h = refl

-- ---- what they stand over

pub leaf_stands : (n : SqlNode) → standing_made n [] ≡ standing_of (made n [])
leaf_stands n = standing_does n []

pub unary_stands : (n : SqlNode) (s : Standing) (a : Sql) → s ≡ standing_of a → standing_made n (s ∷ []) ≡ standing_of (made n (a ∷ []))
unary_stands n s a h = ap (λ s. standing_made n (s ∷ [])) h ∙ standing_does n (a ∷ [])

pub binary_stands : (n : SqlNode) (s t : Standing) (a b : Sql) → s ≡ standing_of a → t ≡ standing_of b → standing_made n (s ∷ t ∷ []) ≡ standing_of (made n (a ∷ b ∷ []))
binary_stands n s t a b h k = (λ i. standing_made n (h i ∷ k i ∷ [])) ∙ standing_does n (a ∷ b ∷ [])
