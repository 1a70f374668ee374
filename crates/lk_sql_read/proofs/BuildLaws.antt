-- The nodes that the machine keeps build the expression, and its text has as many bytes as it has tokens.
use Rattle.std.proofs.Common.{◌≡◌, ℕ, suc, ◌+◌, ◌≤◌, true, List, [], ◌∷◌, ◌++◌, length, refl, sym, ap, ◌∙◌, subst, arith, append_assoc}
use Rattle.std.specs.Prelude.{nat_le}
use Rattle.std.proofs.lemmas.Bool.Decides.{nat_tests}
use Rattle.std.proofs.lemmas.List.{append-nil}
use Rattle.lk_postfix.specs.Postfix.{Builds}
use Rattle.lk_postfix.proofs.PostfixLaws.{Builds-node}
use Rattle.lk_sql_tree.specs.declared.node.SqlNode.{SqlNode}
use Rattle.lk_sql_tree.specs.declared.node.SqlNode.TheVariants as node
use Rattle.lk_sql_tree.specs.SqlNodes.{arity, made, has_lists, sqls_of, branches_of}
use Rattle.lk_sql_tree.proofs.NodeLaws.{with_node}
use Rattle.lk_sql_tree.specs.Trees.{Sql, Column, Literal, Framed, Not, And, Or, Compare, IsNull, In, Like, Number, Negate, Concat, Lower, Upper, Case, Coalesce, NullIf, CountRows, Folded, ByKey, Sqls, no_more, more, Branches, no_else, otherwise, when}
use Rattle.lk_sql_read.proofs.ReadLaws.{nodes_after, list_after, branches_after, count_from, branches_from}

-- ---- lists and branches as lists

abbrev items : Sqls → List Sql
items no_more = []
items (more a xs) = a ∷ items xs

sqls_items : (xs : Sqls) → sqls_of (items xs) ≡ xs
sqls_items no_more = refl
sqls_items (more a xs) = ap (λ ys. more a ys) (sqls_items xs)

count_is : (n : ℕ) (xs : Sqls) → n + length (items xs) ≡ count_from n xs
count_is n no_more = omega arith
count_is n (more a xs) = omega (arith, count_is (suc n) xs)

abbrev parts : Branches → List Sql
parts no_else = []
parts (otherwise e) = e ∷ []
parts (when c a bs) = c ∷ a ∷ parts bs

branches_parts : (bs : Branches) → branches_of (parts bs) ≡ bs
branches_parts no_else = refl
branches_parts (otherwise e) = refl
branches_parts (when c a bs) = ap (λ ys. when c a ys) (branches_parts bs)

parts_is : (n : ℕ) (bs : Branches) → n + length (parts bs) ≡ branches_from n bs
parts_is n no_else = omega arith
parts_is n (otherwise e) = omega arith
parts_is n (when c a bs) = omega (arith, parts_is (suc (suc n)) bs)

-- ---- what nodes build

abbrev Stack : List SqlNode → List Sql → Type 0
Stack ns ts = Builds arity made ns ts

leaf : (ns : List SqlNode) (ts : List Sql) (n : SqlNode) → Stack ns ts → arity n ≡ 0 → Stack (ns ++ n ∷ []) (ts ++ made n [] ∷ [])
leaf ns ts n b h = Builds-node arity made ts [] n (subst (λ us. Stack ns us) (sym (append-nil ts)) b) (sym h)

one : (ns : List SqlNode) (ts : List Sql) (a : Sql) (n : SqlNode) → Stack ns (ts ++ a ∷ []) → arity n ≡ 1 → Stack (ns ++ n ∷ []) (ts ++ made n (a ∷ []) ∷ [])
one ns ts a n b h = Builds-node arity made ts (a ∷ []) n b (sym h)

two : (ns : List SqlNode) (ts : List Sql) (a b : Sql) (n : SqlNode) → Stack ns ((ts ++ a ∷ []) ++ b ∷ []) → arity n ≡ 2 → Stack (ns ++ n ∷ []) (ts ++ made n (a ∷ b ∷ []) ∷ [])
two ns ts a b n s h = Builds-node arity made ts (a ∷ b ∷ []) n (subst (λ us. Stack ns us) (append_assoc ts (a ∷ []) (b ∷ [])) s) (sym h)

mutual
  pub builds : (e : Sql) (ns : List SqlNode) (ts : List Sql) → Stack ns ts → Stack (nodes_after ns e) (ts ++ e ∷ [])
  builds (Column part name) ns ts s = leaf ns ts (node.Column part name) s refl
  builds (Literal v) ns ts s = leaf ns ts (node.Literal v) s refl
  builds CountRows ns ts s = leaf ns ts node.CountRows s refl
  builds (Framed f a) ns ts s = one (nodes_after ns a) ts a (node.Framed f) (builds a ns ts s) refl
  builds (Not a) ns ts s = one (nodes_after ns a) ts a node.Not (builds a ns ts s) refl
  builds (IsNull a) ns ts s = one (nodes_after ns a) ts a node.IsNull (builds a ns ts s) refl
  builds (Like a pieces) ns ts s = one (nodes_after ns a) ts a (node.Like pieces) (builds a ns ts s) refl
  builds (Negate a) ns ts s = one (nodes_after ns a) ts a node.Negate (builds a ns ts s) refl
  builds (Lower a) ns ts s = one (nodes_after ns a) ts a node.Lower (builds a ns ts s) refl
  builds (Upper a) ns ts s = one (nodes_after ns a) ts a node.Upper (builds a ns ts s) refl
  builds (Folded f a) ns ts s = one (nodes_after ns a) ts a (node.Folded f) (builds a ns ts s) refl
  builds (And a b) ns ts s = two (nodes_after (nodes_after ns a) b) ts a b node.And (builds b (nodes_after ns a) (ts ++ a ∷ []) (builds a ns ts s)) refl
  builds (Or a b) ns ts s = two (nodes_after (nodes_after ns a) b) ts a b node.Or (builds b (nodes_after ns a) (ts ++ a ∷ []) (builds a ns ts s)) refl
  builds (Compare c a b) ns ts s = two (nodes_after (nodes_after ns a) b) ts a b (node.Compare c) (builds b (nodes_after ns a) (ts ++ a ∷ []) (builds a ns ts s)) refl
  builds (Number o a b) ns ts s = two (nodes_after (nodes_after ns a) b) ts a b (node.Number o) (builds b (nodes_after ns a) (ts ++ a ∷ []) (builds a ns ts s)) refl
  builds (Concat a b) ns ts s = two (nodes_after (nodes_after ns a) b) ts a b node.Concat (builds b (nodes_after ns a) (ts ++ a ∷ []) (builds a ns ts s)) refl
  builds (NullIf a b) ns ts s = two (nodes_after (nodes_after ns a) b) ts a b node.NullIf (builds b (nodes_after ns a) (ts ++ a ∷ []) (builds a ns ts s)) refl
  builds (ByKey f a b) ns ts s = two (nodes_after (nodes_after ns a) b) ts a b (node.ByKey f) (builds b (nodes_after ns a) (ts ++ a ∷ []) (builds a ns ts s)) refl
  builds (In a b xs) ns ts s =
      let before = subst (λ us. Stack (nodes_after (nodes_after ns a) b) us) (append_assoc ts (a ∷ []) (b ∷ [])) (builds b (nodes_after ns a) (ts ++ a ∷ []) (builds a ns ts s)) in
      let made_so = Builds-node arity made ts (a ∷ b ∷ items xs) (node.In (count_from 2 xs)) (list_builds xs (nodes_after (nodes_after ns a) b) ts (a ∷ b ∷ []) before) (omega (arith, count_is 2 xs)) in
      subst (λ ys. Stack (nodes_after ns (In a b xs)) (ts ++ In a b ys ∷ [])) (sqls_items xs) made_so
  builds (Coalesce a xs) ns ts s =
      let made_so = Builds-node arity made ts (a ∷ items xs) (node.Coalesce (count_from 1 xs)) (list_builds xs (nodes_after ns a) ts (a ∷ []) (builds a ns ts s)) (omega (arith, count_is 1 xs)) in
      subst (λ ys. Stack (nodes_after ns (Coalesce a xs)) (ts ++ Coalesce a ys ∷ [])) (sqls_items xs) made_so
  builds (Case a b bs) ns ts s =
      let before = subst (λ us. Stack (nodes_after (nodes_after ns a) b) us) (append_assoc ts (a ∷ []) (b ∷ [])) (builds b (nodes_after ns a) (ts ++ a ∷ []) (builds a ns ts s)) in
      let made_so = Builds-node arity made ts (a ∷ b ∷ parts bs) (node.Case (branches_from 2 bs)) (parts_build bs (nodes_after (nodes_after ns a) b) ts (a ∷ b ∷ []) before) (omega (arith, parts_is 2 bs)) in
      subst (λ ys. Stack (nodes_after ns (Case a b bs)) (ts ++ Case a b ys ∷ [])) (branches_parts bs) made_so

  list_builds : (xs : Sqls) (ns : List SqlNode) (ts us : List Sql) → Stack ns (ts ++ us) → Stack (list_after ns xs) (ts ++ (us ++ items xs))
  list_builds no_more ns ts us s = subst (λ vs. Stack ns (ts ++ vs)) (sym (append-nil us)) s
  list_builds (more a xs) ns ts us s =
      let first = subst (λ vs. Stack (nodes_after ns a) vs) (append_assoc ts us (a ∷ [])) (builds a ns (ts ++ us) s) in
      subst (λ vs. Stack (list_after (nodes_after ns a) xs) (ts ++ vs)) (append_assoc us (a ∷ []) (items xs)) (list_builds xs (nodes_after ns a) ts (us ++ a ∷ []) first)

  parts_build : (bs : Branches) (ns : List SqlNode) (ts us : List Sql) → Stack ns (ts ++ us) → Stack (branches_after ns bs) (ts ++ (us ++ parts bs))
  parts_build no_else ns ts us s = subst (λ vs. Stack ns (ts ++ vs)) (sym (append-nil us)) s
  parts_build (otherwise e) ns ts us s = subst (λ vs. Stack (nodes_after ns e) vs) (append_assoc ts us (e ∷ [])) (builds e ns (ts ++ us) s)
  parts_build (when c a bs) ns ts us s =
      let first = subst (λ vs. Stack (nodes_after ns c) vs) (append_assoc ts us (c ∷ [])) (builds c ns (ts ++ us) s) in
      let second = subst (λ vs. Stack (nodes_after (nodes_after ns c) a) vs) (append_assoc ts (us ++ c ∷ []) (a ∷ [])) (builds a (nodes_after ns c) (ts ++ (us ++ c ∷ [])) first) in
      let joined : ((us ++ c ∷ []) ++ a ∷ []) ++ parts bs ≡ us ++ (c ∷ a ∷ parts bs) = append_assoc (us ++ c ∷ []) (a ∷ []) (parts bs) ∙ append_assoc us (c ∷ []) (a ∷ parts bs) in
      subst (λ vs. Stack (branches_after (nodes_after (nodes_after ns c) a) bs) (ts ++ vs)) joined (parts_build bs (nodes_after (nodes_after ns c) a) ts ((us ++ c ∷ []) ++ a ∷ []) second)

-- ---- each list has its items

at_least : (n k : ℕ) (xs : Sqls) → n ≤ k → nat_le n (count_from k xs) ≡ true
at_least n k no_more h = grind (arith, nat_tests)
at_least n k (more a xs) h = at_least n (suc k) xs (omega (arith, h))

branches_least : (n k : ℕ) (bs : Branches) → n ≤ k → nat_le n (branches_from k bs) ≡ true
branches_least n k no_else h = grind (arith, nat_tests)
branches_least n k (otherwise e) h = grind (arith, nat_tests)
branches_least n k (when c a bs) h = branches_least n (suc (suc k)) bs (omega (arith, h))

mutual
  pub lists : (e : Sql) (ns : List SqlNode) → has_lists ns ≡ true → has_lists (nodes_after ns e) ≡ true
  lists (Column part name) ns h = with_node ns (node.Column part name) h refl
  lists (Literal v) ns h = with_node ns (node.Literal v) h refl
  lists CountRows ns h = with_node ns node.CountRows h refl
  lists (Framed f a) ns h = with_node (nodes_after ns a) (node.Framed f) (lists a ns h) refl
  lists (Not a) ns h = with_node (nodes_after ns a) node.Not (lists a ns h) refl
  lists (IsNull a) ns h = with_node (nodes_after ns a) node.IsNull (lists a ns h) refl
  lists (Like a pieces) ns h = with_node (nodes_after ns a) (node.Like pieces) (lists a ns h) refl
  lists (Negate a) ns h = with_node (nodes_after ns a) node.Negate (lists a ns h) refl
  lists (Lower a) ns h = with_node (nodes_after ns a) node.Lower (lists a ns h) refl
  lists (Upper a) ns h = with_node (nodes_after ns a) node.Upper (lists a ns h) refl
  lists (Folded f a) ns h = with_node (nodes_after ns a) (node.Folded f) (lists a ns h) refl
  lists (And a b) ns h = with_node (nodes_after (nodes_after ns a) b) node.And (lists b (nodes_after ns a) (lists a ns h)) refl
  lists (Or a b) ns h = with_node (nodes_after (nodes_after ns a) b) node.Or (lists b (nodes_after ns a) (lists a ns h)) refl
  lists (Compare c a b) ns h = with_node (nodes_after (nodes_after ns a) b) (node.Compare c) (lists b (nodes_after ns a) (lists a ns h)) refl
  lists (Number o a b) ns h = with_node (nodes_after (nodes_after ns a) b) (node.Number o) (lists b (nodes_after ns a) (lists a ns h)) refl
  lists (Concat a b) ns h = with_node (nodes_after (nodes_after ns a) b) node.Concat (lists b (nodes_after ns a) (lists a ns h)) refl
  lists (NullIf a b) ns h = with_node (nodes_after (nodes_after ns a) b) node.NullIf (lists b (nodes_after ns a) (lists a ns h)) refl
  lists (ByKey f a b) ns h = with_node (nodes_after (nodes_after ns a) b) (node.ByKey f) (lists b (nodes_after ns a) (lists a ns h)) refl
  lists (In a b xs) ns h = with_node (list_after (nodes_after (nodes_after ns a) b) xs) (node.In (count_from 2 xs)) (list_lists xs (nodes_after (nodes_after ns a) b) (lists b (nodes_after ns a) (lists a ns h))) (at_least 2 2 xs (omega arith))
  lists (Coalesce a xs) ns h = with_node (list_after (nodes_after ns a) xs) (node.Coalesce (count_from 1 xs)) (list_lists xs (nodes_after ns a) (lists a ns h)) (at_least 1 1 xs (omega arith))
  lists (Case a b bs) ns h = with_node (branches_after (nodes_after (nodes_after ns a) b) bs) (node.Case (branches_from 2 bs)) (branch_lists bs (nodes_after (nodes_after ns a) b) (lists b (nodes_after ns a) (lists a ns h))) (branches_least 2 2 bs (omega arith))

  list_lists : (xs : Sqls) (ns : List SqlNode) → has_lists ns ≡ true → has_lists (list_after ns xs) ≡ true
  list_lists no_more ns h = h
  list_lists (more a xs) ns h = list_lists xs (nodes_after ns a) (lists a ns h)

  branch_lists : (bs : Branches) (ns : List SqlNode) → has_lists ns ≡ true → has_lists (branches_after ns bs) ≡ true
  branch_lists no_else ns h = h
  branch_lists (otherwise e) ns h = lists e ns h
  branch_lists (when c a bs) ns h = branch_lists bs (nodes_after (nodes_after ns c) a) (lists a (nodes_after ns c) (lists c ns h))
