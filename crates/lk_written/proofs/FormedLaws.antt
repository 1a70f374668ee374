-- What the nodes of a tree have that a text spells: as many operands as each takes, and names that are texts.
use Rattle.std.proofs.Common.{◌≡◌, ℕ, zero, suc, ◌+◌, ◌-◌, ◌<◌, ◌≤◌, get_or, Bool, true, false, List, [], ◌∷◌, ◌++◌, length, take, drop, Option, Some, None, refl, sym, ap, ◌∙◌, subst, arith, length-append}
use Rattle.std.specs.Prelude.{◌&&◌, nat_le, nat_lt, reverse, if◌then◌else◌}
use Rattle.std.specs.List.{list_all, AllByRecursion}
use Rattle.std.specs.Str.{is_utf8}
use Rattle.std.proofs.lemmas.Bool.{false≢true}
use Rattle.std.proofs.lemmas.Bool.Decides.{nat_tests}
use Rattle.std.proofs.lemmas.List.{length-drop, length-reverse, length-take-le, reverse-append, reverse-reverse, take-append-drop}
use Rattle.std.proofs.lemmas.List.Folds.{list_all-append}
use Rattle.lk_val.specs.Numbers.{num_of}
use Rattle.lk_postfix.specs.Postfix.{after_nodes, depth_after}
use Rattle.lk_expr_token.specs.declared.token.Keyword.TheVariants as keyword
use Rattle.lk_expr_token.specs.declared.token.Sign.TheVariants as sign
use Rattle.lk_expr_token.specs.declared.token.Token.{Token}
use Rattle.lk_expr_token.specs.declared.token.Token.TheVariants as token
use Rattle.lk_expr_token.specs.Tokens.{is_number}
use Rattle.lk_expr_tree.specs.declared.raw.RawNode.{RawNode}
use Rattle.lk_expr_tree.specs.declared.raw.RawNode.TheVariants as raw
use Rattle.lk_expr_tree.specs.Grammar.{Tree, IsExprText, Number, print, print_args, print_branches, negated}
use Rattle.lk_expr_tree.specs.RawNodes.{arity, made, operand, args_back, branches_back, args_among, branches_among, trees_of}
use Rattle.lk_expr_tree.proofs.GatheredLaws.{last_of}
use Rattle.lk_written.specs.SkeletonNodes.{is_named}
use Rattle.lk_written.proofs.NodeForms.{are_pairs, has_operands, is_formed}
use Rattle.lk_written.proofs.TokenLaws.{both_true, true_both, is_real, spelled_real}

-- a tree of tokens that a text has
abbrev pub IsGood : Tree → Type 0
IsGood t = list_all is_real (print t) ≡ true

abbrev pub AreGood : List Tree → Type 0
AreGood ts = AllByRecursion (λ t. IsGood t) ts

-- ---- parts

parts_real : (xs ys : List Token) → list_all is_real (xs ++ ys) ≡ true → (list_all is_real xs ≡ true) × (list_all is_real ys ≡ true)
parts_real xs ys h = both_true (list_all is_real xs) (list_all is_real ys) (sym (list_all-append is_real xs ys) ∙ h)

good_append : (xs ys : List Tree) → AreGood xs → AreGood ys → AreGood (xs ++ ys)
good_append [] ys g h = h
good_append (x ∷ xs) ys g h = (g.0, good_append xs ys g.1 h)

good_parts : (xs ys : List Tree) → AreGood (xs ++ ys) → AreGood xs × AreGood ys
good_parts [] ys g = (tt, g)
good_parts (x ∷ xs) ys g = let rest = good_parts xs ys g.1 in ((g.0, rest.0), rest.1)

good_reverse : (rs : List Tree) → AreGood rs → AreGood (reverse rs)
good_reverse [] g = tt
good_reverse (r ∷ rs) g =
    subst AreGood (sym (reverse-append (r ∷ []) rs)) (good_append (reverse rs) (r ∷ []) (good_reverse rs g.1) (g.0, tt))

no_number : is_number [] ≡ false
unfolding num_of
no_number = refl

-- no text has the tree that stands for a missing one
no_good : list_all is_real (print (Number [])) ≡ true → ⊥
no_good h = false≢true (sym no_number ∙ (both_true (is_number []) true h).0)

-- ---- arguments and branches

record AreArgs (rs : List Tree) : Type 0 where
  pub good : AreGood rs
  pub some : 0 < length rs

args_back_good : (rs : List Tree) → list_all is_real (print_args (args_back rs)) ≡ true → AreArgs rs
args_back_good [] r = absurd (no_good r)
args_back_good (a ∷ []) r = record { good = (r, tt); some = omega arith }
args_back_good (a ∷ b ∷ rs) r =
    let real = parts_real (print_args (args_back (b ∷ rs))) (token.Sign sign.Comma ∷ print a) r in
    let rest = args_back_good (b ∷ rs) real.0 in
    record { good = (real.1, rest.good); some = omega arith }

args_good : (ts : List Tree) → list_all is_real (print_args (args_among ts)) ≡ true → AreArgs ts
args_good ts r =
    let back = args_back_good (reverse ts) r in
    record {
      good = subst AreGood (reverse-reverse ts) (good_reverse (reverse ts) back.good);
      some = omega (arith, back.some, length-reverse ts);
    }

record AreBranches (rs : List Tree) : Type 0 where
  pub good : AreGood rs
  pub pairs : are_pairs (length rs) ≡ true

branch_good : (c a : Tree) → list_all is_real (token.Word keyword.When ∷ (print c ++ token.Word keyword.Then ∷ print a)) ≡ true → IsGood c × IsGood a
branch_good c a r =
    let real = parts_real (print c) (token.Word keyword.Then ∷ print a) r in
    (real.0, real.1)

branches_back_good : (rs : List Tree) → list_all is_real (print_branches (branches_back rs)) ≡ true → AreBranches rs
branches_back_good [] r = absurd (no_good (branch_good (Number []) (Number []) r).0)
branches_back_good (a ∷ []) r = absurd (no_good (branch_good a (Number []) r).1)
branches_back_good (a ∷ c ∷ []) r =
    let both = branch_good c a r in
    record { good = (both.1, (both.0, tt)); pairs = refl }
branches_back_good (a ∷ c ∷ b ∷ rs) r =
    let real = parts_real (print_branches (branches_back (b ∷ rs))) (token.Word keyword.When ∷ (print c ++ token.Word keyword.Then ∷ print a)) r in
    let both = branch_good c a real.1 in
    let rest = branches_back_good (b ∷ rs) real.0 in
    record { good = (both.1, (both.0, rest.good)); pairs = rest.pairs }

branches_good : (ts : List Tree) → list_all is_real (print_branches (branches_among ts)) ≡ true → AreBranches ts
branches_good ts r =
    let back = branches_back_good (reverse ts) r in
    record {
      good = subst AreGood (reverse-reverse ts) (good_reverse (reverse ts) back.good);
      pairs = ap are_pairs (sym (length-reverse ts)) ∙ back.pairs;
    }

-- ---- calls

some_is : (k : ℕ) → 0 < k → nat_lt 0 k ≡ true
some_is k some = grind (arith, nat_tests)

-- ---- a node

pub record IsFormed (n : RawNode) (ts : List Tree) : Type 0 where
  pub good : AreGood ts
  pub operands : has_operands n ≡ true
  pub named : is_named n ≡ true

leaf : (n : RawNode) (ts : List Tree) → length ts ≡ 0 → has_operands n ≡ true → is_named n ≡ true → IsFormed n ts
leaf n [] h has named = record { good = tt; operands = has; named = named }
leaf n (t ∷ ts) h has named = absurd (omega arith)

first : (b : Bool) → (b && true) ≡ true → b ≡ true
first b h = (both_true b true h).0

one_good : (n : RawNode) (ts : List Tree) → length ts ≡ 1 → has_operands n ≡ true → is_named n ≡ true → IsGood (operand ts 0) → IsFormed n ts
one_good n [] h has named g = absurd (omega arith)
one_good n (a ∷ []) h has named g = record { good = (g, tt); operands = has; named = named }
one_good n (a ∷ b ∷ ts) h has named g = absurd (omega arith)

two_good : (n : RawNode) (ts : List Tree) → length ts ≡ 2 → has_operands n ≡ true → is_named n ≡ true → IsGood (operand ts 0) → IsGood (operand ts 1) → IsFormed n ts
two_good n [] h has named g i = absurd (omega arith)
two_good n (a ∷ []) h has named g i = absurd (omega arith)
two_good n (a ∷ b ∷ []) h has named g i = record { good = (g, (i, tt)); operands = has; named = named }
two_good n (a ∷ b ∷ c ∷ ts) h has named g i = absurd (omega arith)

three_good : (n : RawNode) (ts : List Tree) → length ts ≡ 3 → has_operands n ≡ true → is_named n ≡ true → IsGood (operand ts 0) → IsGood (operand ts 1) → IsGood (operand ts 2) → IsFormed n ts
three_good n [] h has named g i j = absurd (omega arith)
three_good n (a ∷ []) h has named g i j = absurd (omega arith)
three_good n (a ∷ b ∷ []) h has named g i j = absurd (omega arith)
three_good n (a ∷ b ∷ c ∷ []) h has named g i j = record { good = (g, (i, (j, tt))); operands = has; named = named }
three_good n (a ∷ b ∷ c ∷ d ∷ ts) h has named g i j = absurd (omega arith)

-- NOT is a token of each text
unnegated : (n : Bool) (tokens : List Token) → list_all is_real (negated n tokens) ≡ true → list_all is_real tokens ≡ true
unnegated true tokens h = h
unnegated false tokens h = h

tested : (a : Tree) (n : Bool) (tokens : List Token) → list_all is_real (print a ++ negated n tokens) ≡ true → (list_all is_real (print a) ≡ true) × (list_all is_real tokens ≡ true)
tested a n tokens r = let parts = parts_real (print a) (negated n tokens) r in (parts.0, unnegated n tokens parts.1)

lists : (n : Bool) (k : ℕ) (ts : List Tree) → length ts ≡ k → IsGood (made (raw.In n k) ts) → IsFormed (raw.In n k) ts
lists n k [] h g = absurd (no_good (tested (Number []) n (token.Word keyword.In ∷ token.Sign sign.Open ∷ (print_args (args_among []) ++ token.Sign sign.Close ∷ [])) g).0)
lists n k (a ∷ ts) h g =
    let real = tested a n (token.Word keyword.In ∷ token.Sign sign.Open ∷ (print_args (args_among ts) ++ token.Sign sign.Close ∷ [])) g in
    let args = args_good ts (parts_real (print_args (args_among ts)) (token.Sign sign.Close ∷ []) real.1).0 in
    record { good = (real.0, args.good); operands = more k (omega (arith, h, args.some)); named = refl }
  where
    more : (k : ℕ) → 1 < k → nat_lt 1 k ≡ true
    more k some = grind (arith, nat_tests)

calls : (name : List ℕ) (place k : ℕ) (ts : List Tree) → length ts ≡ k → IsGood (made (raw.Call name place k) ts) → IsFormed (raw.Call name place k) ts
calls name place k ts h g =
    let real = both_true (is_utf8 name) (list_all is_real (print_args (args_among ts) ++ token.Sign sign.Close ∷ [])) g in
    let args = args_good ts (parts_real (print_args (args_among ts)) (token.Sign sign.Close ∷ []) real.1).0 in
    record { good = args.good; operands = some_is k (omega (arith, h, args.some)); named = refl }

with_else : (k : ℕ) (ts : List Tree) → length ts ≡ k → IsGood (made (raw.CaseElse k) ts) → IsFormed (raw.CaseElse k) ts
with_else k ts h g =
    let bs = branches_among (take (k - 1) ts) in
    let a = operand ts (k - 1) in
    let real = parts_real (print_branches bs) (token.Word keyword.Else ∷ (print a ++ token.Word keyword.End ∷ [])) g in
    let branches = branches_good (take (k - 1) ts) real.0 in
    let last : IsGood a = (parts_real (print a) (token.Word keyword.End ∷ []) real.1).0 in
    let some : 0 < k = least ts k h branches.pairs in
    record {
      good = subst AreGood (last_of ts k h (omega arith)) (good_append (take (k - 1) ts) (a ∷ []) branches.good (last, tt));
      operands = ap are_pairs (sym (length-take-le (k - 1) ts (omega arith))) ∙ branches.pairs;
      named = refl;
    }
  where
    least : (ts : List Tree) (k : ℕ) → length ts ≡ k → are_pairs (length (take (k - 1) ts)) ≡ true → 0 < k
    least [] k h pairs = let none : k - 1 ≡ 0 = omega arith in absurd (false≢true (ap (λ m. are_pairs (length (take {A = Tree} m []))) (sym none) ∙ pairs))
    least (t ∷ ts) k h pairs = omega arith

pub node_formed : (n : RawNode) (ts : List Tree) → length ts ≡ arity n → IsGood (made n ts) → IsFormed n ts
node_formed (raw.Number number) ts h g = leaf _ ts h refl refl
node_formed (raw.Text text) ts h g = leaf _ ts h refl refl
node_formed (raw.Truth b) ts h g = leaf _ ts h refl refl
node_formed raw.Null ts h g = leaf _ ts h refl refl
node_formed (raw.Name name place) ts h g = leaf _ ts h refl (first (is_utf8 name) g)
node_formed (raw.Column name) ts h g = leaf _ ts h refl (first (is_utf8 name) g)
node_formed (raw.Field name) ts h g = leaf _ ts h refl (first (is_utf8 name) g)
node_formed (raw.FieldOf view name) ts h g = leaf _ ts h refl (first (is_utf8 view && is_utf8 name) g)
node_formed raw.Group ts h g =
    one_good _ ts h refl refl (parts_real (print (operand ts 0)) (token.Sign sign.Close ∷ []) g).0
node_formed (raw.Call name place k) ts h g = calls name place k ts h g
node_formed (raw.Case k) ts h g =
    let branches = branches_good ts (parts_real (print_branches (branches_among ts)) (token.Word keyword.End ∷ []) g).0 in
    record { good = branches.good; operands = ap are_pairs (sym h) ∙ branches.pairs; named = refl }
node_formed (raw.CaseElse k) ts h g = with_else k ts h g
node_formed raw.Negate ts h g = one_good _ ts h refl refl g
node_formed (raw.Chain j) ts h g =
    let real = parts_real (print (operand ts 0)) _ g in
    two_good _ ts h refl refl real.0 (both_true _ (list_all is_real (print (operand ts 1))) real.1).1
node_formed (raw.Compare c) ts h g =
    let real = parts_real (print (operand ts 0)) (token.Compare c ∷ print (operand ts 1)) g in
    two_good _ ts h refl refl real.0 real.1
node_formed (raw.IsNull n) ts h g =
    one_good _ ts h refl refl (tested (operand ts 0) false (token.Word keyword.Is ∷ negated n (token.Word keyword.Null ∷ [])) g).0
node_formed (raw.In n k) ts h g = lists n k ts h g
node_formed (raw.Between n) ts h g =
    let real = tested (operand ts 0) n (token.Word keyword.Between ∷ (print (operand ts 1) ++ token.Word keyword.And ∷ print (operand ts 2))) g in
    let bounds = parts_real (print (operand ts 1)) (token.Word keyword.And ∷ print (operand ts 2)) real.1 in
    three_good _ ts h refl refl real.0 bounds.0 bounds.1
node_formed (raw.Like n text) ts h g =
    one_good _ ts h refl refl (tested (operand ts 0) n (token.Word keyword.Like ∷ token.Text text ∷ []) g).0
node_formed raw.Not ts h g = one_good _ ts h refl refl g

-- ---- all nodes

if_some : (b : Bool) (x : Option ℕ) (e : ℕ) → (if b then x else None) ≡ Some e → (b ≡ true) × (x ≡ Some e)
if_some true x e h = (refl, h)
if_some false x e h = cc

le_of_test : (m n : ℕ) → nat_le m n ≡ true → m ≤ n
le_of_test m n h = grind arith

pub nodes_formed : (stack : List Tree) (e : ℕ) (ns : List RawNode) → depth_after arity (length stack) ns ≡ Some e → AreGood (after_nodes arity made stack ns) → AreGood stack × (list_all is_formed ns ≡ true)
nodes_formed stack e [] h g = (g, refl)
nodes_formed stack e (n ∷ ns) h g =
    let low = take (length stack - arity n) stack in
    let high = drop (length stack - arity n) stack in
    let parts = if_some (nat_le (arity n) (length stack)) (depth_after arity ((length stack - arity n) + 1) ns) e h in
    let within = le_of_test (arity n) (length stack) parts.0 in
    let many : length high ≡ arity n = omega (arith, length-drop (length stack - arity n) stack) in
    let deep = ap (λ m. depth_after arity m ns) (omega (arith, length-append low (made n high ∷ []), length-take-le (length stack - arity n) stack (omega arith))) ∙ parts.1 in
    let rest = nodes_formed (low ++ made n high ∷ []) e ns deep g in
    let here = good_parts low (made n high ∷ []) rest.0 in
    let formed = node_formed n high many here.1.0 in (
      subst AreGood (take-append-drop (length stack - arity n) stack) (good_append low high here.0 formed.good),
      true_both (is_formed n) (list_all is_formed ns) (true_both (has_operands n) (is_named n) formed.operands formed.named) rest.1,
    )

-- the nodes of a tree
pub all_formed : (ns : List RawNode) (t : Tree) → trees_of ns ≡ t ∷ [] → depth_after arity 0 ns ≡ Some 1 → IsGood t → list_all is_formed ns ≡ true
all_formed ns t one whole good = (nodes_formed [] 1 ns whole (subst AreGood (sym one) (good, tt))).1

-- a tree that a text spells
pub good_of : (e : Tree) (text : List ℕ) → IsExprText e text → IsGood e
good_of e text spelled = spelled_real (length text) (print e) text spelled.spelled

-- one node of all
pub at_place : (test : RawNode → Bool) (ns : List RawNode) (i : ℕ) (n : RawNode) → i < length ns → n ≡ get_or ns i n → list_all test ns ≡ true → test n ≡ true
at_place test ns i n lt at all = ap test at ∙ of_all ns i n lt all
  where
    of_all : (ns : List RawNode) (i : ℕ) (d : RawNode) → i < length ns → list_all test ns ≡ true → test (get_or ns i d) ≡ true
    of_all [] i d lt h = absurd (omega arith)
    of_all (m ∷ ns) zero d lt h = (both_true (test m) (list_all test ns) h).0
    of_all (m ∷ ns) (suc i) d lt h = of_all ns i d (omega arith) (both_true (test m) (list_all test ns) h).1

pub formed_at : (ns : List RawNode) (i : ℕ) (n : RawNode) → i < length ns → n ≡ get_or ns i n → list_all is_formed ns ≡ true → is_formed n ≡ true
formed_at = at_place is_formed
