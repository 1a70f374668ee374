-- The grammar of expressions: its trees, the tokens of a tree, and where a tree may stand.
use Rattle.std.specs.Prelude.{◌≡◌, ℕ, suc, ◌≤◌, nat_le, max, Bool, true, false, ◌&&◌, List, [], ◌∷◌, ◌++◌, length}
use Rattle.lk_types.specs.declared.expr.Comparison.{Comparison}
use Rattle.lk_expr_token.specs.declared.token.Keyword.TheVariants as keyword
use Rattle.lk_expr_token.specs.declared.token.Sign.TheVariants as sign
use Rattle.lk_expr_token.specs.declared.token.Token.{Token}
use Rattle.lk_expr_token.specs.declared.token.Token.TheVariants as token
use Rattle.lk_expr_tree.specs.declared.raw.Joint.{Joint}
use Rattle.lk_expr_tree.specs.declared.raw.Joint.TheVariants as joint
use Rattle.lk_expr_token.specs.Tokens.{IsSpelled}

-- ---- trees

mutual
  pub data Tree : Type 0 where
    -- literals, columns and references to fields
    Number Text Column Field : List ℕ → Tree
    FieldOf : List ℕ → List ℕ → Tree
    -- a bare name, and the byte of the text that it begins at
    Name : List ℕ → ℕ → Tree
    Truth : Bool → Tree
    Null : Tree
    -- an expression in brackets, a call with its name's byte, and a CASE without and with ELSE
    Group : Tree → Tree
    Call : List ℕ → ℕ → Args → Tree
    Case : Branches → Tree
    CaseElse : Branches → Tree → Tree
    -- a sign before an expression, and two that a sign or word joins
    Negate : Tree → Tree
    Chain : Joint → Tree → Tree → Tree
    -- tests; the Bool says whether NOT stands in it
    Compare : Comparison → Tree → Tree → Tree
    IsNull : Bool → Tree → Tree
    In : Bool → Tree → Args → Tree
    Between : Bool → Tree → Tree → Tree → Tree
    Like : Bool → Tree → List ℕ → Tree
    Not : Tree → Tree

  -- one or more, in order
  pub data Args : Type 0 where
    one : Tree → Args
    more : Args → Tree → Args

  -- one or more conditions with their values, in order
  pub data Branches : Type 0 where
    when : Tree → Tree → Branches
    then_when : Branches → Tree → Tree → Branches

-- ---- the tokens of a tree

abbrev pub joint_token : Joint → Token
joint_token joint.Or = token.Word keyword.Or
joint_token joint.And = token.Word keyword.And
joint_token joint.Plus = token.Sign sign.Plus
joint_token joint.Minus = token.Sign sign.Minus
joint_token joint.Concat = token.Sign sign.Concat
joint_token joint.Times = token.Sign sign.Times
joint_token joint.Over = token.Sign sign.Over

-- NOT before the tokens, where it stands
abbrev pub negated : Bool → List Token → List Token
negated true tokens = token.Word keyword.Not ∷ tokens
negated false tokens = tokens

abbrev mutual
  pub print : Tree → List Token
  print (Number number) = token.Number number ∷ []
  print (Text text) = token.Text text ∷ []
  print (Name name place) = token.Name name place ∷ []
  print (Column name) = token.Column name ∷ []
  print (Field name) = token.Field name ∷ []
  print (FieldOf view name) = token.FieldOf view name ∷ []
  print (Truth true) = token.Word keyword.True ∷ []
  print (Truth false) = token.Word keyword.False ∷ []
  print Null = token.Word keyword.Null ∷ []
  print (Group a) = token.Sign sign.Open ∷ (print a ++ token.Sign sign.Close ∷ [])
  print (Call name place args) = token.Name name place ∷ token.Sign sign.Open ∷ (print_args args ++ token.Sign sign.Close ∷ [])
  print (Case branches) = token.Word keyword.Case ∷ (print_branches branches ++ token.Word keyword.End ∷ [])
  print (CaseElse branches a) = token.Word keyword.Case ∷ (print_branches branches ++ token.Word keyword.Else ∷ (print a ++ token.Word keyword.End ∷ []))
  print (Negate a) = token.Sign sign.Minus ∷ print a
  print (Chain j a b) = print a ++ joint_token j ∷ print b
  print (Compare c a b) = print a ++ token.Compare c ∷ print b
  print (IsNull n a) = print a ++ token.Word keyword.Is ∷ negated n (token.Word keyword.Null ∷ [])
  print (In n a args) = print a ++ negated n (token.Word keyword.In ∷ token.Sign sign.Open ∷ (print_args args ++ token.Sign sign.Close ∷ []))
  print (Between n a low high) = print a ++ negated n (token.Word keyword.Between ∷ (print low ++ token.Word keyword.And ∷ print high))
  print (Like n a text) = print a ++ negated n (token.Word keyword.Like ∷ token.Text text ∷ [])
  print (Not a) = token.Word keyword.Not ∷ print a

  pub print_args : Args → List Token
  print_args (one a) = print a
  print_args (more args a) = print_args args ++ token.Sign sign.Comma ∷ print a

  pub print_branches : Branches → List Token
  print_branches (when c a) = token.Word keyword.When ∷ (print c ++ token.Word keyword.Then ∷ print a)
  print_branches (then_when branches c a) = print_branches branches ++ token.Word keyword.When ∷ (print c ++ token.Word keyword.Then ∷ print a)

-- ---- precedence

-- how tightly a chain binds: OR, AND, then NOT and the tests, sums, products
abbrev pub chain_level : Joint → ℕ
chain_level joint.Or = 0
chain_level joint.And = 1
chain_level joint.Plus = 4
chain_level joint.Minus = 4
chain_level joint.Concat = 4
chain_level joint.Times = 5
chain_level joint.Over = 5

abbrev pub level_of : Tree → ℕ
level_of (Chain j a b) = chain_level j
level_of (Not a) = 2
level_of (Compare c a b) = 3
level_of (IsNull n a) = 3
level_of (In n a args) = 3
level_of (Between n a low high) = 3
level_of (Like n a text) = 3
level_of (Negate a) = 6
level_of e = 7

-- the tree binds at least as tightly as its place wants, and its own parts do
abbrev pub stands : ℕ → Tree → Bool → Bool
stands level e built = nat_le level (level_of e) && built

abbrev mutual
  -- each part stands where it may
  pub is_built : Tree → Bool
  is_built (Group a) = stands 0 a (is_built a)
  is_built (Call name place args) = are_built 0 args
  is_built (Case branches) = are_branches_built branches
  is_built (CaseElse branches a) = are_branches_built branches && stands 0 a (is_built a)
  is_built (Negate a) = stands 6 a (is_built a)
  is_built (Chain j a b) = stands (chain_level j) a (is_built a) && stands (suc (chain_level j)) b (is_built b)
  is_built (Compare c a b) = stands 4 a (is_built a) && stands 4 b (is_built b)
  is_built (IsNull n a) = stands 4 a (is_built a)
  is_built (In n a args) = stands 4 a (is_built a) && are_built 4 args
  is_built (Between n a low high) = stands 4 a (is_built a) && (stands 4 low (is_built low) && stands 4 high (is_built high))
  is_built (Like n a text) = stands 4 a (is_built a)
  is_built (Not a) = stands 2 a (is_built a)
  is_built e = true

  pub are_built : ℕ → Args → Bool
  are_built level (one a) = stands level a (is_built a)
  are_built level (more args a) = are_built level args && stands level a (is_built a)

  pub are_branches_built : Branches → Bool
  are_branches_built (when c a) = stands 0 c (is_built c) && stands 0 a (is_built a)
  are_branches_built (then_when branches c a) = are_branches_built branches && (stands 0 c (is_built c) && stands 0 a (is_built a))

abbrev mutual
  -- how many brackets, calls, NOTs, signs and CASEs are open at once at most
  pub nests : Tree → ℕ
  nests (Group a) = suc (nests a)
  nests (Call name place args) = suc (nests_args args)
  nests (Case branches) = suc (nests_branches branches)
  nests (CaseElse branches a) = suc (max (nests_branches branches) (nests a))
  nests (Negate a) = suc (nests a)
  nests (Chain j a b) = max (nests a) (nests b)
  nests (Compare c a b) = max (nests a) (nests b)
  nests (IsNull n a) = nests a
  nests (In n a args) = max (nests a) (nests_args args)
  nests (Between n a low high) = max (nests a) (max (nests low) (nests high))
  nests (Like n a text) = nests a
  nests (Not a) = suc (nests a)
  nests e = 0

  pub nests_args : Args → ℕ
  nests_args (one a) = nests a
  nests_args (more args a) = max (nests_args args) (nests a)

  pub nests_branches : Branches → ℕ
  nests_branches (when c a) = max (nests c) (nests a)
  nests_branches (then_when branches c a) = max (nests_branches branches) (max (nests c) (nests a))

-- a tree of the grammar, and a text that spells it; it nests at most 100 deep
pub record IsExprText (e : Tree) (text : List ℕ) : Type 0 where
  pub built : is_built e ≡ true
  pub shallow : nests e ≤ 100
  pub spelled : IsSpelled (length text) (print e) text
