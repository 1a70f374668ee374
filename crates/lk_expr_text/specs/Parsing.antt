-- The tree in front of some tokens, and the tokens behind it: from the left, by what comes first.
use Rattle.std.specs.Prelude.{ℕ, zero, suc, Bool, true, false, List, [], ◌∷◌, Option, Some, None}
use Rattle.lk_expr_token.specs.declared.token.Keyword.TheVariants as keyword
use Rattle.lk_expr_token.specs.declared.token.Sign.TheVariants as sign
use Rattle.lk_expr_token.specs.declared.token.Token.{Token}
use Rattle.lk_expr_token.specs.declared.token.Token.TheVariants as token
use Rattle.lk_expr_tree.specs.declared.raw.Joint.{Joint}
use Rattle.lk_expr_tree.specs.declared.raw.Joint.TheVariants as joint
use Rattle.lk_expr_text.specs.declared.parser.Precedence.{Precedence}
use Rattle.lk_expr_text.specs.declared.parser.Precedence.TheVariants as precedence
use Rattle.lk_expr_text.specs.declared.parser.Item.{Item}
use Rattle.lk_expr_text.specs.declared.parser.Item.TheVariants as item
use Rattle.lk_expr_text.specs.declared.parser.Nest.{Nest}
use Rattle.lk_expr_text.specs.declared.parser.Nest.TheVariants as nest
use Rattle.lk_expr_tree.specs.Grammar.{Tree, Name, Case, Args, Branches}
use Rattle.lk_expr_tree.specs.Growing.{Parsed, ParsedArgs, ParsedBranches, Branch, joined, first_arg, next_arg, valued, first_branch, next_branch, grouped, called, ended_else, leaf, with_sign, denied, compared, null_test, listed, upto, liked}

abbrev pub Parser : Type 0
Parser = List Token → Parsed

-- ---- chains

abbrev pub joint_of : Precedence → Token → Option Joint
joint_of precedence.Or (token.Word keyword.Or) = Some joint.Or
joint_of precedence.And (token.Word keyword.And) = Some joint.And
joint_of precedence.Sum (token.Sign sign.Plus) = Some joint.Plus
joint_of precedence.Sum (token.Sign sign.Minus) = Some joint.Minus
joint_of precedence.Sum (token.Sign sign.Concat) = Some joint.Concat
joint_of precedence.Term (token.Sign sign.Times) = Some joint.Times
joint_of precedence.Term (token.Sign sign.Over) = Some joint.Over
joint_of p t = None

-- what joins, if it comes first
abbrev pub next_joint : Precedence → List Token → Option Joint
next_joint p [] = None
next_joint p (t ∷ ts) = joint_of p t

abbrev pub behind_first : List Token → List Token
behind_first [] = []
behind_first (t ∷ ts) = ts

-- the chain goes on where something joins
abbrev pub go_on : (Parsed → Parsed) → Parser → Tree → List Token → Option Joint → Parsed
go_on further operand a rest None = Some (a, rest)
go_on further operand a rest (Some j) = further (joined j a (operand (behind_first rest)))

-- the chain that begins with a tree, with the fuel of a token for each link
abbrev pub links : Precedence → Parser → List Token → Parsed → Parsed
links p operand fuel None = None
links p operand [] (Some found) = None
links p operand (f ∷ fuel) (Some (a, rest)) = go_on (links p operand fuel) operand a rest (next_joint p rest)

abbrev pub chain_in : Precedence → Parser → Parser
chain_in p operand ts = links p operand ts (operand ts)

-- ---- arguments

-- what is behind a comma, if one comes first
abbrev pub after_comma : List Token → Option (List Token)
after_comma (token.Sign sign.Comma ∷ rest) = Some rest
after_comma ts = None

abbrev pub go_on_args : (ParsedArgs → ParsedArgs) → Parser → Args → List Token → Option (List Token) → ParsedArgs
go_on_args further operand args rest None = Some (args, rest)
go_on_args further operand args rest (Some behind) = further (next_arg args (operand behind))

abbrev pub more_args : Parser → List Token → ParsedArgs → ParsedArgs
more_args operand fuel None = None
more_args operand [] (Some found) = None
more_args operand (f ∷ fuel) (Some (args, rest)) = go_on_args (more_args operand fuel) operand args rest (after_comma rest)

abbrev pub args_in : Parser → List Token → ParsedArgs
args_in operand ts = more_args operand ts (first_arg (operand ts))

-- ---- branches

abbrev pub then_value : Parser → Parsed → Option Branch
then_value operand (Some (c, token.Word keyword.Then ∷ rest)) = valued c (operand rest)
then_value operand found = None

-- a condition and its value, behind WHEN
abbrev pub branch_in : Parser → List Token → Option Branch
branch_in operand ts = then_value operand (operand ts)

abbrev pub after_when : List Token → Option (List Token)
after_when (token.Word keyword.When ∷ rest) = Some rest
after_when ts = None

abbrev pub go_on_branches : (ParsedBranches → ParsedBranches) → Parser → Branches → List Token → Option (List Token) → ParsedBranches
go_on_branches further operand branches rest None = Some (branches, rest)
go_on_branches further operand branches rest (Some behind) = further (next_branch branches (branch_in operand behind))

abbrev pub more_branches : Parser → List Token → ParsedBranches → ParsedBranches
more_branches operand fuel None = None
more_branches operand [] (Some found) = None
more_branches operand (f ∷ fuel) (Some (branches, rest)) = go_on_branches (more_branches operand fuel) operand branches rest (after_when rest)

abbrev pub branches_in : Parser → List Token → ParsedBranches
branches_in operand (token.Word keyword.When ∷ rest) = more_branches operand rest (first_branch (branch_in operand rest))
branches_in operand ts = None

-- ---- what nothing joins

-- a column's name, or a function's before a bracket
abbrev pub named : Parser → List ℕ → ℕ → List Token → Parsed
named operand name place (token.Sign sign.Open ∷ rest) = called name place (args_in operand rest)
named operand name place rest = Some (Name name place, rest)

abbrev pub case_end : Parser → ParsedBranches → Parsed
case_end operand (Some (branches, token.Word keyword.End ∷ rest)) = Some (Case branches, rest)
case_end operand (Some (branches, token.Word keyword.Else ∷ rest)) = ended_else branches (operand rest)
case_end operand found = None

abbrev pub atom_in : Parser → Parser
atom_in whole [] = None
atom_in whole (token.Name name place ∷ rest) = named whole name place rest
atom_in whole (token.Word keyword.Case ∷ rest) = case_end whole (branches_in whole rest)
atom_in whole (token.Sign sign.Open ∷ rest) = grouped (whole rest)
atom_in whole (t ∷ rest) = leaf t rest

-- ---- signs and tests

-- what stands one level deeper
abbrev pub Below : Type 0
Below = Nest → Parser

abbrev pub unary_in : Below → Parser
unary_in below (token.Sign sign.Minus ∷ rest) = with_sign (below nest.Sign rest)
unary_in below ts = atom_in (below nest.Whole) ts

abbrev pub sum_in : Below → Parser
sum_in below = chain_in precedence.Sum (chain_in precedence.Term (unary_in below))

abbrev pub bounded : Parser → Bool → Tree → Parsed → Parsed
bounded operand n a (Some (low, token.Word keyword.And ∷ rest)) = upto n a low (operand rest)
bounded operand n a found = None

abbrev pub list_in : Parser → Bool → Tree → List Token → Parsed
list_in operand n a (token.Sign sign.Open ∷ rest) = listed n a (args_in operand rest)
list_in operand n a ts = None

-- IN, BETWEEN or LIKE behind an expression
abbrev pub choice_in : Parser → Bool → Tree → List Token → Parsed
choice_in operand n a (token.Word keyword.In ∷ rest) = list_in operand n a rest
choice_in operand n a (token.Word keyword.Between ∷ rest) = bounded operand n a (operand rest)
choice_in operand n a (token.Word keyword.Like ∷ rest) = liked n a rest
choice_in operand n a ts = None

-- what tests an expression, if something does
abbrev pub test_of : Parser → Tree → List Token → Parsed
test_of operand a (token.Compare c ∷ rest) = compared c a (operand rest)
test_of operand a (token.Word keyword.Is ∷ rest) = null_test a rest
test_of operand a (token.Word keyword.Not ∷ rest) = choice_in operand true a rest
test_of operand a (token.Word keyword.In ∷ rest) = choice_in operand false a (token.Word keyword.In ∷ rest)
test_of operand a (token.Word keyword.Between ∷ rest) = choice_in operand false a (token.Word keyword.Between ∷ rest)
test_of operand a (token.Word keyword.Like ∷ rest) = choice_in operand false a (token.Word keyword.Like ∷ rest)
test_of operand a ts = Some (a, ts)

abbrev pub tested : Parser → Parsed → Parsed
tested operand None = None
tested operand (Some (a, rest)) = test_of operand a rest

abbrev pub after_not : List Token → Option (List Token)
after_not (token.Word keyword.Not ∷ rest) = Some rest
after_not ts = None

-- what NOT denies, or else a test
abbrev pub denied_or_tested : Below → List Token → Option (List Token) → Parsed
denied_or_tested below ts None = tested (sum_in below) (sum_in below ts)
denied_or_tested below ts (Some behind) = denied (below nest.Negation behind)

abbrev pub not_in : Below → Parser
not_in below ts = denied_or_tested below ts (after_not ts)

abbrev pub whole_in : Below → Parser
whole_in below = chain_in precedence.Or (chain_in precedence.And (not_in below))

-- what a list's items are
abbrev pub item_in : Below → Item → Parser
item_in below item.Whole = below nest.Whole
item_in below item.Sum = sum_in below

-- what a chain joins
abbrev pub operand_in : Below → Precedence → Parser
operand_in below precedence.Or = chain_in precedence.And (not_in below)
operand_in below precedence.And = not_in below
operand_in below precedence.Sum = chain_in precedence.Term (unary_in below)
operand_in below precedence.Term = unary_in below

-- ---- nesting

abbrev pub nested_in : Below → Nest → Parser
nested_in below nest.Whole = whole_in below
nested_in below nest.Negation = not_in below
nested_in below nest.Sign = unary_in below

-- what stands a level deeper, where so many levels are left
unfoldable pub below : ℕ → Below
below zero n ts = None
below (suc left) n ts = nested_in (below left) n ts

-- the tree of all the tokens
abbrev pub all_of : Parsed → Option Tree
all_of (Some (a, [])) = Some a
all_of found = None

-- what nests may do so 100 deep
abbrev pub tree_in : List Token → Option Tree
tree_in ts = all_of (whole_in (below 100) ts)
