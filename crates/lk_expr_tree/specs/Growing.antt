-- Trees that grow by one step: each takes what was found in front of some tokens, and the tokens behind it.
use Rattle.std.specs.Prelude.{ℕ, Bool, true, false, List, ◌∷◌, Option, Some, None}
use Rattle.lk_types.specs.declared.expr.Comparison.{Comparison}
use Rattle.lk_expr_token.specs.declared.token.Keyword.TheVariants as keyword
use Rattle.lk_expr_token.specs.declared.token.Sign.TheVariants as sign
use Rattle.lk_expr_token.specs.declared.token.Token.{Token}
use Rattle.lk_expr_token.specs.declared.token.Token.TheVariants as token
use Rattle.lk_expr_tree.specs.declared.raw.Joint.{Joint}
use Rattle.lk_expr_tree.specs.Grammar.{Tree, Number, Text, Column, Field, FieldOf, Truth, Null, Group, Call, CaseElse, Negate, Chain, Compare, IsNull, In, Between, Like, Not, Args, one, more, Branches, when, then_when}

-- a tree and the tokens behind it, where there is one
abbrev pub Parsed : Type 0
Parsed = Option (Tree × List Token)

abbrev pub ParsedArgs : Type 0
ParsedArgs = Option (Args × List Token)

abbrev pub ParsedBranches : Type 0
ParsedBranches = Option (Branches × List Token)

abbrev pub Branch : Type 0
Branch = Tree × (Tree × List Token)

abbrev pub joined : Joint → Tree → Parsed → Parsed
joined j a None = None
joined j a (Some (b, rest)) = Some (Chain j a b, rest)

abbrev pub compared : Comparison → Tree → Parsed → Parsed
compared c a None = None
compared c a (Some (b, rest)) = Some (Compare c a b, rest)

abbrev pub upto : Bool → Tree → Tree → Parsed → Parsed
upto n a low None = None
upto n a low (Some (high, rest)) = Some (Between n a low high, rest)

abbrev pub null_test : Tree → List Token → Parsed
null_test a (token.Word keyword.Null ∷ rest) = Some (IsNull false a, rest)
null_test a (token.Word keyword.Not ∷ token.Word keyword.Null ∷ rest) = Some (IsNull true a, rest)
null_test a ts = None

abbrev pub listed : Bool → Tree → ParsedArgs → Parsed
listed n a (Some (args, token.Sign sign.Close ∷ rest)) = Some (In n a args, rest)
listed n a found = None

abbrev pub liked : Bool → Tree → List Token → Parsed
liked n a (token.Text text ∷ rest) = Some (Like n a text, rest)
liked n a ts = None

abbrev pub with_sign : Parsed → Parsed
with_sign None = None
with_sign (Some (a, rest)) = Some (Negate a, rest)

abbrev pub denied : Parsed → Parsed
denied None = None
denied (Some (a, rest)) = Some (Not a, rest)

abbrev pub grouped : Parsed → Parsed
grouped (Some (a, token.Sign sign.Close ∷ rest)) = Some (Group a, rest)
grouped found = None

abbrev pub first_arg : Parsed → ParsedArgs
first_arg None = None
first_arg (Some (a, rest)) = Some (one a, rest)

abbrev pub next_arg : Args → Parsed → ParsedArgs
next_arg args None = None
next_arg args (Some (a, rest)) = Some (more args a, rest)

abbrev pub called : List ℕ → ℕ → ParsedArgs → Parsed
called name place (Some (args, token.Sign sign.Close ∷ rest)) = Some (Call name place args, rest)
called name place found = None

abbrev pub valued : Tree → Parsed → Option Branch
valued c None = None
valued c (Some (a, rest)) = Some (c, (a, rest))

abbrev pub first_branch : Option Branch → ParsedBranches
first_branch None = None
first_branch (Some (c, (a, rest))) = Some (when c a, rest)

abbrev pub next_branch : Branches → Option Branch → ParsedBranches
next_branch branches None = None
next_branch branches (Some (c, (a, rest))) = Some (then_when branches c a, rest)

abbrev pub ended_else : Branches → Parsed → Parsed
ended_else branches (Some (a, token.Word keyword.End ∷ rest)) = Some (CaseElse branches a, rest)
ended_else branches found = None

-- one token that is an expression alone
abbrev pub leaf : Token → List Token → Parsed
leaf (token.Number number) rest = Some (Number number, rest)
leaf (token.Text text) rest = Some (Text text, rest)
leaf (token.Column name) rest = Some (Column name, rest)
leaf (token.Field name) rest = Some (Field name, rest)
leaf (token.FieldOf view name) rest = Some (FieldOf view name, rest)
leaf (token.Word keyword.True) rest = Some (Truth true, rest)
leaf (token.Word keyword.False) rest = Some (Truth false, rest)
leaf (token.Word keyword.Null) rest = Some (Null, rest)
leaf t rest = None
