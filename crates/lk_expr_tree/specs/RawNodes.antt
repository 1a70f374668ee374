-- Which trees a list of nodes builds: each node stands behind its operands.
use Rattle.std.specs.Prelude.{ℕ, ◌-◌, List, [], ◌∷◌, take, drop, reverse, slice_index_or}
use Rattle.lk_expr_tree.specs.declared.raw.RawNode.{RawNode}
use Rattle.lk_expr_tree.specs.declared.raw.RawNode.TheVariants as raw
use Rattle.lk_expr_tree.specs.Grammar.{Tree, Number, Text, Name, Column, Field, FieldOf, Truth, Null, Group, Call, Case, CaseElse, Negate, Chain, Compare, IsNull, In, Between, Like, Not, Args, one, more, Branches, when, then_when}
use Rattle.lk_postfix.specs.Postfix.{after_nodes}

-- how many operands a node takes
abbrev pub arity : RawNode → ℕ
arity (raw.Number number) = 0
arity (raw.Text text) = 0
arity (raw.Truth b) = 0
arity raw.Null = 0
arity (raw.Name name place) = 0
arity (raw.Column name) = 0
arity (raw.Field name) = 0
arity (raw.FieldOf view name) = 0
arity raw.Group = 1
arity (raw.Call name place count) = count
arity (raw.Case count) = count
arity (raw.CaseElse count) = count
arity raw.Negate = 1
arity (raw.Chain j) = 2
arity (raw.Compare c) = 2
arity (raw.IsNull n) = 1
arity (raw.In n count) = count
arity (raw.Between n) = 3
arity (raw.Like n text) = 1
arity raw.Not = 1

-- an operand by its place; a number without digits, which no text spells, where there is none
abbrev pub operand : List Tree → ℕ → Tree
operand operands i = slice_index_or operands i (Number [])

-- arguments, from the last one on
abbrev pub args_back : List Tree → Args
args_back [] = one (Number [])
args_back (a ∷ []) = one a
args_back (a ∷ operands) = more (args_back operands) a

-- branches, from the last value and its condition on
abbrev pub branches_back : List Tree → Branches
branches_back (a ∷ c ∷ []) = when c a
branches_back (a ∷ c ∷ operands) = then_when (branches_back operands) c a
branches_back operands = when (operand operands 0) (Number [])

abbrev pub args_among : List Tree → Args
args_among operands = args_back (reverse operands)

abbrev pub branches_among : List Tree → Branches
branches_among operands = branches_back (reverse operands)

-- the tree of a node and its operands
abbrev pub made : RawNode → List Tree → Tree
made (raw.Number number) xs = Number number
made (raw.Text text) xs = Text text
made (raw.Truth b) xs = Truth b
made raw.Null xs = Null
made (raw.Name name place) xs = Name name place
made (raw.Column name) xs = Column name
made (raw.Field name) xs = Field name
made (raw.FieldOf view name) xs = FieldOf view name
made raw.Group xs = Group (operand xs 0)
made (raw.Call name place count) xs = Call name place (args_among xs)
made (raw.Case count) xs = Case (branches_among xs)
made (raw.CaseElse count) xs = CaseElse (branches_among (take (count - 1) xs)) (operand xs (count - 1))
made raw.Negate xs = Negate (operand xs 0)
made (raw.Chain j) xs = Chain j (operand xs 0) (operand xs 1)
made (raw.Compare c) xs = Compare c (operand xs 0) (operand xs 1)
made (raw.IsNull n) xs = IsNull n (operand xs 0)
made (raw.In n count) xs = In n (operand xs 0) (args_among (drop 1 xs))
made (raw.Between n) xs = Between n (operand xs 0) (operand xs 1) (operand xs 2)
made (raw.Like n text) xs = Like n (operand xs 0) text
made raw.Not xs = Not (operand xs 0)

-- the trees of a list of nodes
abbrev pub trees_of : List RawNode → List Tree
trees_of nodes = after_nodes arity made [] nodes
