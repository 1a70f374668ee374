-- Which expression a list of nodes is: each node stands behind its operands.
use Rattle.std.specs.Prelude.{ℕ, nat_eq, Bool, false, List, [], ◌∷◌, drop, slice_index_or}
use Rattle.lk_val.specs.declared.value.Value.TheVariants as value
use Rattle.lk_types.specs.declared.expr.Node.{Node}
use Rattle.lk_types.specs.declared.expr.Node.TheVariants as node
use Rattle.lk_types.specs.Formula.{Formula, Column, Literal, Framed, Not, And, Or, Compare, IsNull, In, Between, Like, Number, Negate, Concat, Lower, Upper, Case, Coalesce, NullIf, Formulas, no_more, more, Cases, without_else, otherwise, when}
use Rattle.lk_postfix.specs.Postfix.{after_nodes}

-- how many operands a node takes
abbrev pub arity : Node → ℕ
arity (node.Column part column) = 0
arity (node.Literal v) = 0
arity (node.Framed f) = 1
arity node.Not = 1
arity node.And = 2
arity node.Or = 2
arity (node.Compare c) = 2
arity node.IsNull = 1
arity (node.In count) = count
arity node.Between = 3
arity (node.Like pieces) = 1
arity (node.Number op) = 2
arity node.Negate = 1
arity node.Concat = 2
arity (node.Case count) = count
arity (node.Coalesce count) = count
arity node.NullIf = 2
arity node.Lower = 1
arity node.Upper = 1

-- an operand by its place, and null where there is none
abbrev pub operand : List Formula → ℕ → Formula
operand operands i = slice_index_or operands i (Literal value.Null)

-- expressions as arguments
abbrev pub formulas_of : List Formula → Formulas
formulas_of [] = no_more
formulas_of (a ∷ operands) = more a (formulas_of operands)

-- a condition and a value for each branch, and then the value of ELSE, if there is one
abbrev pub cases_of : List Formula → Cases
cases_of [] = without_else
cases_of (a ∷ []) = otherwise a
cases_of (c ∷ a ∷ operands) = when c a (cases_of operands)

-- the expression of a node and its operands
abbrev pub made : Node → List Formula → Formula
made (node.Column part column) xs = Column part column
made (node.Literal v) xs = Literal v
made (node.Framed f) xs = Framed f (operand xs 0)
made node.Not xs = Not (operand xs 0)
made node.And xs = And (operand xs 0) (operand xs 1)
made node.Or xs = Or (operand xs 0) (operand xs 1)
made (node.Compare c) xs = Compare c (operand xs 0) (operand xs 1)
made node.IsNull xs = IsNull (operand xs 0)
made (node.In count) xs = In (operand xs 0) (formulas_of (drop 1 xs))
made node.Between xs = Between (operand xs 0) (operand xs 1) (operand xs 2)
made (node.Like pieces) xs = Like (operand xs 0) pieces
made (node.Number op) xs = Number op (operand xs 0) (operand xs 1)
made node.Negate xs = Negate (operand xs 0)
made node.Concat xs = Concat (operand xs 0) (operand xs 1)
made (node.Case count) xs = Case (cases_of xs)
made (node.Coalesce count) xs = Coalesce (formulas_of xs)
made node.NullIf xs = NullIf (operand xs 0) (operand xs 1)
made node.Lower xs = Lower (operand xs 0)
made node.Upper xs = Upper (operand xs 0)

-- the expression of a list of nodes
abbrev pub formula_of : List Node → Formula
formula_of nodes = operand (after_nodes arity made [] nodes) 0

-- a node is a column of the part
abbrev pub is_of_part : ℕ → Node → Bool
is_of_part part (node.Column p column) = nat_eq part p
is_of_part part n = false
