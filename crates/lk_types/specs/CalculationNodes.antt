-- Which expression over measures a list of nodes is: each node stands behind its operands.
use Rattle.std.specs.Prelude.{ℕ, List, [], ◌∷◌, slice_index_or}
use Rattle.lk_types.specs.declared.number.NumNode.{NumNode}
use Rattle.lk_types.specs.declared.number.NumNode.TheVariants as node
use Rattle.lk_types.specs.Calculation.{Calculation, OfMeasure, Number, Apply, Negate, Coalesce, NullIf, Calculations, no_more, more}
use Rattle.lk_postfix.specs.Postfix.{after_nodes}

-- how many operands a node takes
abbrev pub arity : NumNode → ℕ
arity (node.Measure m) = 0
arity (node.Literal n) = 0
arity (node.Number op) = 2
arity node.Negate = 1
arity (node.Coalesce count) = count
arity node.NullIf = 2

-- an operand by its place, and COALESCE of nothing, which is null, where there is none
abbrev pub operand : List Calculation → ℕ → Calculation
operand operands i = slice_index_or operands i (Coalesce no_more)

-- expressions as arguments
abbrev pub calculations_of : List Calculation → Calculations
calculations_of [] = no_more
calculations_of (a ∷ operands) = more a (calculations_of operands)

-- the expression of a node and its operands
abbrev pub made : NumNode → List Calculation → Calculation
made (node.Measure m) xs = OfMeasure m
made (node.Literal n) xs = Number n
made (node.Number op) xs = Apply op (operand xs 0) (operand xs 1)
made node.Negate xs = Negate (operand xs 0)
made (node.Coalesce count) xs = Coalesce (calculations_of xs)
made node.NullIf xs = NullIf (operand xs 0) (operand xs 1)

-- the expression of a list of nodes
abbrev pub calculation_of : List NumNode → Calculation
calculation_of nodes = operand (after_nodes arity made [] nodes) 0
