-- The value of a calculation, node by node: what a node makes of the values of its operands.
use Rattle.std.specs.Prelude.{ℕ, List, [], ◌∷◌, Option, Some, None, option_and_then, slice_index_or, if◌then◌else◌}
use Rattle.lk_val.specs.Fractions.{Fraction, frac_neg, frac_of_sum}
use Rattle.lk_types.specs.declared.number.NumNode.{NumNode}
use Rattle.lk_types.specs.declared.number.NumNode.TheVariants as node
use Rattle.lk_semantics.specs.Answers.{applied, are_equal, or_else, with_both}

-- the value of an operand by its place, and null where there is none
abbrev pub operand : List (Option Fraction) → ℕ → Option Fraction
operand values i = slice_index_or values i None

-- the first value that is known
abbrev pub first_known : List (Option Fraction) → Option Fraction
first_known [] = None
first_known (v ∷ values) = or_else v (first_known values)

-- null where the two are known and equal, and else the first
abbrev pub null_if : Option Fraction → Option Fraction → Option Fraction
null_if a b = if are_equal a b then None else a

-- the value of a node, where `known m` is that of measure m
abbrev pub value_made : (ℕ → Option Fraction) → NumNode → List (Option Fraction) → Option Fraction
value_made known (node.Measure m) vs = known m
value_made known (node.Literal n) vs = Some (frac_of_sum n.0)
value_made known (node.Number op) vs = with_both (applied op) (operand vs 0) (operand vs 1)
value_made known node.Negate vs = option_and_then frac_neg (operand vs 0)
value_made known (node.Coalesce count) vs = first_known vs
value_made known node.NullIf vs = null_if (operand vs 0) (operand vs 1)
