-- The values of an expression, node by node: what a node makes of the values of its operands.
use Rattle.std.specs.Prelude.{ℕ, Bool, true, false, List, [], ◌∷◌, drop, map, slice_index_or, if◌then◌else◌}
use Rattle.lk_val.specs.Values.{is_null}
use Rattle.lk_val.specs.declared.value.Value.{Value}
use Rattle.lk_val.specs.declared.value.Value.TheVariants as value
use Rattle.lk_types.specs.Dates.{is_dated}
use Rattle.lk_types.specs.Expressions.{column_of, truth_of, value_of_truth, and_of, or_of, not_of, compared, is_one_of, like, apply, negated, joined_text, on_text, ascii_lower, ascii_upper, first_known, null_if, is_true}
use Rattle.lk_types.specs.Timeframes.{timeframe_of}
use Rattle.lk_types.specs.declared.rows.Joined.{Joined}
use Rattle.lk_types.specs.declared.expr.Comparison.TheVariants as comparison
use Rattle.lk_types.specs.declared.expr.Node.{Node}
use Rattle.lk_types.specs.declared.expr.Node.TheVariants as node

-- the value of an operand by its place, and null where there is none
abbrev pub operand : List Value → ℕ → Value
operand values i = slice_index_or values i value.Null

-- the value behind the first condition that is true, or the last, if it has no condition
abbrev pub first_chosen : List Value → Value
first_chosen [] = value.Null
first_chosen (a ∷ []) = a
first_chosen (c ∷ a ∷ values) = if is_true c then a else first_chosen values

-- the value of a node on a row
abbrev pub value_made : Joined → Node → List Value → Value
value_made row (node.Column part column) vs = column_of row part column
value_made row (node.Literal v) vs = v
value_made row (node.Framed f) vs = timeframe_of f (operand vs 0)
value_made row node.Not vs = value_of_truth (not_of (truth_of (operand vs 0)))
value_made row node.And vs = value_of_truth (and_of (truth_of (operand vs 0)) (truth_of (operand vs 1)))
value_made row node.Or vs = value_of_truth (or_of (truth_of (operand vs 0)) (truth_of (operand vs 1)))
value_made row (node.Compare c) vs = value_of_truth (compared c (operand vs 0) (operand vs 1))
value_made row node.IsNull vs = value.Truth (is_null (operand vs 0))
value_made row (node.In count) vs = value_of_truth (is_one_of (operand vs 0) (drop 1 vs))
value_made row node.Between vs =
    value_of_truth (and_of (compared comparison.AtLeast (operand vs 0) (operand vs 1)) (compared comparison.AtMost (operand vs 0) (operand vs 2)))
value_made row (node.Like pieces) vs = value_of_truth (like (operand vs 0) pieces)
value_made row (node.Number op) vs = apply op (operand vs 0) (operand vs 1)
value_made row node.Negate vs = negated (operand vs 0)
value_made row node.Concat vs = joined_text (operand vs 0) (operand vs 1)
value_made row (node.Case count) vs = first_chosen vs
value_made row (node.Coalesce count) vs = first_known vs
value_made row node.NullIf vs = null_if (operand vs 0) (operand vs 1)
value_made row node.Lower vs = on_text (map ascii_lower) (operand vs 0)
value_made row node.Upper vs = on_text (map ascii_upper) (operand vs 0)

-- a literal that is a day or moment is of the years 1 to 9999
abbrev pub is_node_dated : Node → Bool
is_node_dated (node.Literal v) = is_dated v
is_node_dated n = true

-- the value of a node is a truth value, or null for unknown
abbrev pub is_test : Node → Bool
is_test node.Not = true
is_test node.And = true
is_test node.Or = true
is_test (node.Compare c) = true
is_test node.IsNull = true
is_test (node.In count) = true
is_test node.Between = true
is_test (node.Like pieces) = true
is_test n = false

-- the value of a node is one of the row, of the node or of an operand
abbrev pub is_borrowed : Node → Bool
is_borrowed (node.Column part column) = true
is_borrowed (node.Literal v) = true
is_borrowed (node.Case count) = true
is_borrowed (node.Coalesce count) = true
is_borrowed node.NullIf = true
is_borrowed n = false
