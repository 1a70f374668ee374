-- What a node alone says of calls and of measures: what its operands are is said by their own nodes.
use Rattle.std.specs.Prelude.{ℕ, nat_eq, nat_lt, Bool, true, false, Option, Some, None}
use Rattle.lk_expr_token.specs.declared.functions.Function.{Function}
use Rattle.lk_expr_token.specs.declared.functions.Function.TheVariants as function
use Rattle.lk_expr_token.specs.Functions.{function_of, is_of_measures}
use Rattle.lk_expr_tree.specs.declared.raw.RawNode.{RawNode}
use Rattle.lk_expr_tree.specs.declared.raw.RawNode.TheVariants as raw
use Rattle.lk_expr_tree.specs.Calls.{place_unless, is_arithmetic}

-- the function takes so many arguments, of which there is one at least
abbrev pub takes_count : Function → ℕ → Bool
takes_count function.Coalesce count = true
takes_count function.NullIf count = nat_eq count 2
takes_count function.Lower count = nat_lt count 2
takes_count function.Upper count = nat_lt count 2

abbrev pub is_taken_count : Option Function → ℕ → Bool
is_taken_count None count = false
is_taken_count (Some f) count = takes_count f count

-- where the node's own call stands, if it is of no known function, or has not as many arguments as it takes
abbrev pub unknown_node : RawNode → Option ℕ
unknown_node (raw.Call name place count) = place_unless (is_taken_count (function_of name) count) place
unknown_node n = None

-- the node may stand in a measure
abbrev pub is_measure_node : RawNode → Bool
is_measure_node (raw.Number number) = true
is_measure_node (raw.Field name) = true
is_measure_node (raw.FieldOf view name) = true
is_measure_node raw.Group = true
is_measure_node raw.Negate = true
is_measure_node (raw.Call name place count) = is_of_measures (function_of name)
is_measure_node (raw.Chain j) = is_arithmetic j
is_measure_node n = false
