-- How the expression of a measure of type number is found: what each node of a tree adds to the list of nodes.
use Rattle.std.specs.Prelude.{ℕ, nat_eq, if◌then◌else◌, List, [], ◌∷◌, Option, Some, None, Result, Ok, Err}
use Rattle.lk_val.specs.Numbers.{num_of}
use Rattle.lk_val.specs.declared.num.Num.{Num}
use Rattle.lk_val.specs.declared.num.NumFault.{NumFault}
use Rattle.lk_types.specs.declared.number.NumNode.{NumNode}
use Rattle.lk_types.specs.declared.number.NumNode.TheVariants as node
use Rattle.lk_types.specs.declared.expr.Arithmetic.{Arithmetic}
use Rattle.lk_types.specs.declared.expr.Arithmetic.TheVariants as arithmetic
use Rattle.lk_expr_token.specs.declared.functions.Function.{Function}
use Rattle.lk_expr_token.specs.declared.functions.Function.TheVariants as function
use Rattle.lk_expr_token.specs.Functions.{function_of}
use Rattle.lk_expr_tree.specs.declared.raw.Joint.{Joint}
use Rattle.lk_expr_tree.specs.declared.raw.Joint.TheVariants as joint
use Rattle.lk_expr_tree.specs.declared.raw.RawNode.{RawNode}
use Rattle.lk_expr_tree.specs.declared.raw.RawNode.TheVariants as raw

-- the operation of a joint of numbers
abbrev pub joint_arithmetic : Joint → Option Arithmetic
joint_arithmetic joint.Plus = Some arithmetic.Plus
joint_arithmetic joint.Minus = Some arithmetic.Minus
joint_arithmetic joint.Times = Some arithmetic.Times
joint_arithmetic joint.Over = Some arithmetic.Over
joint_arithmetic joint.Or = None
joint_arithmetic joint.And = None
joint_arithmetic joint.Concat = None

-- the number of a text, and null for any other, which no tree has that a text spells
abbrev pub number_node : Result Num NumFault → NumNode
number_node (Ok n) = node.Literal n
number_node (Err e) = node.Coalesce 0

-- a call of so many arguments, which stands as COALESCE where they are not as many as the function takes
abbrev pub call_node : Option Function → ℕ → NumNode
call_node None count = node.Coalesce count
call_node (Some function.Coalesce) count = node.Coalesce count
call_node (Some function.NullIf) count = if nat_eq count 2 then node.NullIf else node.Coalesce count
call_node (Some function.Lower) count = node.Coalesce count
call_node (Some function.Upper) count = node.Coalesce count

abbrev pub joint_node : Option Arithmetic → List NumNode
joint_node None = []
joint_node (Some operation) = node.Number operation ∷ []

-- what a node adds, where so many names stand before it; none but those of measures add any
abbrev pub measure_nodes : ℕ → RawNode → List NumNode
measure_nodes n (raw.Number number) = number_node (num_of number) ∷ []
measure_nodes n (raw.Field name) = node.Measure n ∷ []
measure_nodes n (raw.FieldOf view name) = node.Measure n ∷ []
measure_nodes n (raw.Call name place count) = call_node (function_of name) count ∷ []
measure_nodes n raw.Negate = node.Negate ∷ []
measure_nodes n (raw.Chain j) = joint_node (joint_arithmetic j)
measure_nodes n other = []
