-- How an expression with numbers in place of its names is found: what each node of a tree adds to the list of nodes.
use Rattle.std.specs.Prelude.{ℕ, nat_eq, Bool, true, false, ◌&&◌, if◌then◌else◌, List, [], ◌∷◌, Option, Some, None}
use Rattle.std.specs.Str.{is_utf8}
use Rattle.lk_val.specs.Numbers.{num_of}
use Rattle.lk_val.specs.declared.value.Value.TheVariants as value
use Rattle.lk_types.specs.declared.expr.Node.{Node}
use Rattle.lk_types.specs.declared.expr.Node.TheVariants as node
use Rattle.lk_types.specs.declared.expr.Arithmetic.TheVariants as arithmetic
use Rattle.lk_eval.specs.Patterns.{pattern_of}
use Rattle.lk_expr_token.specs.declared.functions.Function.{Function}
use Rattle.lk_expr_token.specs.declared.functions.Function.TheVariants as function
use Rattle.lk_expr_token.specs.Functions.{function_of}
use Rattle.lk_expr_tree.specs.declared.raw.Joint.{Joint}
use Rattle.lk_expr_tree.specs.declared.raw.Joint.TheVariants as joint
use Rattle.lk_expr_tree.specs.declared.raw.RawNode.{RawNode}
use Rattle.lk_expr_tree.specs.declared.raw.RawNode.TheVariants as raw
use Rattle.lk_objects.specs.declared.code.Reference.{Reference}
use Rattle.lk_objects.specs.declared.code.Reference.TheVariants as reference
use Rattle.lk_written.specs.Skeletons.{number_value}

-- the name that a node is
abbrev pub node_references : RawNode → List Reference
node_references (raw.Column name) = reference.Column name ∷ []
node_references (raw.Name name place) = reference.Column name ∷ []
node_references (raw.Field name) = reference.Own name ∷ []
node_references (raw.FieldOf view name) = reference.Of view name ∷ []
node_references n = []

-- the name that the node is, if it is one, is a text
abbrev pub is_named : RawNode → Bool
is_named (raw.Name name place) = is_utf8 name
is_named (raw.Column name) = is_utf8 name
is_named (raw.Field name) = is_utf8 name
is_named (raw.FieldOf view name) = is_utf8 view && is_utf8 name
is_named n = true

-- a test, and NOT behind it where it is denied
abbrev pub denied : Bool → Node → List Node
denied true test = test ∷ node.Not ∷ []
denied false test = test ∷ []

abbrev pub joint_node : Joint → Node
joint_node joint.Or = node.Or
joint_node joint.And = node.And
joint_node joint.Plus = node.Number arithmetic.Plus
joint_node joint.Minus = node.Number arithmetic.Minus
joint_node joint.Concat = node.Concat
joint_node joint.Times = node.Number arithmetic.Times
joint_node joint.Over = node.Number arithmetic.Over

-- a call of so many arguments, which stands as COALESCE where they are not as many as the function takes
abbrev pub call_node : Option Function → ℕ → Node
call_node None count = node.Coalesce count
call_node (Some function.Coalesce) count = node.Coalesce count
call_node (Some function.NullIf) count = if nat_eq count 2 then node.NullIf else node.Coalesce count
call_node (Some function.Lower) count = if nat_eq count 1 then node.Lower else node.Coalesce count
call_node (Some function.Upper) count = if nat_eq count 1 then node.Upper else node.Coalesce count

-- what a node adds, where so many names stand before it
abbrev pub skeleton_nodes : ℕ → RawNode → List Node
skeleton_nodes n (raw.Number number) = node.Literal (number_value (num_of number)) ∷ []
skeleton_nodes n (raw.Text text) = node.Literal (value.Text text) ∷ []
skeleton_nodes n (raw.Truth b) = node.Literal (value.Truth b) ∷ []
skeleton_nodes n raw.Null = node.Literal value.Null ∷ []
skeleton_nodes n (raw.Name name place) = node.Column 0 n ∷ []
skeleton_nodes n (raw.Column name) = node.Column 0 n ∷ []
skeleton_nodes n (raw.Field name) = node.Column 0 n ∷ []
skeleton_nodes n (raw.FieldOf view name) = node.Column 0 n ∷ []
skeleton_nodes n raw.Group = []
skeleton_nodes n (raw.Call name place count) = call_node (function_of name) count ∷ []
skeleton_nodes n (raw.Case count) = node.Case count ∷ []
skeleton_nodes n (raw.CaseElse count) = node.Case count ∷ []
skeleton_nodes n raw.Negate = node.Negate ∷ []
skeleton_nodes n (raw.Chain j) = joint_node j ∷ []
skeleton_nodes n (raw.Compare c) = node.Compare c ∷ []
skeleton_nodes n (raw.IsNull negated) = denied negated node.IsNull
skeleton_nodes n (raw.In negated count) = denied negated (node.In count)
skeleton_nodes n (raw.Between negated) = denied negated node.Between
skeleton_nodes n (raw.Like negated pattern) = denied negated (node.Like (pattern_of pattern))
skeleton_nodes n raw.Not = node.Not ∷ []
