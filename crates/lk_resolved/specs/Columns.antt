-- The column that an expression is, node by node.
use Rattle.std.specs.Prelude.{ℕ, List, Option, Some, None, slice_index_or}
use Rattle.lk_types.specs.declared.expr.Node.{Node}
use Rattle.lk_types.specs.declared.expr.Node.TheVariants as node

-- a node is a column, whatever its operands are
abbrev pub column_made : Node → List (Option (ℕ × ℕ)) → Option (ℕ × ℕ)
column_made (node.Column part column) columns = Some (part, column)
column_made n columns = None

abbrev pub operand : List (Option (ℕ × ℕ)) → ℕ → Option (ℕ × ℕ)
operand columns i = slice_index_or columns i None
