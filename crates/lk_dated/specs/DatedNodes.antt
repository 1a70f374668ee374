-- The expression with its text literals read, node by node.
use Rattle.std.specs.Prelude.{ℕ, Bool, true, false, if◌then◌else◌, List, [], ◌∷◌, map, drop, Option, Some, None}
use Rattle.lk_types.specs.Formula.{Formula}
use Rattle.lk_types.specs.FormulaNodes.{formulas_of, made, operand}
use Rattle.lk_types.specs.Unfolded.{Sides, any_equal, from_to, listed, null_if, null_where_equal, ranged}
use Rattle.lk_types.specs.declared.expr.Node.{Node}
use Rattle.lk_types.specs.declared.expr.Node.TheVariants as node
use Rattle.lk_types.specs.declared.kind_set.KindSet.{KindSet}
use Rattle.lk_dated.specs.declared.side.Readings.{Readings}
use Rattle.lk_dated.specs.declared.side.Side.{Side}
use Rattle.lk_dated.specs.Dated.{compare_sides, compared, read_beside, text_of_value}
use Rattle.lk_dated.specs.Sides.{side_at}

-- the text of a node, where it is a text literal
abbrev pub text_of_node : Node → Option (List ℕ)
text_of_node (node.Literal v) = text_of_value v
text_of_node n = None

-- what a node makes of its operands, in which text literals are read already
abbrev pub dated_made : (Formula → KindSet) → (ℕ → ℕ → Formula) → Node → List Formula → Formula
dated_made kinds leaf (node.Column part column) xs = leaf part column
dated_made kinds leaf (node.Compare c) xs = compare_sides c (compared kinds (operand xs 0) (operand xs 1))
dated_made kinds leaf (node.In count) xs = listed (compared kinds) (operand xs 0) (formulas_of (drop 1 xs))
dated_made kinds leaf node.Between xs = ranged (compared kinds) (operand xs 0) (operand xs 1) (operand xs 2)
dated_made kinds leaf node.NullIf xs = null_if (compared kinds) (operand xs 0) (operand xs 1)
dated_made kinds leaf n xs = made n xs

-- ---- the same by what is told of the operands

-- an expression beside each of some, given what is told of these
abbrev pub equations_beside : Formula → List Side → List Formula → List Sides
equations_beside x (side ∷ sides) (a ∷ xs) = (read_beside side.kinds x, a) ∷ equations_beside x sides xs
equations_beside x sides xs = []

-- the first operand beside the one of a place
abbrev pub first_beside : List Side → List Formula → ℕ → Sides
first_beside sides xs i = (read_beside (side_at sides i).kinds (operand xs 0), operand xs i)

-- a comparison whose first operand is a text literal
abbrev pub written_out : Node → List Side → List Formula → Formula
written_out (node.In count) sides xs = any_equal (equations_beside (operand xs 0) (drop 1 sides) (drop 1 xs))
written_out node.Between sides xs = from_to (first_beside sides xs 1) (first_beside sides xs 2)
written_out node.NullIf sides xs = null_where_equal (operand xs 0) (first_beside sides xs 1)
written_out n sides xs = made n (map (read_beside (side_at sides 1).kinds) xs)

abbrev pub comparison_made : Option Readings → Node → List Side → List Formula → Formula
comparison_made None n sides xs = made n (map (read_beside (side_at sides 0).kinds) xs)
comparison_made (Some text) n sides xs = written_out n sides xs

abbrev pub is_comparison : Node → Bool
is_comparison (node.Compare c) = true
is_comparison (node.In count) = true
is_comparison node.Between = true
is_comparison node.NullIf = true
is_comparison n = false

abbrev pub tree_made : (ℕ → ℕ → Formula) → Node → List Side → List Formula → Formula
tree_made leaf (node.Column part column) sides xs = leaf part column
tree_made leaf n sides xs = if is_comparison n then comparison_made (side_at sides 0).literal n sides xs else made n xs
