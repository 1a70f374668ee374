-- The column that is found node by node is the one that the expression is.
use Rattle.std.proofs.Common.{◌≡◌, ℕ, zero, suc, List, [], ◌∷◌, map, refl, ap, ◌∙◌}
use Rattle.lk_postfix.specs.Postfix.{after_nodes}
use Rattle.lk_postfix.proofs.PostfixLaws.{after_nodes-map}
use Rattle.lk_types.specs.Formula.{Formula}
use Rattle.lk_types.specs.FormulaNodes as nodes
use Rattle.lk_types.specs.declared.expr.Node.{Node}
use Rattle.lk_types.specs.declared.expr.Node.TheVariants as node
use Rattle.lk_resolved.specs.Columns.{column_made, operand}
use Rattle.lk_resolved.specs.Explores.{column_of}

at : (xs : List Formula) (i : ℕ) → operand (map column_of xs) i ≡ column_of (nodes.operand xs i)
at [] i = refl
at (x ∷ xs) zero = refl
at (x ∷ xs) (suc i) = at xs i

does : (n : Node) (xs : List Formula) → column_made n (map column_of xs) ≡ column_of (nodes.made n xs)
does (node.Column p c) xs = refl
does (node.Literal v) xs = refl
does (node.Framed f) xs = refl
does node.Not xs = refl
does node.And xs = refl
does node.Or xs = refl
does (node.Compare c) xs = refl
does node.IsNull xs = refl
does (node.In count) xs = refl
does node.Between xs = refl
does (node.Like pieces) xs = refl
does (node.Number op) xs = refl
does node.Negate xs = refl
does node.Concat xs = refl
does (node.Case count) xs = refl
does (node.Coalesce count) xs = refl
does node.NullIf xs = refl
does node.Lower xs = refl
does node.Upper xs = refl

pub column_nodes : (ns : List Node) → operand (after_nodes nodes.arity column_made [] ns) 0 ≡ column_of (nodes.formula_of ns)
column_nodes ns = ap (λ columns. operand columns 0) (after_nodes-map nodes.arity nodes.made column_made column_of does [] ns) ∙ at (after_nodes nodes.arity nodes.made [] ns) 0
