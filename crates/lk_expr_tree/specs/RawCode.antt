-- The tree of an expression as it is written, from its nodes.
use Rattle.lk_expr_tree.specs.declared.expr.RawExpr.{RawExpr}
use Rattle.lk_expr_tree.specs.declared.expr.RawArgs.{RawArgs}
use Rattle.lk_expr_tree.specs.declared.expr.RawBranches.{RawBranches}
use Rattle.lk_expr_tree.specs.Grammar.{Tree, Args, Branches}
use Rattle.lk_expr_tree.specs.RawNodes.{operand, args_among, branches_among, trees_of}

unfoldable pub tree_of : RawExpr → Tree
tree_of e = operand (trees_of e.nodes) 0

unfoldable pub args_of : RawArgs → Args
args_of args = args_among (trees_of args.nodes)

unfoldable pub branches_of : RawBranches → Branches
branches_of branches = branches_among (trees_of branches.nodes)
