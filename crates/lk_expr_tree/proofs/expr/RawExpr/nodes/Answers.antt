use Rattle.std.proofs.Common.{ap, ◌∙◌}
use Rattle.lk_expr_tree.specs.RawNodes.{trees_of}
use Rattle.lk_expr_tree.proofs.RawLaws.{one_tree}
use Rattle.lk_expr_tree.proofs.expr.RawExpr.nodes.Goals as goal

pub returns-clause-value : goal.returns-clause-value
returns-clause-value c = ap trees_of c.as_slice.ensures ∙ one_tree c.args.self.now
