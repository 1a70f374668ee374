use Rattle.lk_expr_tree.proofs.RawLaws.{over_depth, over_tree}
use Rattle.lk_expr_tree.proofs.expr.RawExpr.over.Goals as goal

pub invariant_of-result : goal.invariant_of-result
invariant_of-result c = record { whole = rw c.in_ok-push.ensures.ok (over_depth c.args.nodes c.args.node c.requires) }

pub returns : goal.returns
returns c = over_tree _ c.args.nodes c.args.node c.in_ok-push.ensures.ok c.requires
