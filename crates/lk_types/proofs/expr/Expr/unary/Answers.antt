use Rattle.lk_types.proofs.NodeLaws.{own, whole, tree, unary}
use Rattle.lk_types.proofs.expr.Expr.unary.Goals as goal

pub invariant_of-result : goal.invariant_of-result
invariant_of-result c = rw c.in_ok-push.ensures.ok (whole (unary c.args.node (own c.a.inside.nodes c.a.invariant) c.requires))

pub returns : goal.returns
returns c = rw (c.in_ok-push.ensures.ok, ← c.a.view_is) (tree (unary c.args.node (own c.a.inside.nodes c.a.invariant) c.requires))
