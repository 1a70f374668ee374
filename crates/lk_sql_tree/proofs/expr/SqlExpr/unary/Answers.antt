use Rattle.std.proofs.Common.{◌∙◌, ap, sym}
use Rattle.lk_sql_tree.specs.SqlNodes.{sql_of}
use Rattle.lk_sql_tree.specs.Standings.{standing_of}
use Rattle.lk_sql_tree.proofs.NodeLaws.{own, whole, tree, unary, with_node, unary_stands}
use Rattle.lk_sql_tree.proofs.expr.SqlExpr.unary.Goals as goal

pub invariant_of-result : goal.invariant_of-result
invariant_of-result c =
    let nodes = c.a.inside.nodes in
    let n = c.args.node in
    let b = unary n (own nodes c.a.invariant.0) c.requires.operands in
    rw c.in_ok-push.ensures.ok (
      whole b,
      with_node nodes n c.a.invariant.1 c.requires.list,
      c.in_ok-standing.ensures ∙ unary_stands n c.a.inside.standing (sql_of nodes) c.a.invariant.2 ∙ ap standing_of (sym (tree b)),
    )

pub returns : goal.returns
returns c = rw (c.in_ok-push.ensures.ok, ← c.a.view_is) (tree (unary c.args.node (own c.a.inside.nodes c.a.invariant.0) c.requires.operands))
