use Rattle.std.proofs.Common.{◌∙◌, ap, sym}
use Rattle.lk_sql_tree.specs.SqlNodes.{sql_of}
use Rattle.lk_sql_tree.specs.Standings.{standing_of}
use Rattle.lk_sql_tree.proofs.NodeLaws.{own, whole, tree, binary, with_both, binary_stands}
use Rattle.lk_sql_tree.proofs.expr.SqlExpr.binary.Goals as goal

pub invariant_of-result : goal.invariant_of-result
invariant_of-result c =
    let xs = c.a.inside.nodes in
    let ys = c.b.inside.nodes in
    let n = c.args.node in
    let b = binary n (own xs c.a.invariant.0) (own ys c.b.invariant.0) c.requires in
    rw (c.in_ok-push.ensures.ok, c.in_ok-nodes.ensures) (
      whole b,
      with_both xs ys n c.a.invariant.1 c.b.invariant.1 c.requires,
      c.in_ok-standing.ensures
          ∙ binary_stands n c.a.inside.standing c.b.inside.standing (sql_of xs) (sql_of ys) c.a.invariant.2 c.b.invariant.2
          ∙ ap standing_of (sym (tree b)),
    )

pub returns : goal.returns
returns c =
    rw (c.in_ok-push.ensures.ok, c.in_ok-nodes.ensures, ← c.a.view_is, ← c.b.view_is)
    (tree (binary c.args.node (own c.a.inside.nodes c.a.invariant.0) (own c.b.inside.nodes c.b.invariant.0) c.requires))
