use Rattle.lk_types.proofs.NodeLaws.{own, whole, tree, binary}
use Rattle.lk_dated.proofs.tree.Tree.binary.Goals as goal

pub invariant_of-result : goal.invariant_of-result
invariant_of-result c =
    rw (c.in_ok-push_back.ensures.items, c.in_ok-nodes.ensures)
    (whole (binary c.args.node (own c.a.inside.nodes.items c.a.invariant) (own c.b.inside.nodes.items c.b.invariant) c.requires))

pub returns : goal.returns
returns c =
    rw (c.in_ok-push_back.ensures.items, c.in_ok-nodes.ensures, ← c.a.view_is, ← c.b.view_is)
    (tree (binary c.args.node (own c.a.inside.nodes.items c.a.invariant) (own c.b.inside.nodes.items c.b.invariant) c.requires))
