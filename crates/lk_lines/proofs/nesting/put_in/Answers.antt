use Rattle.std.proofs.Common.{◌∙◌, ap}
use Rattle.lk_postfix.proofs.PostfixLaws.{whole-Builds, tree-Builds}
use Rattle.lk_types.specs.Calculation.{Coalesce, no_more}
use Rattle.lk_types.specs.CalculationNodes.{arity, made}
use Rattle.lk_lines.specs.Nesting.{put_in}
use Rattle.lk_lines.proofs.NestingLaws.{next_node, trees_all, value_some}
use Rattle.lk_lines.proofs.nesting.put_in.Goals as goal

pub unwrap-requires : goal.unwrap-requires
unwrap-requires c =
    let x = c.args.x.now in
    let ns = c.nodes-node-items.result.now in
    let b = trees_all x ns c.loop-node.nodes c.loop-node.node-index c.loop-node-test.false c.nodes-node-items.ensures.whole c.loop-node.invariant.built in
    c.from_nodes.ensures.some ∙ whole-Builds arity made b

pub returns : goal.returns
returns c =
    let x = c.args.x.now in
    let ns = c.nodes-node-items.result.now in
    let b = trees_all x ns c.loop-node.nodes c.loop-node.node-index c.loop-node-test.false c.nodes-node-items.ensures.whole c.loop-node.invariant.built in
    value_some c.from_nodes.result c.unwrap.result c.unwrap.ensures c.from_nodes.ensures.value
    ∙ tree-Builds arity made (Coalesce no_more) b ∙ ap (put_in x) c.nodes-node-items.ensures.value

pub loop-node-preserved : goal.loop-node-preserved
loop-node-preserved c =
    let next = next_node c.args.x.now c.nodes-node-items.result.now c.loop-node.nodes c.add_node.new.nodes c.loop-node.node-index _ c.loop-node-test.true c.in_ok-add_node.ensures c.loop-node.invariant.built c.loop-node.invariant.left in
    record { built = next.0; left = next.1 }
