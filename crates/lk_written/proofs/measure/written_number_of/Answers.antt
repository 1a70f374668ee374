use Rattle.std.proofs.Common.{◌≡◌, ◌∙◌, true}
use Rattle.std.specs.List.{list_all}
use Rattle.lk_expr_tree.specs.NodeCalls.{is_measure_node}
use Rattle.lk_expr_tree.specs.RawCode.{tree_of}
use Rattle.lk_expr_tree.proofs.MeasureLaws.{measure_of_nodes}
use Rattle.lk_written.specs.SkeletonNodes.{is_named}
use Rattle.lk_written.proofs.NodeForms.{has_operands, is_formed}
use Rattle.lk_written.proofs.TokenLaws.{both_true}
use Rattle.lk_written.proofs.FormedLaws.{all_formed, at_place, formed_at, good_of}
use Rattle.lk_written.proofs.MeasureNodeLaws.{of_measure}
use Rattle.lk_written.proofs.MeasurePasses.{goes_on}
use Rattle.lk_written.proofs.measure.written_number_of.Goals as goal

pub add_reference-requires : goal.add_reference-requires
add_reference-requires c =
    let raw = c.nodes-raw.result.now in
    let n = c.node-item.result in
    let e = tree_of c.args.e.now in
    let text = c.requires.spelled in
    let all : list_all is_formed raw ≡ true = all_formed raw e c.nodes-raw.ensures.value c.nodes-raw.ensures.whole (good_of e text.0 text.1.expr) in
    (both_true (has_operands n) (is_named n) (formed_at raw c.loop-node.node-index n c.loop-node-test.true c.node-item.is all)).1

pub loop-node-preserved : goal.loop-node-preserved
loop-node-preserved c =
    let raw = c.nodes-raw.result.now in
    let n = c.node-item.result in
    let e = tree_of c.args.e.now in
    let text = c.requires.spelled in
    let all : list_all is_formed raw ≡ true = all_formed raw e c.nodes-raw.ensures.value c.nodes-raw.ensures.whole (good_of e text.0 text.1.expr) in
    let has = (both_true (has_operands n) (is_named n) (formed_at raw c.loop-node.node-index n c.loop-node-test.true c.node-item.is all)).0 in
    let measures : list_all is_measure_node raw ≡ true = measure_of_nodes raw e c.nodes-raw.ensures.value c.nodes-raw.ensures.whole ∙ text.1.measure in
    let of = of_measure n (at_place is_measure_node raw c.loop-node.node-index n c.loop-node-test.true c.node-item.is measures) has in
    goes_on raw c.loop-node.node-index n c.loop-node.references c.add_reference.new.references
    c.loop-node.nodes c.add_measure_nodes.new.nodes c.len.result c.loop-node-test.true c.node-item.is of
    c.len.ensures c.in_ok-add_reference.ensures c.in_ok-add_measure_nodes.ensures c.loop-node.invariant
