use Rattle.std.proofs.Common.{◌≡◌, true}
use Rattle.std.specs.List.{list_all}
use Rattle.lk_expr_tree.specs.RawCode.{tree_of}
use Rattle.lk_written.specs.SkeletonNodes.{is_named}
use Rattle.lk_written.proofs.NodeForms.{has_operands, is_formed}
use Rattle.lk_written.proofs.TokenLaws.{both_true}
use Rattle.lk_written.proofs.FormedLaws.{all_formed, formed_at, good_of}
use Rattle.lk_written.proofs.SkeletonPasses.{goes_on}
use Rattle.lk_written.proofs.skeleton.written_of.Goals as goal

pub add_reference-requires : goal.add_reference-requires
add_reference-requires c =
    let raw = c.nodes-raw.result.now in
    let n = c.node-item.result in
    let e = tree_of c.args.e.now in
    let all : list_all is_formed raw ≡ true = all_formed raw e c.nodes-raw.ensures.value c.nodes-raw.ensures.whole (good_of e c.requires.spelled.0 c.requires.spelled.1) in
    (both_true (has_operands n) (is_named n) (formed_at raw c.loop-node.node-index n c.loop-node-test.true c.node-item.is all)).1

pub loop-node-preserved : goal.loop-node-preserved
loop-node-preserved c =
    let raw = c.nodes-raw.result.now in
    let n = c.node-item.result in
    let e = tree_of c.args.e.now in
    let all : list_all is_formed raw ≡ true = all_formed raw e c.nodes-raw.ensures.value c.nodes-raw.ensures.whole (good_of e c.requires.spelled.0 c.requires.spelled.1) in
    let has = (both_true (has_operands n) (is_named n) (formed_at raw c.loop-node.node-index n c.loop-node-test.true c.node-item.is all)).0 in
    goes_on raw c.loop-node.node-index n c.loop-node.references c.add_reference.new.references
    c.loop-node.nodes c.add_nodes.new.nodes c.len.result c.loop-node-test.true c.node-item.is has
    c.len.ensures c.in_ok-add_reference.ensures c.in_ok-add_nodes.ensures c.loop-node.invariant
