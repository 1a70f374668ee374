use Rattle.std.proofs.Common.{◌-◌, take, sym, arith, length-take}
use Rattle.lk_expr_tree.specs.RawCode.{tree_of}
use Rattle.lk_expr_tree.specs.Calls.{unknown_call}
use Rattle.lk_expr_tree.proofs.CallLaws.{passed_within, passed_operand, passed_call, passed_node, node_split}
use Rattle.lk_expr_tree.proofs.calls.unknown_call.Goals as goal

pub overflow_add-passed_over : goal.overflow_add-passed_over
overflow_add-passed_over c =
    let nodes = c.nodes-nodes.result.now in
    let split = node_split nodes c.loop-index.index c.index-nodes-index.result (omega (arith, c.loop-index-test.true)) c.loop-index.auto.index c.index-nodes-index.is in
    let is = rw split at c.loop-index.invariant in
    let within = passed_within (unknown_call (tree_of c.args.e.now)) c.loop-index.found c.loop-index.passed_over (take (c.loop-index.index - 1) nodes) c.index-nodes-index.result is c.if-passed_over-gt0.true in
    omega (arith, within, c.arity.ensures, length-take (c.loop-index.index - 1) nodes)

pub loop-index-preserved-then-passed_over-gt0 : goal.loop-index-preserved-then-passed_over-gt0
loop-index-preserved-then-passed_over-gt0 c =
    let nodes = c.nodes-nodes.result.now in
    let split = node_split nodes c.loop-index.index c.index-nodes-index.result (omega (arith, c.loop-index-test.true)) c.loop-index.auto.index c.index-nodes-index.is in
    let is = rw split at c.loop-index.invariant in
    rw c.arity.ensures
    (passed_operand (unknown_call (tree_of c.args.e.now)) c.loop-index.found c.loop-index.passed_over (take (c.loop-index.index - 1) nodes) c.index-nodes-index.result is c.if-passed_over-gt0.true)

pub loop-index-preserved-in-Some : goal.loop-index-preserved-in-Some
loop-index-preserved-in-Some c =
    let nodes = c.nodes-nodes.result.now in
    let split = node_split nodes c.loop-index.index c.index-nodes-index.result (omega (arith, c.loop-index-test.true)) c.loop-index.auto.index c.index-nodes-index.is in
    let is = rw split at c.loop-index.invariant in
    let none = c.if-passed_over-gt0.false in
    rw c.arity-passed_over.ensures
    (passed_call (unknown_call (tree_of c.args.e.now)) c.loop-index.found c.loop-index.passed_over (take (c.loop-index.index - 1) nodes) c.index-nodes-index.result is c.in-Some.place (omega arith) (sym c.in-Some.ensures))

pub loop-index-preserved : goal.loop-index-preserved
loop-index-preserved c =
    let nodes = c.nodes-nodes.result.now in
    let split = node_split nodes c.loop-index.index c.index-nodes-index.result (omega (arith, c.loop-index-test.true)) c.loop-index.auto.index c.index-nodes-index.is in
    let is = rw split at c.loop-index.invariant in
    let none = c.if-passed_over-gt0.false in
    passed_node (unknown_call (tree_of c.args.e.now)) c.loop-index.found c.loop-index.passed_over (take (c.loop-index.index - 1) nodes) c.index-nodes-index.result is (omega arith) (sym c.in_default.ensures)
