use Rattle.std.proofs.Common.{◌≡◌, ◌+◌, ◌-◌, ◌∙◌, ap, sym, true, arith, map, length, drop}
use Rattle.std.specs.List.{list_all}
use Rattle.lk_types.specs.Dates.{is_dated}
use Rattle.lk_types.specs.FormulaNodes.{arity}
use Rattle.lk_postfix.specs.Postfix.{operands, replaced, after_node, depth_after}
use Rattle.lk_eval.specs.NodeValues.{value_made}
use Rattle.lk_eval.specs.Operands.{operand_value}
use Rattle.lk_eval.proofs.ValueSteps.{made-dated, depth_at, tops, puts, tops-dated, puts-dated, length-puts, node_more, node_dated}
use Rattle.lk_eval.proofs.evaluation.values.Goals as goal

pub value_made-requires-clause-dated : goal.value_made-requires-clause-dated
value_made-requires-clause-dated g c =
    ap (λ s. list_all is_dated (map operand_value s)) c.operands.ensures
    ∙ tops-dated operand_value c.arity-count.result c.loop-node.stack c.loop-node.invariant.dated

pub loop-node-preserved : goal.loop-node-preserved
loop-node-preserved g c =
    let k = c.arity-count.result in
    let n = c.node-item.result in
    let stack = c.loop-node.stack in
    let made = c.in_ok-made.made in
    let i = c.loop-node.node-index in
    let ns = c.args.nodes.now in
    let row = g.R.HasCells.row_of c.args.row.now in
    let here = depth_at _ _ ns i n (omega arith) c.node-item.is c.loop-node.invariant.left in
    let low = map operand_value stack in
    let is : operand_value made ≡ value_made row n (operands k low) =
    c.in_ok-made.ensures ∙ ap (value_made row n) (ap (map operand_value) c.operands.ensures ∙ tops operand_value k stack) in
    let dated : list_all is_dated (operands k low) ≡ true =
    ap (list_all is_dated) (sym (tops operand_value k stack)) ∙ tops-dated operand_value k stack c.loop-node.invariant.dated in
    record {
      made =
          ap (map operand_value) c.in_ok-replace.ensures.ok
          ∙ puts operand_value k made stack
          ∙ ap (λ m. replaced k m low) is
          ∙ ap (λ m. replaced m (value_made row n (operands m low)) low) c.arity-count.ensures
          ∙ ap (λ s. after_node arity (value_made row) s n) c.loop-node.invariant.made
          ∙ sym (node_more row ns i n (omega arith) c.node-item.is);
      dated =
          ap (λ s. list_all is_dated (map operand_value s)) c.in_ok-replace.ensures.ok
          ∙ puts-dated operand_value k made stack c.loop-node.invariant.dated
          (ap is_dated is ∙ made-dated row n (operands k low) c.requires.row (node_dated ns i n (omega arith) c.node-item.is c.requires.literals) dated);
      left =
          ap (λ s. depth_after arity (length s) (drop (i + 1) ns)) c.in_ok-replace.ensures.ok
          ∙ ap (λ m. depth_after arity m (drop (i + 1) ns)) (length-puts k made stack ∙ ap (λ m. (length stack - m) + 1) c.arity-count.ensures)
          ∙ here.1;
    }
