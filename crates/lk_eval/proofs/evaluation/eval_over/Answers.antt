use Rattle.std.proofs.Common.{◌≡◌, ◌∙◌, ap, subst, map}
use Rattle.std.specs.Prelude.{IfOk}
use Rattle.lk_types.specs.Dates.{are_literals_dated}
use Rattle.lk_types.specs.Expressions.{value_of}
use Rattle.lk_eval.specs.NodeValues.{operand}
use Rattle.lk_eval.specs.Operands.{operand_value}
use Rattle.lk_eval.proofs.NodeLaws.{value-nodes, dated-nodes}
use Rattle.lk_eval.proofs.evaluation.eval_over.Goals as goal

pub values-requires-clause-literals : goal.values-requires-clause-literals
values-requires-clause-literals g c =
    dated-nodes c.nodes.result.now c.nodes.ensures.whole ∙ ap are_literals_dated c.nodes.ensures.value ∙ c.requires.literals

pub returns : goal.returns
returns g c =
    let same =
    ap (λ vs. operand vs 0) (ap (λ s. map operand_value s) c.as_slice.ensures ∙ c.in_ok-stack.ensures)
    ∙ value-nodes (g.R.HasCells.row_of c.args.row.now) c.nodes.result.now
    ∙ ap (λ e. value_of e (g.R.HasCells.row_of c.args.row.now)) c.nodes.ensures.value in
    subst (λ w. IfOk c.lowest.result (λ v. v ≡ w)) same c.lowest.ensures
