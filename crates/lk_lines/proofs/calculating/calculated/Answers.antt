use Rattle.std.proofs.Common.{◌∙◌, ap}
use Rattle.lk_semantics.specs.Answers.{calculated, component_cell, frac_of_cell}
use Rattle.lk_lines.specs.Values.{operand}
use Rattle.lk_lines.proofs.ValueLaws.{value-nodes}
use Rattle.lk_lines.proofs.calculating.calculated.Goals as goal

pub returns : goal.returns
returns c =
    c.nth.ensures ∙ ap (λ vs. operand vs 0) (c.as_slice.ensures ∙ c.in_ok-stack.ensures)
    ∙ value-nodes (λ m. frac_of_cell (component_cell c.args.components.now c.args.cells.now m)) c.nodes.result.now
    ∙ ap (calculated (λ m. frac_of_cell (component_cell c.args.components.now c.args.cells.now m))) c.nodes.ensures.value
