use Rattle.std.proofs.Common.{◌∙◌, ap}
use Rattle.lk_formulas.specs.NumberSizes.{nodes_at, nodes_by, told}
use Rattle.lk_formulas.proofs.NumberLaws.{told_numbers}
use Rattle.lk_formulas.proofs.number_size.nodes_by.Goals as goal

pub returns : goal.returns
returns c =
    λ by counts.
    c.total_by.ensures
    ∙ told_numbers by c.args.counts.now c.nodes.result.now counts c.nodes.ensures.whole
    ∙ ap (λ e. told (nodes_by (nodes_at by) e)) c.nodes.ensures.value
