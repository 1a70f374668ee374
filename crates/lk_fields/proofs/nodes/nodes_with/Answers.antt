use Rattle.std.proofs.Common.{◌∙◌, ap}
use Rattle.lk_fields.specs.Substituted.{replacement, substituted, told_nodes}
use Rattle.lk_fields.proofs.CountWithLaws.{told_with}
use Rattle.lk_fields.proofs.nodes.nodes_with.Goals as goal

pub returns : goal.returns
returns c =
    λ by counts.
    c.total_with.ensures
    ∙ told_with by c.args.counts.now c.nodes.result.now counts c.nodes.ensures.whole
    ∙ ap (λ e. told_nodes (substituted (replacement by) e)) c.nodes.ensures.value
