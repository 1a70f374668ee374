use Rattle.std.proofs.Common.{◌∙◌, ap}
use Rattle.lk_types.specs.Dates.{are_literals_dated}
use Rattle.lk_eval.proofs.NodeLaws.{dated-nodes}
use Rattle.lk_eval.proofs.dated.are_literals_dated.Goals as goal

pub returns : goal.returns
returns c =
    c.are_nodes_dated.ensures
    ∙ dated-nodes c.nodes.result.now c.nodes.ensures.whole
    ∙ ap are_literals_dated c.nodes.ensures.value
