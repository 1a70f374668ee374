use Rattle.std.proofs.Common.{◌+◌, ◌∙◌, ap, length}
use Rattle.lk_fields.specs.Substituted.{nodes_in}
use Rattle.lk_fields.proofs.NodeCountLaws.{counted}
use Rattle.lk_fields.proofs.nodes.nodes_in.Goals as goal

pub returns : goal.returns
returns c =
    ap (λ n. length c.nodes-nodes.result.now + n) c.count_bare_lists.ensures
    ∙ counted c.nodes-nodes.result.now c.nodes-nodes.ensures.whole
    ∙ ap nodes_in c.nodes-nodes.ensures.value
