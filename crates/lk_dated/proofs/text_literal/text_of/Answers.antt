use Rattle.std.proofs.Common.{◌∙◌}
use Rattle.lk_dated.proofs.NodeLaws.{last_text, some_node}
use Rattle.lk_dated.proofs.text_literal.text_of.Goals as goal

pub returns-in-Some : goal.returns-in-Some
returns-in-Some c = c.text_of_node.ensures ∙ last_text c.args.nodes.now _ c.in-Some.last.now c.requires c.in-Some.ensures.cases.0

pub returns-in-None : goal.returns-in-None
returns-in-None c = absurd (some_node c.args.nodes.now c.requires c.in-None.ensures.cases)
