use Rattle.std.proofs.Common.{◌-◌, ◌∙◌, ap, length, take}
use Rattle.lk_dated.specs.Dated.{text_of}
use Rattle.lk_dated.proofs.NodeLaws.{last_at, last_text}
use Rattle.lk_dated.proofs.tree.Tree.text.Goals as goal

pub returns-in-Some : goal.returns-in-Some
returns-in-Some c =
    let nodes = c.self.inside.nodes in
    let last = c.in-Some.last.now in
    c.text_of_node.ensures
    ∙ last_text nodes.items (take (length nodes.items - 1) nodes.items) last c.self.invariant (last_at nodes.items nodes.len last c.self.invariant nodes.ok.0 c.in-Some.ensures.lookup)
    ∙ ap text_of c.self.view_is
