use Rattle.std.proofs.Common.{◌∙◌, ap}
use Rattle.lk_sql_tree.specs.Standings.{at}
use Rattle.lk_sql_tree.proofs.TreeLaws.{standing-nodes}
use Rattle.lk_sql_tree.proofs.standing.standing_of_nodes.Goals as goal

pub returns : goal.returns
returns c =
    c.at.ensures
    ∙ ap (λ ss. at ss 0) (c.as_slice.ensures ∙ c.in_ok-stack.ensures)
    ∙ standing-nodes c.args.nodes.now
