use Rattle.std.proofs.Common.{ℕ, ◌∙◌, ap}
use Rattle.std.specs.List.{list_all}
use Rattle.lk_types.specs.Expressions.{has_number, mentions}
use Rattle.lk_stored.proofs.WithinLaws.{nodes_within}
use Rattle.lk_stored.proofs.storing.is_expr_within.Goals as goal

pub returns : goal.returns
returns c =
    let views = c.args.views.now in
    c.are_nodes_within.ensures
    ∙ nodes_within views c.nodes.result.now c.nodes.ensures.whole
    ∙ ap (λ e. list_all (λ p. has_number p views) (mentions e)) c.nodes.ensures.value
