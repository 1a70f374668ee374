use Rattle.std.proofs.Common.{◌∙◌, ap}
use Rattle.lk_types.specs.Expressions.{mentions, has_number}
use Rattle.lk_types.proofs.NodeLaws.{stands-any}
use Rattle.lk_types.proofs.expr.Expr.reads.Goals as goal

pub returns : goal.returns
returns c =
    c.any_of_part.ensures
    ∙ stands-any c.args.part c.nodes.result.now c.nodes.ensures.whole
    ∙ ap (λ e. has_number c.args.part (mentions e)) c.nodes.ensures.value
