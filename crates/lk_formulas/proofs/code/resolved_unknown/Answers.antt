use Rattle.std.proofs.Common.{◌∙◌}
use Rattle.lk_formulas.specs.Formulas.{put_in}
use Rattle.lk_formulas.proofs.code.resolved_unknown.Goals as goal

pub returns : goal.returns
returns c = λ columns by h.
    c.null_of_size.ensures columns (put_in by c.args.expr.now) (c.nodes_with.ensures by (c.as_slice.ensures ∙ c.in_ok-sizes.ensures ∙ h))
