use Rattle.std.proofs.Common.{◌∙◌, ap, sym}
use Rattle.lk_dated.specs.Dated.{dated_by, stands_at}
use Rattle.lk_dated.specs.FormulaKinds.{kinds_by}
use Rattle.lk_dated.proofs.NodeLaws.{first_is}
use Rattle.lk_dated.proofs.PassLaws.{ends}
use Rattle.lk_dated.proofs.dating.dated.Goals as goal

pub returns : goal.returns
returns c = λ leaf is.
    let by = c.args.by.now in
    let nodes = c.nodes.result.now in
    c.into_expr.ensures
    ∙ first_is _ _ (sym c.top_of.ensures ∙ c.in_ok-trees.ensures.value leaf is ∙ ends leaf by nodes c.nodes.ensures.whole)
    ∙ ap (dated_by (kinds_by leaf) (stands_at by)) c.nodes.ensures.value
