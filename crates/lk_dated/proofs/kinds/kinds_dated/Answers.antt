use Rattle.std.proofs.Common.{◌∙◌, [], ap}
use Rattle.lk_postfix.specs.Postfix.{after_nodes}
use Rattle.lk_types.specs.FormulaNodes.{arity}
use Rattle.lk_dated.specs.Dated.{dated_by, stands_at}
use Rattle.lk_dated.specs.FormulaKinds.{kinds_by}
use Rattle.lk_dated.specs.declared.side.Side.{Side}
use Rattle.lk_dated.specs.Sides.{side_at, side_made}
use Rattle.lk_dated.proofs.PassLaws.{kinds_left}
use Rattle.lk_dated.proofs.kinds.kinds_dated.Goals as goal

pub returns : goal.returns
returns c = λ leaf by is.
    let nodes = c.nodes.result.now in
    ap (λ (s : Side). s.kinds) c.side_at.ensures
    ∙ ap (λ (s : _). (side_at s 0).kinds) (c.as_slice.ensures ∙ c.in_ok-sides.ensures ∙ ap (λ ss. after_nodes arity (side_made ss) [] nodes) is)
    ∙ kinds_left leaf by nodes
    ∙ ap (λ e. kinds_by leaf (dated_by (kinds_by leaf) (stands_at by) e)) c.nodes.ensures.value
