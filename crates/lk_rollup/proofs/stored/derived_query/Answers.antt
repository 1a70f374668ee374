use Rattle.std.proofs.Common.{◌≡◌, ◌∙◌, ap, map, subst}
use Rattle.std.specs.Prelude.{IfOk}
use Rattle.lk_types.specs.declared.bound.Bound.{Bound}
use Rattle.lk_query.specs.Rows.{with_always_at}
use Rattle.lk_rollup.specs.Builds.{query_stored}
use Rattle.lk_rollup.proofs.StoredLaws.{always_at}
use Rattle.lk_rollup.proofs.stored.derived_query.Goals as goal

pub returns : goal.returns
returns c =
    let x = c.args.x.now in
    let d = c.args.d.now in
    let picks = c.in_ok-picks.ensures ∙ ap (map (λ column. column.1)) c.as_slice.ensures in
    let rows = c.in_ok-rows.ensures ∙ ap (with_always_at _ x) c.in_ok-copy.ensures ∙ always_at _ x d.filters c.requires.typed c.requires.fixed in
    subst (λ (b : Bound). IfOk c.stored_query.result (λ query. query ≡ b)) (λ i. query_stored x d.explore (picks i) (rows i)) c.stored_query.ensures
