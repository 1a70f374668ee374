use Rattle.std.proofs.Common.{w64}
use Rattle.std.proofs.lemmas.Int.{to_z-of_z}
use Rattle.lk_query.proofs.RowLaws.{filters_made}
use Rattle.lk_query.proofs.filters.filters_at.Goals as goal

pub returns : goal.returns
returns c =
    let a = c.args in
    filters_made _ a.now a.x.now a.access.now a.filters.now c.in_ok-on_dims.field-0 c.in_ok-rows.rows c.in_ok-with_always.field-0 c.in_ok-on_measures.field-0
    (to_z-of_z w64 a.now c.ranges.now) c.in_ok-on_dims.ensures c.in_ok-rows.ensures c.in_ok-with_always.ensures c.in_ok-on_measures.ensures
