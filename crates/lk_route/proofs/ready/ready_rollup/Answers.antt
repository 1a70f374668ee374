use Rattle.std.proofs.Common.{◌∙◌, ap}
use Rattle.lk_regroup_laws.proofs.RollupQueries.{joins_are}
use Rattle.lk_route.proofs.ready.ready_rollup.Goals as goal

pub ready_over-requires : goal.ready_over-requires
ready_over-requires c = c.as_slice.ensures ∙ ap (λ query. query.joins) c.in_ok-query.ensures ∙ joins_are c.args.x.now 0 c.args.r.now
