use Rattle.std.proofs.Common.{◌≡◌, ◌∙◌}
use Rattle.std.specs.List.{list_all}
use Rattle.std.proofs.lemmas.Result.{IfOk-weaker}
use Rattle.lk_semantics.specs.Answers.{measure_at}
use Rattle.lk_semantics.specs.Rollups.{determined_views, regroups, rollup_joins}
use Rattle.lk_route.specs.Roles.{is_field_within}
use Rattle.lk_route.proofs.WithinLaws.{absent_regroups}
use Rattle.lk_route.proofs.regrouping.regroups.Goals as goal

pub returns-in-None : goal.returns-in-None
returns-in-None c =
    let x = c.args.x.now in
    let r = c.args.r.now in
    IfOk-weaker c.are_dims_determined.result
    (λ are. are ≡ list_all (is_field_within x (determined_views x (rollup_joins x r) 0)) r.dims)
    (λ does. does ≡ regroups x r (measure_at x c.args.number))
    (λ are is. is ∙ absent_regroups x r c.args.number c.as_slice.result.now c.as_slice.ensures c.in-None.ensures.lookup.0)
    c.are_dims_determined.ensures
