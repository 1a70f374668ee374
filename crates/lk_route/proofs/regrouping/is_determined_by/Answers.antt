use Rattle.std.proofs.Common.{◌≡◌, ◌∙◌}
use Rattle.std.proofs.lemmas.Result.{IfOk-weaker}
use Rattle.lk_semantics.specs.Rollups.{is_determined_by}
use Rattle.lk_route.specs.Roles.{are_all_within}
use Rattle.lk_route.proofs.WithinLaws.{determined_within}
use Rattle.lk_route.proofs.regrouping.is_determined_by.Goals as goal

pub returns : goal.returns
returns c =
    let x = c.args.x.now in
    let r = c.args.r.now in
    let m = c.args.measure.now in
    let views = c.as_slice.result.now in
    IfOk-weaker c.are_all_within.result
    (λ are. are ≡ are_all_within x views r m)
    (λ is. is ≡ is_determined_by x r m)
    (λ are is. is ∙ determined_within x r m c.args.joins.now views c.requires (c.as_slice.ensures ∙ c.in_ok-views.ensures))
    c.are_all_within.ensures
