use Rattle.std.proofs.Common.{◌≡◌, ◌∙◌, ap}
use Rattle.std.specs.List.{list_all}
use Rattle.std.proofs.lemmas.Result.{IfOk-weaker}
use Rattle.lk_semantics.specs.Rollups.{determined_views, rollup_joins}
use Rattle.lk_route.specs.Roles.{is_field_within}
use Rattle.lk_route.proofs.regrouping.are_dims_determined.Goals as goal

pub returns : goal.returns
returns c =
    let x = c.args.x.now in
    let r = c.args.r.now in
    let views = c.as_slice.result.now in
    let dims = c.as_slice-2.result.now in
    let are = c.as_slice.ensures ∙ c.in_ok-views.ensures ∙ ap (λ joins. determined_views x joins c.args.view) c.requires in
    IfOk-weaker c.are_fields_within.result
    (λ all. all ≡ list_all (is_field_within x views) dims)
    (λ all. all ≡ list_all (is_field_within x (determined_views x (rollup_joins x r) c.args.view)) r.dims)
    (λ all is. is ∙ (λ i. list_all (is_field_within x (are i)) (c.as_slice-2.ensures i)))
    c.are_fields_within.ensures
