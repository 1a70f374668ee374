use Rattle.std.proofs.Common.{◌≡◌, ◌∙◌, ap}
use Rattle.std.proofs.lemmas.Result.{IfOk-weaker}
use Rattle.lk_scope.specs.Scopes.{scope_of}
use Rattle.lk_resolved.specs.Explores.{datagroup_number, explore_of}
use Rattle.lk_model.specs.Models.{names_of, resolved}
use Rattle.lk_model.specs.ViewKinds.{columns_in}
use Rattle.lk_model.proofs.model.resolved.Goals as goal

pub returns : goal.returns
unfolding resolved
returns c =
    let schema = c.args.schema.now in
    let declared = c.args.declared.now in
    let kinds = c.args.kinds.now in
    let x = c.args.explore.now in
    let scope = c.in_ok-scope.scope in
    let views = c.as_slice-views.ensures in
    let names = c.requires.names in
    let scope_is : scope ≡ scope_of declared.views x = c.in_ok-scope.ensures ∙ ap (λ vs. scope_of vs x) views in
    let same : explore_of schema c.as_slice-views.result.now scope (columns_in kinds scope) (datagroup_number c.args.names.now) x
    ≡ explore_of schema declared.views (scope_of declared.views x) (columns_in kinds (scope_of declared.views x)) (datagroup_number (names_of declared.datagroups)) x =
    λ i. explore_of schema (views i) (scope_is i) (columns_in kinds (scope_is i)) (datagroup_number (names i)) x in
    IfOk-weaker c.explore_in.result
    (λ made. made ≡ explore_of schema c.as_slice-views.result.now scope (columns_in kinds scope) (datagroup_number c.args.names.now) x)
    (λ made. made ≡ resolved schema declared kinds x)
    (λ made is. is ∙ same)
    c.explore_in.ensures
