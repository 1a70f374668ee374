use Rattle.std.proofs.Common.{◌≡◌, ◌∙◌, ap}
use Rattle.std.proofs.lemmas.Result.{IfOk-weaker}
use Rattle.lk_resolved.specs.DerivedTables.{derived_over}
use Rattle.lk_model.specs.Models.{derived_in, explore_number, source_scope}
use Rattle.lk_model.specs.ViewKinds.{source_named}
use Rattle.lk_model.proofs.model.derived_with.Goals as goal

pub returns : goal.returns
returns c =
    let declared = c.args.declared.now in
    let name = c.args.name.now in
    let table = c.args.table.now in
    let scope = c.in_ok-scope.scope in
    let number = c.in_ok-explore.explore in
    let views = c.as_slice-views.ensures in
    let explores = c.as_slice-explores.ensures in
    let names = c.requires.names in
    let source = c.source_named.ensures ∙ ap (λ xs. source_named xs table.explore) explores in
    let source_is = source_scope declared.views (source_named declared.explores table.explore) in
    let scope_is : scope ≡ source_is = c.in_ok-scope.ensures ∙ (λ i. source_scope (views i) (source i)) in
    let number_is : number ≡ explore_number declared.explores table.explore =
    c.in_ok-explore.ensures ∙ ap (λ xs. explore_number xs table.explore) explores in
    let same : derived_over c.as_slice-views.result.now scope c.args.names.now name table number ≡ derived_in declared name table source_is =
    λ i. derived_over (views i) (scope_is i) (names i) name table (number_is i) in
    IfOk-weaker c.derived_in.result
    (λ made. made ≡ derived_over c.as_slice-views.result.now scope c.args.names.now name table number)
    (λ made. made ≡ derived_in declared name table source_is)
    (λ made is. is ∙ same)
    c.derived_in.ensures
