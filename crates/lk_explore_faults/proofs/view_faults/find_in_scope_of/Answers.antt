use Rattle.std.proofs.Common.{◌≡◌, IfOk, List, subst}
use Rattle.std.specs.List.{fold}
use Rattle.lk_objects.specs.declared.explore.ExploreFilter.{ExploreFilter}
use Rattle.lk_params.specs.Findings.{sooner}
use Rattle.lk_fields.specs.declared.scope.Scope.{Scope}
use Rattle.lk_scope.specs.Scopes.{scope_of}
use Rattle.lk_explore_faults.specs.ViewFaults.{source_findings}
use Rattle.lk_explore_faults.proofs.view_faults.find_in_scope_of.Goals as goal

pub returns : goal.returns
returns c =
    let views = c.args.views.now in
    let found = λ (scope : Scope) (filters : List ExploreFilter).
    fold sooner c.args.findings.now.first (source_findings views scope c.args.object.now c.args.at.now c.args.derived.now filters) in
    subst (λ (filters : List ExploreFilter).
    IfOk c.find_in_scope.result (λ x. c.find_in_scope.new.findings.first ≡ found (scope_of views c.args.explore.now) filters))
    c.as_slice-filters.ensures
    (subst (λ (scope : Scope).
    IfOk c.find_in_scope.result (λ x. c.find_in_scope.new.findings.first ≡ found scope c.as_slice-filters.result.now))
    c.in_ok-scope.ensures c.find_in_scope.ensures)
