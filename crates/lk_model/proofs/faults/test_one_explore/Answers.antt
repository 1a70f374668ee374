use Rattle.std.proofs.Common.{◌≡◌, ◌∙◌, ap, subst}
use Rattle.lk_scope.specs.Pieces.{IsTested}
use Rattle.lk_scope.specs.Scopes.{scope_of}
use Rattle.lk_model.specs.Faults.{explore_line, explore_line_in}
use Rattle.lk_model.proofs.faults.test_one_explore.Goals as goal

pub returns : goal.returns
unfolding explore_line
returns c =
    let declared = c.args.declared.now in
    let x = c.args.explore.now in
    let scope : c.in_ok-scope.scope ≡ scope_of declared.views x =
    c.in_ok-scope.ensures ∙ ap (λ views. scope_of views x) c.as_slice.ensures in
    subst (λ s. IsTested c.test_explore_in.result (explore_line_in c.args.schema.now declared c.args.kinds.now x s)) scope
    c.test_explore_in.ensures
