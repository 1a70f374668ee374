use Rattle.std.proofs.Common.{◌≡◌, subst}
use Rattle.lk_scope.specs.Pieces.{IsTested}
use Rattle.lk_explore_faults.specs.ExploreFaults.{explore_fault}
use Rattle.lk_model.specs.Faults.{explore_line_in}
use Rattle.lk_model.specs.ViewKinds.{columns_in}
use Rattle.lk_model.proofs.faults.test_explore_in.Goals as goal

pub returns : goal.returns
unfolding explore_line_in
returns c =
    let schema = c.args.schema.now in
    let declared = c.args.declared.now in
    let scope = c.args.scope.now in
    let x = c.args.explore.now in
    let views = c.as_slice-views.ensures in
    let columns = c.in_ok-columns.ensures in
    let datagroups = c.as_slice-datagroups.ensures in
    let same : explore_fault schema c.as_slice-views.result.now scope c.in_ok-columns.columns c.as_slice-datagroups.result.now x
    ≡ explore_fault schema declared.views scope (columns_in c.args.kinds.now scope) declared.datagroups x =
    λ i. explore_fault schema (views i) scope (columns i) (datagroups i) x in
    subst (IsTested c.test_explore_over.result) same c.test_explore_over.ensures
