use Rattle.std.proofs.Common.{◌≡◌, drop}
use Rattle.lk_scope.specs.Pieces.{first_at}
use Rattle.lk_explore_faults.specs.FilterFaults.{rollup_line}
use Rattle.lk_explore_faults.proofs.filter_faults.test_rollups.Given as goal

abbrev pub invariant-loop-rollup : goal.invariant-loop-rollup
invariant-loop-rollup l =
    let test = rollup_line l.fields.views.now l.fields.scope.now l.datagroups in
    first_at test (drop l.rollup-index l.rollups) ≡ first_at test l.rollups
