use Rattle.std.proofs.Common.{◌≡◌, drop}
use Rattle.std.specs.List.{flat_map, fold}
use Rattle.lk_params.specs.Findings.{sooner}
use Rattle.lk_explore_faults.specs.ViewFaults.{always_finding}
use Rattle.lk_explore_faults.proofs.view_faults.find_relative.Given as goal

abbrev pub invariant-loop-filter : goal.invariant-loop-filter
invariant-loop-filter l =
    let rule = always_finding l.source.views.now l.source.scope.now l.object l.at in
    fold sooner l.findings.first (flat_map rule (drop l.filter-index l.filters))
    ≡ fold sooner l.fn.findings.first (flat_map rule l.filters)
