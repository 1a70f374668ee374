use Rattle.std.proofs.Common.{◌≡◌, drop, false}
use Rattle.std.specs.List.{flat_map, fold}
use Rattle.lk_params.specs.Findings.{sooner}
use Rattle.lk_explore_faults.specs.StoredQueries.{filter_findings}
use Rattle.lk_explore_faults.proofs.filter_faults.find_in_filters.Given as goal

abbrev pub invariant-loop-filter : goal.invariant-loop-filter
invariant-loop-filter l =
    let rule = filter_findings l.fields.views.now l.fields.scope.now l.explore l.at false in
    fold sooner l.findings.first (flat_map rule (drop l.filter-index l.filters))
    ≡ fold sooner l.fn.findings.first (flat_map rule l.filters)
