use Rattle.std.proofs.Common.{◌≡◌, drop}
use Rattle.std.specs.List.{flat_map, fold}
use Rattle.lk_params.specs.Findings.{sooner}
use Rattle.lk_explore_faults.specs.StoredQueries.{entry_findings}
use Rattle.lk_explore_faults.proofs.stored_queries.find_in_query.Given as goal

abbrev pub invariant-loop-entry : goal.invariant-loop-entry
invariant-loop-entry l =
    let rule = entry_findings l.fields.views.now l.fields.scope.now l.object l.at l.filters in
    fold sooner l.findings.first (flat_map rule (drop l.entry-index l.entries))
    ≡ fold sooner l.fn.findings.first (flat_map rule l.entries)
