use Rattle.std.proofs.Common.{◌≡◌, drop}
use Rattle.std.specs.List.{flat_map, fold}
use Rattle.lk_params.specs.Findings.{sooner}
use Rattle.lk_explore_faults.specs.JoinFaults.{join_finding}
use Rattle.lk_explore_faults.proofs.join_faults.find_joins.Given as goal

abbrev pub invariant-loop-name : goal.invariant-loop-name
invariant-loop-name l =
    let rule = join_finding l.joins l.object l.at in
    fold sooner l.findings.first (flat_map rule (drop l.name-index l.names))
    ≡ fold sooner l.fn.findings.first (flat_map rule l.names)
