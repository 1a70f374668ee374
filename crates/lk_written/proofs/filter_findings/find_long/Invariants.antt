use Rattle.std.proofs.Common.{◌≡◌, drop}
use Rattle.std.specs.List.{flat_map, fold}
use Rattle.lk_params.specs.Findings.{sooner}
use Rattle.lk_written.specs.FilterFindings.{too_long}
use Rattle.lk_written.proofs.filter_findings.find_long.Given as goal

abbrev pub invariant-loop-filter : goal.invariant-loop-filter
invariant-loop-filter l =
    fold sooner l.findings.first (flat_map (too_long l.order l.at) (drop l.filter-index l.filters))
    ≡ fold sooner l.fn.findings.first (flat_map (too_long l.order l.at) l.filters)
