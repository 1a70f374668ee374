use Rattle.std.proofs.Common.{◌≡◌, drop}
use Rattle.lk_scope.specs.Pieces.{first_at}
use Rattle.lk_explore_faults.specs.FilterFaults.{filter_line}
use Rattle.lk_explore_faults.proofs.filter_faults.test_filters.Given as goal

abbrev pub invariant-loop-filter : goal.invariant-loop-filter
invariant-loop-filter l =
    let test = filter_line l.fields.schema.now l.fields.views.now l.fields.scope.now l.explore in
    first_at test (drop l.filter-index l.filters) ≡ first_at test l.filters
