use Rattle.std.proofs.Common.{◌≡◌, ◌++◌, drop}
use Rattle.std.specs.List.{flat_map}
use Rattle.lk_resolved.specs.Filters.{filter_named}
use Rattle.lk_resolved.proofs.filters.filters_named.Given as goal

abbrev pub invariant-loop-filter : goal.invariant-loop-filter
invariant-loop-filter l =
    l.read ++ flat_map (filter_named l.fields.views.now l.fields.scope.now l.named.dimensions) (drop l.filter-index l.filters) ≡ flat_map (filter_named l.fields.views.now l.fields.scope.now l.named.dimensions) l.filters
