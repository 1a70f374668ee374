use Rattle.std.proofs.Common.{◌≡◌, ◌++◌, drop}
use Rattle.std.specs.List.{flat_map}
use Rattle.lk_resolved.specs.Filters.{filter_of_part}
use Rattle.lk_resolved.proofs.filters.filters_of_part.Given as goal

abbrev pub invariant-loop-filter : goal.invariant-loop-filter
invariant-loop-filter l =
    l.read ++ flat_map (filter_of_part l.fields.views.now l.fields.scope.now l.named.dimensions l.part) (drop l.filter-index l.filters) ≡ flat_map (filter_of_part l.fields.views.now l.fields.scope.now l.named.dimensions l.part) l.filters
