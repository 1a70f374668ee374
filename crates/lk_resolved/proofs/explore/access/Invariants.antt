use Rattle.std.proofs.Common.{◌≡◌, ◌++◌, drop}
use Rattle.std.specs.List.{flat_map}
use Rattle.lk_resolved.specs.Explores.{access_in}
use Rattle.lk_resolved.proofs.explore.access.Given as goal

abbrev pub invariant-loop-filter : goal.invariant-loop-filter
invariant-loop-filter l =
    l.access ++ flat_map (access_in l.model.fields.now.views.now l.model.fields.now.scope.now) (drop l.filter-index l.filters) ≡ flat_map (access_in l.model.fields.now.views.now l.model.fields.now.scope.now) l.filters
