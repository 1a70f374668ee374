use Rattle.std.proofs.Common.{◌≡◌, ◌++◌, drop}
use Rattle.std.specs.List.{flat_map}
use Rattle.lk_resolved.specs.Explores.{always_in}
use Rattle.lk_resolved.proofs.explore.always.Given as goal

abbrev pub invariant-loop-filter : goal.invariant-loop-filter
invariant-loop-filter l =
    l.always ++ flat_map (always_in l.model.fields.now.views.now l.model.fields.now.scope.now) (drop l.filter-index l.filters) ≡ flat_map (always_in l.model.fields.now.views.now l.model.fields.now.scope.now) l.filters
