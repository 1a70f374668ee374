use Rattle.std.proofs.Common.{◌≡◌, ◌++◌, drop}
use Rattle.std.specs.List.{flat_map}
use Rattle.lk_resolved.specs.Filters.{dimension_numbers}
use Rattle.lk_resolved.proofs.filters.numbers_of_dimensions.Given as goal

abbrev pub invariant-loop-name : goal.invariant-loop-name
invariant-loop-name l =
    l.numbers ++ flat_map (dimension_numbers l.fields.views.now l.fields.scope.now l.named.dimensions) (drop l.name-index l.names) ≡ flat_map (dimension_numbers l.fields.views.now l.fields.scope.now l.named.dimensions) l.names
