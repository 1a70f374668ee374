use Rattle.std.proofs.Common.{◌≡◌, ◌++◌, drop}
use Rattle.std.specs.List.{flat_map}
use Rattle.lk_resolved.specs.Explores.{measure_numbers}
use Rattle.lk_resolved.proofs.explore.numbers_of_measures.Given as goal

abbrev pub invariant-loop-name : goal.invariant-loop-name
invariant-loop-name l =
    l.numbers ++ flat_map (measure_numbers l.model.fields.now.views.now l.model.fields.now.scope.now) (drop l.name-index l.names) ≡ flat_map (measure_numbers l.model.fields.now.views.now l.model.fields.now.scope.now) l.names
