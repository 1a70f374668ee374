-- The names so far, and those of the measures to come.
use Rattle.std.proofs.Common.{◌≡◌, ◌++◌, drop, map}
use Rattle.lk_types.specs.declared.explore.Measure.{Measure}
use Rattle.lk_model.proofs.names.add_measure_names.Given as goal

abbrev pub invariant-loop-measure : goal.invariant-loop-measure
invariant-loop-measure l =
    l.names ++ map (λ (m : Measure). m.name) (drop l.measure-index l.measures)
    ≡ l.initial.names ++ map (λ (m : Measure). m.name) l.measures
