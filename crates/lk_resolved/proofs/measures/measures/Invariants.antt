use Rattle.std.proofs.Common.{◌≡◌, ◌++◌, drop}
use Rattle.std.specs.List.{flat_map}
use Rattle.lk_resolved.specs.Fields.{measure_at}
use Rattle.lk_resolved.proofs.measures.measures.Given as goal

abbrev pub invariant-loop-measure : goal.invariant-loop-measure
invariant-loop-measure l =
    l.measures ++ flat_map (measure_at l.model.fields.now.schema.now l.model.fields.now.views.now l.model.fields.now.scope.now l.model.fields.now.columns.now) (drop l.measure-index l.measure-items) ≡ flat_map (measure_at l.model.fields.now.schema.now l.model.fields.now.views.now l.model.fields.now.scope.now l.model.fields.now.columns.now) l.named.measures
