use Rattle.std.proofs.Common.{◌≡◌, map, take}
use Rattle.lk_resolved.specs.Fields.{field_with}
use Rattle.lk_resolved.proofs.fields.fields.Given as goal

abbrev pub invariant-loop-dimension : goal.invariant-loop-dimension
invariant-loop-dimension l = l.fields ≡ map (field_with l.model.fields.now.schema.now l.model.fields.now.views.now l.model.fields.now.scope.now l.model.fields.now.columns.now) (take l.dimension-index l.dimension-items)
