use Rattle.std.proofs.Common.{◌≡◌, ◌++◌, drop}
use Rattle.lk_resolved.specs.Explores.{parts_from}
use Rattle.lk_resolved.proofs.parts.parts.Given as goal

abbrev pub invariant-loop-part : goal.invariant-loop-part
invariant-loop-part l =
    record {
      counted : l.number ≡ l.part-index;
      rest : l.parts ++ parts_from l.model.fields.now.schema.now l.model.fields.now.views.now l.model.fields.now.scope.now l.model.fields.now.columns.now l.part-index (drop l.part-index l.part-items) ≡ parts_from l.model.fields.now.schema.now l.model.fields.now.views.now l.model.fields.now.scope.now l.model.fields.now.columns.now 0 l.model.fields.now.scope.now.parts;
    }
