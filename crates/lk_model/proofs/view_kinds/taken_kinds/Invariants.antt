use Rattle.std.proofs.Common.{◌≡◌, map, take}
use Rattle.lk_model.specs.ViewKinds.{taken_kind}
use Rattle.lk_model.proofs.view_kinds.taken_kinds.Given as goal

abbrev pub invariant-loop-column : goal.invariant-loop-column
invariant-loop-column l =
    l.made ≡ map (taken_kind l.fields.schema.now l.fields.views.now l.fields.scope.now l.fields.columns.now) (take l.column-index l.columns)
