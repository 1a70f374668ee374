use Rattle.std.proofs.Common.{◌≡◌, map, take}
use Rattle.lk_model.specs.ViewKinds.{column_kind}
use Rattle.lk_model.proofs.view_kinds.kinds_of_columns.Given as goal

abbrev pub invariant-loop-column : goal.invariant-loop-column
invariant-loop-column l = l.kinds ≡ map column_kind (take l.column-index l.columns)
