use Rattle.std.proofs.Common.{◌≡◌, drop}
use Rattle.std.specs.List.{list_any}
use Rattle.lk_types.specs.declared.schema.Schema.{Schema}
use Rattle.lk_formulas.specs.declared.columns.ColumnKinds.{ColumnKinds}
use Rattle.lk_formulas.specs.declared.columns.UnknownColumn.{UnknownColumn}
use Rattle.lk_formulas.specs.FieldKinds.{takes_no_number}
use Rattle.lk_formulas.specs.Resolved.{IsTableOf}
use Rattle.lk_formulas.proofs.table.FieldTable.take_no_numbers.Given as goal

abbrev pub invariant-loop-name : goal.invariant-loop-name
invariant-loop-name l =
    (schema : Schema) (columns : ColumnKinds) (u : UnknownColumn) → IsTableOf schema l.views l.scope columns u l.self
    → list_any (takes_no_number schema l.views l.scope columns u) (drop l.name-index l.found)
    ≡ list_any (takes_no_number schema l.views l.scope columns u) l.found
