use Rattle.std.proofs.Common.{◌≡◌, take}
use Rattle.lk_table.specs.BatchTexts.{names_of}
use Rattle.lk_table.proofs.text.names_of.Given as goal

abbrev pub invariant-loop-column : goal.invariant-loop-column
invariant-loop-column l = l.names.items ≡ names_of (take l.column-index l.columns)
