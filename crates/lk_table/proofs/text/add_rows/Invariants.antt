use Rattle.std.proofs.Common.{◌≡◌, ◌++◌, map, take}
use Rattle.lk_csv.specs.Records.{records_text}
use Rattle.lk_table.specs.BatchTexts.{fields_of_row}
use Rattle.lk_table.proofs.text.add_rows.Given as goal

abbrev pub invariant-loop-row : goal.invariant-loop-row
invariant-loop-row l = l.text ≡ l.initial.text ++ records_text (map fields_of_row (take l.row l.block.rows))
