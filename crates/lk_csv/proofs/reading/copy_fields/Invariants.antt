use Rattle.std.proofs.Common.{◌≡◌, ◌++◌, drop}
use Rattle.csv.specs.Records.{fields_of}
use Rattle.lk_csv.proofs.reading.copy_fields.Given as goal

abbrev pub invariant-loop-field : goal.invariant-loop-field
invariant-loop-field l = record {
  row : l.field-iterator.row.now ≡ l.row;
  rest : l.fields.items ++ drop l.field-iterator.at (fields_of l.row) ≡ fields_of l.row;
}
