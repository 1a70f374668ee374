use Rattle.std.proofs.Common.{◌≡◌, ◌++◌, drop, map}
use Rattle.csv.specs.Records.{fields_of}
use Rattle.lk_table.proofs.records.fields_in.Given as goal

abbrev pub invariant-loop-field : goal.invariant-loop-field
invariant-loop-field l = record {
  row : l.field-iterator.row.now ≡ l.csv_record;
  rest : map (λ field. field.now) l.fields.items ++ drop l.field-iterator.at (fields_of l.csv_record) ≡ fields_of l.csv_record;
}
