use Rattle.std.proofs.Common.{◌≡◌, length, map, drop}
use Rattle.csv.specs.Records.{fields_of}
use Rattle.lk_val.specs.ValueRefs.{value_of_ref}
use Rattle.lk_table.specs.Batches.{in_front, values_of}
use Rattle.lk_table.proofs.parse.read_values.Given as goal

abbrev pub invariant-loop-i : goal.invariant-loop-i
invariant-loop-i l = record {
  long : length (fields_of l.csv_record) ≡ length l.named;
  rest : in_front (map value_of_ref l.values.items)
      (values_of (drop l.i (map (λ column. column.now) l.named)) (drop l.i (fields_of l.csv_record)))
      ≡ values_of (map (λ column. column.now) l.named) (fields_of l.csv_record);
}
