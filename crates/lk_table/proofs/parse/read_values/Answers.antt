use Rattle.std.proofs.Common.{◌∙◌, ◌∷◌, [], ap, sym, arith, map, List, ℕ}
use Rattle.std.proofs.lemmas.List.{map-append}
use Rattle.std.specs.Option.{option_map}
use Rattle.std.specs.Prelude.{Err}
use Rattle.csv.specs.Records.{fields_of}
use Rattle.lk_val.specs.ValueRefs.{value_of_ref}
use Rattle.lk_types.specs.Tables.{Cells}
use Rattle.lk_table.specs.Batches.{or_wrong}
use Rattle.lk_table.specs.declared.fault.BatchFault.TheVariants.{L3}
use Rattle.lk_table.proofs.ReadLaws.{fails_there, reads_there}
use Rattle.lk_table.proofs.parse.read_values.Goals as goal

pub returns-in-None-clause-fault : goal.returns-in-None-clause-fault
returns-in-None-clause-fault c =
    ap (or_wrong {A = Cells} c.args.row)
    (fails_there c.args.named.now (fields_of c.args.csv_record.now) c.loop-i.i c.index-named-i.result c.field_at.result.now (omega arith)
    c.index-named-i.is c.field_at.ensures (map value_of_ref c.loop-i.values.items) c.loop-i.invariant.long
    (ap (option_map value_of_ref) (sym c.in-None.is) ∙ c.in_ok-value.ensures)
    c.loop-i.invariant.rest)
    ∙ ap (λ (name : List ℕ). Err (L3 c.args.row name)) (sym c.in_ok-copy-in-None.ensures)

pub loop-i-preserved : goal.loop-i-preserved
loop-i-preserved c = record {
  long = c.loop-i.invariant.long;
  rest = rw (c.in_ok-push-in-Some.ensures.items, map-append value_of_ref c.loop-i.values.items (c.in-Some.value ∷ []))
      (reads_there c.args.named.now (fields_of c.args.csv_record.now) c.loop-i.i c.index-named-i.result c.field_at.result.now (omega arith)
      c.index-named-i.is c.field_at.ensures (map value_of_ref c.loop-i.values.items) (value_of_ref c.in-Some.value)
      (ap (option_map value_of_ref) (sym c.in-Some.is) ∙ c.in_ok-value.ensures) c.loop-i.invariant.rest);
}
