use Rattle.std.proofs.Common.{length, sym, ap, arith, List, ℕ}
use Rattle.std.proofs.lemmas.List.{length-drop}
use Rattle.csv.specs.Records.{fields_of}
use Rattle.lk_csv.proofs.FieldLaws.{no-field}
use Rattle.lk_table.proofs.records.field_at.Goals as goal

pub unreachable-requires : goal.unreachable-requires
unreachable-requires c =
    let fields = fields_of c.args.csv_record.now in
    let none = no-field fields c.args.i (sym c.in-None.ensures.value) in
    omega (arith, c.requires, length-drop c.args.i fields, ap (λ (left : List (List ℕ)). length left) none)
