use Rattle.std.proofs.Common.{◌≡◌, ◌∷◌, [], Bor, List, ℕ, Some, None, sym, drop, map, ◌+◌, append_assoc}
use Rattle.std.proofs.lemmas.List.{append-nil, map-append}
use Rattle.csv.specs.Records.{fields_of, field_at}
use Rattle.lk_csv.proofs.FieldLaws.{field-first, no-field}
use Rattle.lk_table.proofs.records.fields_in.Goals as goal

abbrev told : Bor (List ℕ) → List ℕ
told field = field.now

pub loop-field-preserved : goal.loop-field-preserved
loop-field-preserved c =
    let all = fields_of c.args.csv_record.now in
    let at = c.loop-field.field-iterator.at in
    let kept = c.loop-field.invariant in
    let step = c.in-Some.ensures.steps in
    let here : field_at all at ≡ Some c.in-Some.field.now = rw kept.row at (sym step.1) in
    let first = field-first all at c.in-Some.field.now here in
    let rest = rw first at kept.rest in
    record {
      row = rw step.0 kept.row;
      rest = rw (
        c.in_ok-push.ensures.items,
        step.2,
        map-append told c.loop-field.fields.items (c.in-Some.field ∷ []),
        append_assoc (map told c.loop-field.fields.items) (c.in-Some.field.now ∷ []) (drop (at + 1) all),
      ) rest;
    }

pub returns : goal.returns
returns c =
    let all = fields_of c.args.csv_record.now in
    let kept = c.loop-field.invariant in
    let step = c.in-None.ensures.steps in
    let none : field_at all c.loop-field.field-iterator.at ≡ None = rw kept.row at (sym step.1) in
    let rest = rw (no-field all c.loop-field.field-iterator.at none) at kept.rest in
    rw append-nil at rest
