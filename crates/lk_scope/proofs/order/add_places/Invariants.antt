use Rattle.std.proofs.Common.{◌≡◌, ◌++◌, drop}
use Rattle.lk_fields.specs.Existing.{places_from}
use Rattle.lk_scope.proofs.order.add_places.Given as goal

abbrev pub invariant-loop-field : goal.invariant-loop-field
invariant-loop-field l = record {
  counted : l.number ≡ l._field-index;
  rest : l.places ++ places_from l.part l._field-index (drop l._field-index l.fields) ≡ l.fn.places ++ places_from l.part 0 l.fields;
}
