use Rattle.std.proofs.Common.{◌≡◌, drop}
use Rattle.lk_scope.specs.Pieces.{first_at}
use Rattle.lk_field_faults.specs.FieldFaults.{field_line}
use Rattle.lk_field_faults.proofs.field_faults.test_places.Given as goal

abbrev pub invariant-loop-place : goal.invariant-loop-place
invariant-loop-place l =
    let test = field_line l.fields.schema.now l.fields.views.now l.fields.scope.now l.fields.columns.now in
    first_at test (drop l.place-index l.places) ≡ first_at test l.places
