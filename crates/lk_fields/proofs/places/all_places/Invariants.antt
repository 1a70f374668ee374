use Rattle.std.proofs.Common.{◌≡◌, ◌++◌, drop}
use Rattle.lk_fields.specs.Existing.{all_places, places_of_parts}
use Rattle.lk_fields.proofs.places.all_places.Given as goal

abbrev pub invariant-loop-part : goal.invariant-loop-part
invariant-loop-part l = record {
  counted : l.part ≡ l._part-index;
  rest : l.places ++ places_of_parts l.views l.scope l._part-index (drop l._part-index l.scope.parts) ≡ all_places l.views l.scope;
}
