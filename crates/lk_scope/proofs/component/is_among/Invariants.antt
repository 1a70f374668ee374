use Rattle.std.proofs.Common.{◌≡◌, drop}
use Rattle.lk_val.specs.Least.{is_in}
use Rattle.lk_fields.specs.Existing.{is_same_place}
use Rattle.lk_scope.proofs.component.is_among.Given as goal

abbrev pub invariant-loop-other : goal.invariant-loop-other
invariant-loop-other l = is_in is_same_place l.place (drop l.other-index l.places) ≡ is_in is_same_place l.place l.places
