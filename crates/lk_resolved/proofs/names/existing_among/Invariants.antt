use Rattle.std.proofs.Common.{◌≡◌, ◌++◌, drop}
use Rattle.std.specs.Prelude.{filter}
use Rattle.lk_fields.specs.Existing.{exists}
use Rattle.lk_resolved.proofs.names.existing_among.Given as goal

abbrev pub invariant-loop-place : goal.invariant-loop-place
invariant-loop-place l =
    l.places ++ filter (exists l.fields.views.now l.fields.scope.now) (drop l.place-index l.all) ≡ filter (exists l.fields.views.now l.fields.scope.now) l.all
