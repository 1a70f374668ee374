use Rattle.std.proofs.Common.{◌≡◌, drop}
use Rattle.std.specs.List.{list_any}
use Rattle.lk_scope.specs.Components.{is_over_at}
use Rattle.lk_scope.proofs.component.has_number.Given as goal

abbrev pub invariant-loop-place : goal.invariant-loop-place
invariant-loop-place l =
    list_any (is_over_at l.views l.scope) (drop l.place-index l.places) ≡ list_any (is_over_at l.views l.scope) l.places
