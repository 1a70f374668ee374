use Rattle.std.proofs.Common.{◌≡◌, drop}
use Rattle.std.specs.List.{flat_map, fold}
use Rattle.lk_scope.specs.Components.{over, put_behind, replaced}
use Rattle.lk_scope.proofs.component.replaced.Given as goal

abbrev pub invariant-loop-place : goal.invariant-loop-place
invariant-loop-place l =
    fold put_behind l.made (flat_map (over l.views l.scope) (drop l.place-index l.places)) ≡ replaced l.views l.scope l.places
