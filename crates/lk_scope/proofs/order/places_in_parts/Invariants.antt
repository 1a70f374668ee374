use Rattle.std.proofs.Common.{◌≡◌, ◌++◌, drop}
use Rattle.std.specs.List.{flat_map}
use Rattle.lk_scope.specs.Order.{places_in}
use Rattle.lk_scope.proofs.order.places_in_parts.Given as goal

abbrev pub invariant-loop-part : goal.invariant-loop-part
invariant-loop-part l =
    l.places ++ flat_map (places_in l.views l.scope) (drop l.part-index l.parts) ≡ flat_map (places_in l.views l.scope) l.parts
