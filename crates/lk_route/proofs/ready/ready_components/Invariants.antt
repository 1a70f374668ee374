use Rattle.std.proofs.Common.{◌≡◌, map, take}
use Rattle.lk_route.specs.Ready.{ready_component}
use Rattle.lk_route.proofs.ready.ready_components.Given as goal

abbrev pub invariant-loop-measure : goal.invariant-loop-measure
invariant-loop-measure l = l.ready ≡ map (ready_component l.x l.r) (take l.measure-index l.measure-items)
