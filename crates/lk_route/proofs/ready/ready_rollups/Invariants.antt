use Rattle.std.proofs.Common.{◌≡◌, map, take}
use Rattle.lk_route.specs.Ready.{ready_rollup}
use Rattle.lk_route.proofs.ready.ready_rollups.Given as goal

abbrev pub invariant-loop-r : goal.invariant-loop-r
invariant-loop-r l = l.ready ≡ map (ready_rollup l.x) (take l.r-index l.r-items)
