use Rattle.std.proofs.Common.{◌≡◌, map, take}
use Rattle.lk_route.specs.Ready.{ready_join}
use Rattle.lk_route.proofs.ready.ready_joins.Given as goal

abbrev pub invariant-loop-join : goal.invariant-loop-join
invariant-loop-join l = l.ready ≡ map (ready_join l.x) (take l.join-index l.joins)
