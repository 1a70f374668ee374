use Rattle.std.proofs.Common.{◌≡◌, true, map, take}
use Rattle.std.specs.List.{list_all}
use Rattle.lk_route.specs.Ready.{has_few_rollups, ready_rollups}
use Rattle.lk_route.proofs.ready.Ready.new.Given as goal

abbrev pub invariant-loop-x : goal.invariant-loop-x
invariant-loop-x l = (l.rollups ≡ map ready_rollups (take l.x-index l.x-items)) × (list_all has_few_rollups (take l.x-index l.x-items) ≡ true)
