use Rattle.std.proofs.Common.{◌≡◌, map}
use Rattle.lk_semantics.specs.Joins.{numbers_below}
use Rattle.lk_route.specs.Ready.{ready_measure}
use Rattle.lk_route.proofs.ready.ready_measures.Given as goal

abbrev pub invariant-loop-measure : goal.invariant-loop-measure
invariant-loop-measure l = l.ready ≡ map (ready_measure l.x l.r) (numbers_below l.measure)
