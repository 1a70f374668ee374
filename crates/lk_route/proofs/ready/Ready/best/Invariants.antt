use Rattle.std.proofs.Common.{◌≡◌}
use Rattle.lk_semantics.specs.Derived.{explore_at}
use Rattle.lk_semantics.specs.Rollups.{best_rollup}
use Rattle.lk_route.specs.Routes.{fitting_from}
use Rattle.lk_route.proofs.ready.Ready.best.Given as goal

abbrev pub invariant-loop-r : goal.invariant-loop-r
invariant-loop-r l = l.best ≡ best_rollup (explore_at l.m l.b.explore) (fitting_from (explore_at l.m l.b.explore) l.b l.r)
