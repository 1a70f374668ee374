use Rattle.std.proofs.Common.{◌≡◌}
use Rattle.lk_semantics.specs.Joins.{numbers_below}
use Rattle.lk_route.proofs.keeping.views_to.Given as goal

abbrev pub invariant-loop-view : goal.invariant-loop-view
invariant-loop-view l = l.views ≡ numbers_below l.view
