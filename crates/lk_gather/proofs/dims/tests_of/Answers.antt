use Rattle.std.proofs.Common.{arith, map, of_z, subst, to_z, w64}
use Rattle.std.proofs.lemmas.Int.{to_z-of_z}
use Rattle.lk_filter.specs.PlacedModel.{placed_field_filter}
use Rattle.lk_gather.specs.Dims.{AreTests}
use Rattle.lk_gather.proofs.EndLaws.{ended}
use Rattle.lk_gather.proofs.dims.tests_of.Goals as goal

pub returns : goal.returns
returns c =
    subst (λ now. AreTests c.args.explore.now (map (placed_field_filter now) c.args.filters.now) c.loop-filter.tests) (to_z-of_z w64 c.args.now c.ranges.now)
    (ended (λ filters tests. AreTests c.args.explore.now (map (placed_field_filter (to_z w64 (of_z w64 c.args.now))) filters) tests) c.args.filters.now c.loop-filter.filter-index c.loop-filter.tests
    (omega (arith, c.loop-filter-test.false)) tt c.loop-filter.invariant)
