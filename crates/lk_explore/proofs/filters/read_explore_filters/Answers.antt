use Rattle.std.proofs.Common.{arith}
use Rattle.std.specs.List.{filter}
use Rattle.lk_explore.specs.ExploreFilters.{AreExploreFilters, is_filter}
use Rattle.lk_explore.proofs.EndLaws.{ended}
use Rattle.lk_explore.proofs.filters.read_explore_filters.Goals as goal

pub returns : goal.returns
returns c =
    ended (λ items filters. AreExploreFilters c.args.explore.now (filter is_filter items) filters) c.args.items.now c.loop-item.item-index c.loop-item.filters (omega (arith, c.loop-item-test.false)) tt c.loop-item.invariant
