use Rattle.std.proofs.Common.{List, ◌++◌, drop}
use Rattle.std.specs.List.{filter}
use Rattle.lk_objects.specs.declared.explore.ExploreFilter.{ExploreFilter}
use Rattle.lk_explore.specs.ExploreFilters.{AreExploreFilters, is_filter}
use Rattle.lk_explore.proofs.filters.read_explore_filters.Given as goal

abbrev pub invariant-loop-item : goal.invariant-loop-item
invariant-loop-item l =
    (more : List ExploreFilter) → AreExploreFilters l.explore (filter is_filter (drop l.item-index l.items)) more
    → AreExploreFilters l.explore (filter is_filter l.items) (l.filters ++ more)
