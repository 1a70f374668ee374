use Rattle.std.proofs.Common.{◌≡◌, true, take}
use Rattle.std.specs.List.{list_all}
use Rattle.lk_route.specs.Roles.{is_filter_within}
use Rattle.lk_route.proofs.regrouping.are_filters_within.Given as goal

abbrev pub invariant-loop-filter : goal.invariant-loop-filter
invariant-loop-filter l = list_all (is_filter_within l.x l.views) (take l.filter-index l.filters) ≡ true
