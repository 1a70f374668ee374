use Rattle.std.proofs.Common.{◌≡◌, ◌++◌, drop, map}
use Rattle.lk_regroup.specs.FieldSources.{sourced}
use Rattle.lk_regroup.proofs.source.add_filters.Given as goal

abbrev pub invariant-loop-filter : goal.invariant-loop-filter
invariant-loop-filter l = l.tests ++ map (sourced l.x l.dims) (drop l.filter-index l.filters) ≡ l.fn.tests ++ map (sourced l.x l.dims) l.filters
