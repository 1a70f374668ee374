use Rattle.std.proofs.Common.{◌≡◌, ◌++◌, drop}
use Rattle.lk_query.specs.Bindings.{each_placed, on_dims}
use Rattle.lk_query.proofs.filters.on_dims.Given as goal

abbrev pub invariant-loop-filter : goal.invariant-loop-filter
invariant-loop-filter l = l.made ++ each_placed l.now (on_dims (drop l.filter-index l.filters)) ≡ each_placed l.now (on_dims l.filters)
