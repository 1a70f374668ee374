use Rattle.std.proofs.Common.{◌≡◌, ◌++◌, drop}
use Rattle.lk_query.specs.Bindings.{each_placed, on_measures}
use Rattle.lk_query.proofs.filters.on_measures.Given as goal

abbrev pub invariant-loop-filter : goal.invariant-loop-filter
invariant-loop-filter l = l.made ++ each_placed l.now (on_measures (drop l.filter-index l.filters)) ≡ each_placed l.now (on_measures l.filters)
