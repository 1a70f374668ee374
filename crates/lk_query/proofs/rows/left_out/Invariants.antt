use Rattle.std.proofs.Common.{◌≡◌, ◌++◌, drop}
use Rattle.lk_query.specs.Bindings.{each_placed}
use Rattle.lk_query.specs.Rows.{left_out}
use Rattle.lk_query.proofs.rows.left_out.Given as goal

abbrev pub invariant-loop-filter : goal.invariant-loop-filter
invariant-loop-filter l = l.defaults ++ each_placed l.now (left_out l.filters (drop l.filter-index l.filter-items)) ≡ each_placed l.now (left_out l.filters l.filter-items)
