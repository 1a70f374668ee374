use Rattle.std.proofs.Common.{◌≡◌, drop}
use Rattle.lk_resolved.specs.Explores.{first_where}
use Rattle.lk_resolved.proofs.explore.first_where.Given as goal

abbrev pub invariant-loop-filter : goal.invariant-loop-filter
invariant-loop-filter l = first_where (drop l.filter-index l.filters) ≡ first_where l.filters
