use Rattle.std.proofs.Common.{◌≡◌, drop}
use Rattle.lk_regroup.specs.FieldSources.{passes_each}
use Rattle.lk_regroup.proofs.passing.passes_each.Given as goal

abbrev pub invariant-loop-filter : goal.invariant-loop-filter
invariant-loop-filter l = passes_each (drop l.filter-index l.filters) l.group ≡ passes_each l.filters l.group
