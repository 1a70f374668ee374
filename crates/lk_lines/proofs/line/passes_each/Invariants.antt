use Rattle.std.proofs.Common.{◌≡◌, drop}
use Rattle.lk_lines.specs.Sources.{passes_each}
use Rattle.lk_lines.proofs.line.passes_each.Given as goal

abbrev pub invariant-loop-filter : goal.invariant-loop-filter
invariant-loop-filter l = passes_each l.components l.cells (drop l.filter-index l.filters) ≡ passes_each l.components l.cells l.filters
