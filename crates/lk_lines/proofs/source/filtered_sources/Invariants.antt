use Rattle.std.proofs.Common.{◌≡◌, ◌++◌, drop, map}
use Rattle.lk_lines.specs.Sources.{filtered_source}
use Rattle.lk_lines.proofs.source.filtered_sources.Given as goal

abbrev pub invariant-loop-filter : goal.invariant-loop-filter
invariant-loop-filter l = l.filtered ++ map (filtered_source l.x l.components) (drop l.filter-index l.filters) ≡ map (filtered_source l.x l.components) l.filters
