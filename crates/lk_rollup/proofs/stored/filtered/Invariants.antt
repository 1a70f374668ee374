use Rattle.std.proofs.Common.{◌≡◌, ◌++◌, drop}
use Rattle.lk_semantics.specs.Answers.{filtered}
use Rattle.lk_rollup.proofs.stored.filtered.Given as goal

abbrev pub invariant-loop-filter : goal.invariant-loop-filter
invariant-loop-filter l = l.fields ++ filtered (drop l.filter-index l.filters) ≡ filtered l.filters
