use Rattle.std.proofs.Common.{◌≡◌, ◌++◌, drop}
use Rattle.lk_semantics.specs.Answers.{filtered}
use Rattle.lk_query.proofs.measures.add_filtered.Given as goal

abbrev pub invariant-loop-filter : goal.invariant-loop-filter
invariant-loop-filter l = l.numbers ++ filtered (drop l.filter-index l.filters) ≡ l.fn.numbers ++ filtered l.filters
