use Rattle.std.proofs.Common.{◌≡◌, ◌++◌, drop}
use Rattle.lk_semantics.specs.Answers.{filtered}
use Rattle.lk_lines.proofs.answer.add_filtered.Given as goal

abbrev pub invariant-loop-filter : goal.invariant-loop-filter
invariant-loop-filter l = l.measures ++ filtered (drop l.filter-index l.filters) ≡ l.fn.measures ++ filtered l.filters
