use Rattle.std.proofs.Common.{◌≡◌, ◌++◌, drop, map}
use Rattle.lk_types.specs.declared.model.Pick.TheVariants.{Mea}
use Rattle.lk_semantics.specs.Answers.{filtered}
use Rattle.lk_query.proofs.measures.with_filtered.Given as goal

abbrev pub invariant-loop-filter : goal.invariant-loop-filter
invariant-loop-filter l = l.all ++ map Mea (filtered (drop l.filter-index l.having)) ≡ l.picks ++ map Mea (filtered l.having)
