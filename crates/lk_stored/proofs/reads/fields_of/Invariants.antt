use Rattle.std.proofs.Common.{◌≡◌, take}
use Rattle.lk_semantics.specs.Answers.{filtered}
use Rattle.lk_stored.proofs.reads.fields_of.Given as goal

abbrev pub invariant-loop-filter : goal.invariant-loop-filter
invariant-loop-filter l = l.fields ≡ filtered (take l.filter-index l.filters)
