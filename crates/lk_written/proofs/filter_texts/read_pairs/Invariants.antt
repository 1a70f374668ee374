use Rattle.std.proofs.Common.{take}
use Rattle.lk_written.specs.ReadFilters.{AreFilters}
use Rattle.lk_written.proofs.filter_texts.read_pairs.Given as goal

abbrev pub invariant-loop-pair : goal.invariant-loop-pair
invariant-loop-pair l = AreFilters (take l.pair-index l.pairs) l.filters
