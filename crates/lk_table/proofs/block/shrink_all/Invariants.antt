use Rattle.std.proofs.Common.{◌≡◌}
use Rattle.lk_table.proofs.block.shrink_all.Given as goal

abbrev pub invariant-loop-column : goal.invariant-loop-column
invariant-loop-column l = l.columns ≡ l.fn.columns
