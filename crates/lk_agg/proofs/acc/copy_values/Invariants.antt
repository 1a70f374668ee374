use Rattle.std.proofs.Common.{◌≡◌, ◌++◌, drop}
use Rattle.lk_agg.proofs.acc.copy_values.Given as goal

abbrev pub invariant-loop-value : goal.invariant-loop-value
invariant-loop-value l = l.copied ++ drop l.value-index l.values ≡ l.values
