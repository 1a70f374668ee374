use Rattle.std.proofs.Common.{◌≡◌, ◌++◌, drop, map}
use Rattle.lk_val.specs.ValueRefs.{value_of_ref}
use Rattle.lk_agg.proofs.acc.own_values.Given as goal

abbrev pub invariant-loop-value : goal.invariant-loop-value
invariant-loop-value l = l.owned ++ map value_of_ref (drop l.value-index l.values) ≡ map value_of_ref l.values
