use Rattle.std.proofs.Common.{◌≡◌, ◌++◌, drop, map}
use Rattle.lk_regroup.specs.FieldSources.{value_from}
use Rattle.lk_regroup.proofs.value.group_from.Given as goal

abbrev pub invariant-loop-source : goal.invariant-loop-source
invariant-loop-source l = l.values ++ map (value_from l.group) (drop l.source-index l.sources) ≡ map (value_from l.group) l.sources
