use Rattle.std.proofs.Common.{◌≡◌, ◌++◌, drop}
use Rattle.std.specs.List.{flat_map}
use Rattle.lk_resolved.specs.Explores.{joins_of_name}
use Rattle.lk_resolved.proofs.joins.joins_named.Given as goal

abbrev pub invariant-loop-name : goal.invariant-loop-name
invariant-loop-name l =
    l.numbers ++ flat_map (joins_of_name l.joins) (drop l.name-index l.names) ≡ flat_map (joins_of_name l.joins) l.names
