use Rattle.std.proofs.Common.{◌≡◌, map, take}
use Rattle.std.specs.Arc.{arc_value}
use Rattle.lk_edition.proofs.edition.share_loads.Given as goal

abbrev pub invariant-loop-load : goal.invariant-loop-load
invariant-loop-load l = map arc_value l.shared ≡ map arc_value (take l.load-index l.loads)
