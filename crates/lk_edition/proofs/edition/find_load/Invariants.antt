use Rattle.std.proofs.Common.{◌≡◌, map, drop}
use Rattle.std.specs.Arc.{arc_value}
use Rattle.lk_edition.specs.Loads.{kept_load}
use Rattle.lk_edition.proofs.edition.find_load.Given as goal

abbrev pub invariant-loop-load : goal.invariant-loop-load
invariant-loop-load l = kept_load (map arc_value (drop l.load-index l.loads)) l.id ≡ kept_load (map arc_value l.loads) l.id
