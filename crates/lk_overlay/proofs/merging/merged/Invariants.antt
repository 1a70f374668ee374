use Rattle.std.proofs.Common.{◌≡◌, ◌++◌, drop}
use Rattle.std.specs.List.{flat_map}
use Rattle.lk_overlay.specs.Overlay.{filled}
use Rattle.lk_overlay.proofs.merging.merged.Given as goal

abbrev pub invariant-loop-slot : goal.invariant-loop-slot
invariant-loop-slot l = l.items ++ flat_map (filled l.fn.kind l.fn.blocks) (drop l.slot-index l.slot-items) ≡ flat_map (filled l.fn.kind l.fn.blocks) l.slot-items
