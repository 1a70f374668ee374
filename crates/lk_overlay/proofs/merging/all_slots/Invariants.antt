use Rattle.std.proofs.Common.{◌≡◌, [], drop}
use Rattle.std.specs.Prelude.{map}
use Rattle.std.specs.List.{flat_map, fold}
use Rattle.lk_params.specs.Picking.{with_new}
use Rattle.lk_overlay.specs.Overlay.{is_same_slot, slot_of}
use Rattle.lk_overlay.proofs.merging.all_slots.Given as goal

abbrev pub invariant-loop-block : goal.invariant-loop-block
invariant-loop-block l = fold (with_new is_same_slot) l.known.slots (flat_map (map (slot_of l.kind)) (drop l.block-index l.blocks)) ≡ fold (with_new is_same_slot) [] (flat_map (map (slot_of l.kind)) l.blocks)
