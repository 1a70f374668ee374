use Rattle.std.proofs.Common.{◌≡◌, drop}
use Rattle.std.specs.Prelude.{map}
use Rattle.std.specs.List.{fold}
use Rattle.lk_params.specs.Picking.{with_new}
use Rattle.lk_overlay.specs.Overlay.{is_same_slot, slot_of}
use Rattle.lk_overlay.proofs.merging.with_slots.Given as goal

abbrev pub invariant-loop-item : goal.invariant-loop-item
invariant-loop-item l = fold (with_new is_same_slot) l.known.slots (map (slot_of l.kind) (drop l.item-index l.items)) ≡ fold (with_new is_same_slot) l.fn.known.slots (map (slot_of l.kind) l.items)
