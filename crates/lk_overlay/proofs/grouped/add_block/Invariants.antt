use Rattle.std.proofs.Common.{◌≡◌, ◌++◌, drop}
use Rattle.std.specs.Prelude.{map}
use Rattle.lk_overlay.specs.declared.slot.Slot.{Slot}
use Rattle.lk_overlay.specs.Overlay.{in_slot}
use Rattle.lk_overlay.specs.Grouped.{key_of, those_at}
use Rattle.lk_overlay.proofs.grouped.add_block.Given as goal

abbrev pub invariant-loop-item : goal.invariant-loop-item
invariant-loop-item l = (slot : Slot) → those_at l.groups (key_of slot) ++ map (λ item. (l.number, item)) (in_slot l.kind slot (drop l.item-index l.block))
    ≡ those_at l.fn.groups (key_of slot) ++ map (λ item. (l.number, item)) (in_slot l.kind slot l.block)
