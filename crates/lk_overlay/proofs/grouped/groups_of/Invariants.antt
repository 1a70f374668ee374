use Rattle.std.proofs.Common.{◌≡◌, ◌++◌, drop}
use Rattle.lk_overlay.specs.declared.slot.Slot.{Slot}
use Rattle.lk_overlay.specs.Grouped.{key_of, numbered, those_at}
use Rattle.lk_overlay.proofs.grouped.groups_of.Given as goal

abbrev pub invariant-loop-number : goal.invariant-loop-number
invariant-loop-number l = (slot : Slot) → those_at l.groups (key_of slot) ++ numbered l.kind slot l.number (drop l.number l.blocks) ≡ numbered l.kind slot 0 l.blocks
