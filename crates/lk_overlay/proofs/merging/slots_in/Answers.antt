use Rattle.std.proofs.Common.{◌≡◌, IfOk, subst}
use Rattle.std.specs.Prelude.{map}
use Rattle.std.specs.List.{flat_map}
use Rattle.lk_overlay.specs.Overlay.{slot_of}
use Rattle.lk_overlay.proofs.SlotLaws.{slots_once}
use Rattle.lk_overlay.proofs.merging.slots_in.Goals as goal

pub returns : goal.returns
returns c =
    subst (λ t. IfOk c.all_slots.result (λ slots. slots ≡ t))
    (slots_once (flat_map (map (slot_of c.args.kind)) c.args.blocks.now)) c.all_slots.ensures
