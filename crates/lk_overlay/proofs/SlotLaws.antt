-- Slots that are the same, and each slot once.
use Rattle.std.proofs.Common.{◌≡◌, true, false, List, [], refl, ap}
use Rattle.std.specs.Prelude.{◌&&◌}
use Rattle.std.specs.List.{fold}
use Rattle.std.proofs.lemmas.Bool.{false≢true}
use Rattle.lk_val.specs.Texts.{is_same_text}
use Rattle.lk_params.specs.Picking.{firsts, with_new}
use Rattle.lk_params.proofs.FirstLaws.{folded_once}
use Rattle.lk_params.proofs.Steps.{text_exact}
use Rattle.lk_overlay.specs.Overlay.{is_same_slot}
use Rattle.lk_overlay.specs.declared.slot.Slot.{Slot}
use Rattle.lk_overlay.specs.declared.slot.Slot.TheVariants.{Parameter, Child}

pub slot_exact : (a b : Slot) → is_same_slot a b ≡ true → a ≡ b
slot_exact (Parameter a) (Parameter b) e = ap Parameter (text_exact a b e)
slot_exact (Child a b) (Child c d) e =
    elim (is_same_text a c) as (λ t. is_same_text a c ≡ t → (t && is_same_text b d) ≡ true → Child a b ≡ Child c d) [
      | true ↦ λ p q. λ i. Child (text_exact a c p i) (text_exact b d q i)
      | false ↦ λ p q. absurd (false≢true q)
    ] refl e
slot_exact a b e = absurd (false≢true e)

pub slots_once : (slots : List Slot) → fold (with_new is_same_slot) [] slots ≡ firsts is_same_slot slots
slots_once = folded_once is_same_slot slot_exact
