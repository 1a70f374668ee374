use Rattle.std.proofs.Common.{◌∙◌, ℕ, refl, sym}
use Rattle.lk_read.specs.declared.tree.Item.{Item}
use Rattle.lk_overlay.specs.Overlay.{slot_of}
use Rattle.lk_overlay.specs.Grouped.{those_at}
use Rattle.lk_overlay.proofs.GroupLaws.{item_step}
use Rattle.lk_overlay.proofs.grouped.add_item.Goals as goal

pub returns-in_ok-add_at-in-Some : goal.returns-in_ok-add_at-in-Some
returns-in_ok-add_at-in-Some c = λ slot.
    let entry : ℕ × Item = (c.args.number, c.args.item.now) in
    item_step (those_at c.add_at.new.groups) (those_at c.args.groups.now) (slot_of c.args.kind c.args.item.now) slot c.in-Some.key entry
    (sym c.in_ok-item_key.ensures ∙ c.in-Some.is) refl refl c.in_ok-add_at-in-Some.ensures
