use Rattle.std.proofs.Common.{◌∙◌}
use Rattle.lk_overlay.specs.Grouped.{key_of, those_at}
use Rattle.lk_overlay.proofs.GroupLaws.{block_step}
use Rattle.lk_overlay.proofs.grouped.add_block.Goals as goal

pub loop-item-preserved : goal.loop-item-preserved
loop-item-preserved c = λ slot.
    block_step c.args.kind slot c.args.number (those_at c.loop-item.groups (key_of slot)) (those_at c.add_item.new.groups (key_of slot))
    c.args.block.now c.loop-item.item-index c.item-item.result
    c.loop-item-test.true c.item-item.is (c.in_ok-add_item.ensures slot)
    ∙ c.loop-item.invariant slot
