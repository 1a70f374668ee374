use Rattle.std.proofs.Common.{◌∙◌}
use Rattle.lk_overlay.specs.Grouped.{key_of, those_at}
use Rattle.lk_overlay.proofs.GroupLaws.{number_step}
use Rattle.lk_overlay.proofs.grouped.groups_of.Goals as goal

pub loop-number-preserved : goal.loop-number-preserved
loop-number-preserved c = λ slot.
    number_step c.args.kind slot (those_at c.loop-number.groups (key_of slot)) (those_at c.add_block.new.groups (key_of slot))
    c.args.blocks.now c.loop-number.number c.index-blocks-number.result c.as_slice.result.now
    c.loop-number-test.true c.index-blocks-number.is c.as_slice.ensures (c.in_ok-add_block.ensures slot)
    ∙ c.loop-number.invariant slot
