use Rattle.lk_table.specs.Contents.{rows_of_each}
use Rattle.lk_fill.proofs.FillLaws.{filled_begun, filled_next, turn_reads}
use Rattle.lk_fill.proofs.filling.filled.Goals as goal

pub loop-place-init : goal.loop-place-init
loop-place-init c = filled_begun c.args.m.now (rows_of_each c.args.tables.now) c.args.needed.now c.in_ok-set.set c.in_ok-set.ensures

pub with_table-requires-clause-reads : goal.with_table-requires-clause-reads
with_table-requires-clause-reads c =
    turn_reads c.args.m.now (rows_of_each c.args.tables.now) c.args.needed.now c.args.order.now c.loop-place.place c.loop-place.set
    c.requires.order c.loop-place-test.true c.loop-place.invariant c.args.at_hand.now c.requires.tables c.requires.closed

pub loop-place-preserved : goal.loop-place-preserved
loop-place-preserved c =
    filled_next c.args.m.now (rows_of_each c.args.tables.now) c.args.needed.now c.args.order.now c.loop-place.place c.loop-place.set
    c.requires.order c.loop-place-test.true c.loop-place.invariant c.in_ok-set-2.set c.in_ok-set-2.ensures
