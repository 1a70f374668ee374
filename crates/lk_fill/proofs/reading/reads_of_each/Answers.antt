use Rattle.std.proofs.Common.{arith}
use Rattle.lk_fill.proofs.OrderLaws.{reads_next}
use Rattle.lk_fill.proofs.reading.reads_of_each.Goals as goal

pub loop-table-preserved : goal.loop-table-preserved
loop-table-preserved c =
    reads_next c.args.m.now c.loop-table.table c.loop-table.reads _ _ (omega (arith, c.loop-table-test.true, c.len.ensures)) c.loop-table.invariant c.in_ok-reads_of.ensures c.in_ok-push.ensures.ok
