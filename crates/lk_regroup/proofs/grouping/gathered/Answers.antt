use Rattle.std.proofs.Common.{arith}
use Rattle.lk_regroup.proofs.GatheringLaws.{gathered-next}
use Rattle.lk_regroup.proofs.grouping.gathered.Goals as goal

pub loop-row-preserved : goal.loop-row-preserved
loop-row-preserved c =
    gathered-next c.args.how.now c.args.rows.now c.loop-row.row-index c.row-item.result c.loop-row.groups.entries c.add_row.new.groups.entries
    (omega (arith, c.loop-row-test.true)) c.row-item.is c.loop-row.invariant c.in_ok-add_row.ensures
