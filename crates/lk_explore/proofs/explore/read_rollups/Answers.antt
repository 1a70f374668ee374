use Rattle.std.proofs.Common.{arith}
use Rattle.lk_explore.specs.Explores.{AreRollups, rollups_in}
use Rattle.lk_explore.proofs.EndLaws.{ended}
use Rattle.lk_explore.proofs.explore.read_rollups.Goals as goal

pub returns : goal.returns
returns c =
    ended (λ items tables. AreRollups (rollups_in items) tables) c.args.items.now c.loop-item.item-index c.loop-item.tables (omega (arith, c.loop-item-test.false)) tt c.loop-item.invariant
