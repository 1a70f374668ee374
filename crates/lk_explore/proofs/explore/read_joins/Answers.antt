use Rattle.std.proofs.Common.{arith}
use Rattle.lk_explore.specs.Explores.{AreJoins, joins_in}
use Rattle.lk_explore.proofs.EndLaws.{ended}
use Rattle.lk_explore.proofs.explore.read_joins.Goals as goal

pub returns : goal.returns
returns c =
    ended (λ items joins. AreJoins (joins_in items) joins) c.args.items.now c.loop-item.item-index c.loop-item.joins (omega (arith, c.loop-item-test.false)) tt c.loop-item.invariant
