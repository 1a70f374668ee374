use Rattle.std.proofs.Common.{arith}
use Rattle.lk_explore.proofs.EndLaws.{ended}
use Rattle.lk_resolve.specs.Objects.{AreExplores}
use Rattle.lk_resolve.proofs.objects.read_explores.Goals as goal

pub returns : goal.returns
returns c =
    ended AreExplores c.args.objects.now c.loop-object.object-index c.loop-object.explores (omega (arith, c.loop-object-test.false)) tt c.loop-object.invariant
