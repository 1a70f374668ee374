use Rattle.std.proofs.Common.{arith}
use Rattle.lk_explore.proofs.EndLaws.{ended}
use Rattle.lk_resolve.specs.Objects.{AreViews}
use Rattle.lk_resolve.proofs.objects.read_views.Goals as goal

pub returns : goal.returns
returns c =
    ended (AreViews c.args.schema.now) c.args.objects.now c.loop-object.object-index c.loop-object.views (omega (arith, c.loop-object-test.false)) tt c.loop-object.invariant
