use Rattle.std.proofs.Common.{arith}
use Rattle.lk_gather.specs.Dims.{AreDims}
use Rattle.lk_gather.proofs.EndLaws.{ended}
use Rattle.lk_gather.proofs.dims.dims_at.Goals as goal

pub returns : goal.returns
returns c =
    ended (AreDims c.args.explore.now) c.args.numbers.now c.loop-number.number-index c.loop-number.dims (omega (arith, c.loop-number-test.false)) tt c.loop-number.invariant
