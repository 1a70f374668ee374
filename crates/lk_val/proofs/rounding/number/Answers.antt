use Rattle.std.proofs.Common.{arith}
use Rattle.lk_val.proofs.RoundingSteps.{signed-low, signed-least, signed-below, signed-above, signed-high}
use Rattle.lk_val.proofs.rounding.number.Goals as goal

pub returns-then-size-gt9223372036854775808 : goal.returns-then-size-gt9223372036854775808
returns-then-size-gt9223372036854775808 c = rw c.if-negative.true (signed-low c.args.size (omega arith))

pub returns-then-size-eq9223372036854775808 : goal.returns-then-size-eq9223372036854775808
returns-then-size-eq9223372036854775808 c = rw c.if-negative.true (signed-least c.args.size (omega arith))

pub returns-else-size-eq9223372036854775808 : goal.returns-else-size-eq9223372036854775808
returns-else-size-eq9223372036854775808 c = rw c.if-negative.true (signed-below c.args.size (omega arith))

pub returns-then-size-lt9223372036854775808 : goal.returns-then-size-lt9223372036854775808
returns-then-size-lt9223372036854775808 c = rw c.if-negative.false (signed-above c.args.size (omega arith))

pub returns-else-size-lt9223372036854775808 : goal.returns-else-size-lt9223372036854775808
returns-else-size-lt9223372036854775808 c = rw c.if-negative.false (signed-high c.args.size (omega arith))
