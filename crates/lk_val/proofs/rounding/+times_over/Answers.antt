use Rattle.std.proofs.Common.{arith}
use Rattle.lk_val.proofs.RoundingSteps.{times-few, times-even, times-odd}
use Rattle.lk_val.proofs.rounding.+times_over.Goals as goal

pub returns-then-k-eq0-2-clause-whole : goal.returns-then-k-eq0-2-clause-whole
returns-then-k-eq0-2-clause-whole t c =
    let half = c.times_over-half.result in
    times-even c.args.k c.args.part c.args.by half.times half.rest c.plus-even.result.times c.plus-even.result.rest c.times_over-half.ensures.whole c.plus-even.ensures.whole (omega arith)

pub returns-then-k-eq0-2-clause-few : goal.returns-then-k-eq0-2-clause-few
returns-then-k-eq0-2-clause-few t c =
    times-few c.args.k c.args.part c.args.by c.plus-even.result.times c.plus-even.result.rest c.requires.below (returns-then-k-eq0-2-clause-whole t c)

pub returns-else-k-eq0-2-clause-whole : goal.returns-else-k-eq0-2-clause-whole
returns-else-k-eq0-2-clause-whole t c =
    let half = c.times_over-half.result in
    let even = c.plus-even.result in
    times-odd c.args.k c.args.part c.args.by half.times half.rest even.times even.rest c.plus.result.times c.plus.result.rest c.times_over-half.ensures.whole c.plus-even.ensures.whole c.plus.ensures.whole (omega arith)

pub returns-else-k-eq0-2-clause-few : goal.returns-else-k-eq0-2-clause-few
returns-else-k-eq0-2-clause-few t c =
    times-few c.args.k c.args.part c.args.by c.plus.result.times c.plus.result.rest c.requires.below (returns-else-k-eq0-2-clause-whole t c)
