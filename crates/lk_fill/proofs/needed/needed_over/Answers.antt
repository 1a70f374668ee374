use Rattle.std.proofs.Common.{◌≡◌, ◌+◌, ◌-◌, ◌<◌, arith, length}
use Rattle.lk_fill.proofs.FillLaws.{needed_next}
use Rattle.lk_fill.proofs.needed.needed_over.Goals as goal

pub loop-place-preserved : goal.loop-place-preserved
loop-place-preserved c =
    let order = c.args.order.now in
    let i = c.loop-place.place - 1 in
    let next : i + 1 ≡ c.loop-place.place = omega arith in
    let within : i < length order = omega arith in
    needed_next c.args.m.now c.args.at_hand.now c.args.wanted.now order i c.loop-place.place c.loop-place.needed c.add_reads.new.needed
    next within c.loop-place.invariant c.in_ok-add_reads.ensures
