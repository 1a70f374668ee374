use Rattle.std.proofs.Common.{◌≡◌, ◌∙◌, ◌+◌, ◌-◌, ◌<◌, length, arith}
use Rattle.lk_merge.proofs.HandedLaws.{backwards_step}
use Rattle.lk_merge.proofs.contributors.add_backwards.Goals as goal

pub loop-place-preserved : goal.loop-place-preserved
loop-place-preserved c =
    let ds = c.args.ds.now in
    let i = c.loop-place.place - 1 in
    let next : i + 1 ≡ c.loop-place.place = omega arith in
    let within : i < length ds = omega arith in
    backwards_step ds i c.loop-place.place c.index-ds-place.result c.loop-place.found.items c.push.new.self.items
    next within c.index-ds-place.is c.in_ok-push.ensures.items
    ∙ c.loop-place.invariant
