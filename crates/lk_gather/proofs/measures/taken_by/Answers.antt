use Rattle.std.proofs.Common.{arith, of_z, subst, to_z, w64}
use Rattle.std.proofs.lemmas.Int.{to_z-of_z}
use Rattle.lk_filter.specs.PlacedModel.{placed_explore}
use Rattle.lk_gather.specs.Measures.{AreTaken}
use Rattle.lk_gather.proofs.EndLaws.{ended, going}
use Rattle.lk_gather.proofs.MeasureLaws.{taken_placed}
use Rattle.lk_gather.proofs.measures.taken_by.Goals as goal

pub loop-number-preserved : goal.loop-number-preserved
loop-number-preserved c =
    let now = to_z w64 (of_z w64 c.args.now) in
    let x = c.args.explore.now in
    going (AreTaken (placed_explore now x)) c.args.numbers.now c.loop-number.number-index 0 c.loop-number.taken c.push.new.self c.in_ok-taken_at.field-0
    (omega (arith, c.loop-number-test.true)) c.in_ok-push.ensures.ok (λ more rest. (taken_placed now x _ c.in_ok-taken_at.field-0 c.in_ok-taken_at.ensures, rest)) c.loop-number.invariant

pub returns : goal.returns
returns c =
    subst (λ now. AreTaken (placed_explore now c.args.explore.now) c.args.numbers.now c.loop-number.taken) (to_z-of_z w64 c.args.now c.ranges.now)
    (ended (AreTaken (placed_explore (to_z w64 (of_z w64 c.args.now)) c.args.explore.now)) c.args.numbers.now c.loop-number.number-index c.loop-number.taken
    (omega (arith, c.loop-number-test.false)) tt c.loop-number.invariant)
