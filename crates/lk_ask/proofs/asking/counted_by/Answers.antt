use Rattle.std.proofs.Common.{of_z, refl, subst, to_z, w64}
use Rattle.std.proofs.lemmas.Int.{to_z-of_z}
use Rattle.std.specs.Prelude.{Err, Ok}
use Rattle.lk_filter.specs.PlacedModel.{placed_explore}
use Rattle.lk_ask.specs.Counts.{IsCounted}
use Rattle.lk_ask.specs.declared.fault.AskFault.TheVariants as fault
use Rattle.lk_ask.proofs.AskLaws.{many_is, told_is}
use Rattle.lk_ask.proofs.asking.counted_by.Goals as goal

pub returns-in-Ok : goal.returns-in-Ok
returns-in-Ok c =
    let b = c.args.plan.now.bound in
    let x = c.args.x.now in
    let s = c.args.sources.now in
    let counted = c.in-Ok.counted in
    let told = told_is (to_z w64 (of_z w64 c.args.now)) x s b b counted.rows counted.answer refl c.in-Ok.ensures.answer c.in-Ok.ensures.rows c.in-Ok.ensures.within in
    subst (λ now. IsCounted x (placed_explore now x) s b (Ok counted)) (to_z-of_z w64 c.args.now c.ranges.now) told

pub returns-in-Err-Many : goal.returns-in-Err-Many
returns-in-Err-Many c =
    let b = c.args.plan.now.bound in
    let x = c.args.x.now in
    let s = c.args.sources.now in
    let many = many_is (placed_explore (to_z w64 (of_z w64 c.args.now)) x) s b b refl (c.in-Err-Many.ensures.many c.in-Err-Many.field-0-is) in
    subst (λ now. IsCounted x (placed_explore now x) s b (Err fault.Q10)) (to_z-of_z w64 c.args.now c.ranges.now) many
