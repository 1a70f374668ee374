use Rattle.std.proofs.Common.{◌≡◌, ◌∙◌, ap, arith, w32, to_z, of_z}
use Rattle.std.proofs.lemmas.Int.{to_z-of_z}
use Rattle.jiff_core.proofs.SignedLemmas.{signed_arith}
use Rattle.lk_types.specs.Calendar.{day_of_moment}
use Rattle.lk_val.specs.declared.value.Value.TheVariants as value
use Rattle.lk_time.specs.FrameValues.{frame_value}
use Rattle.lk_time.proofs.FramingSteps.{moment_of_moment, day_of_moment-frame}
use Rattle.lk_time.proofs.framing.frame_moment.Goals as goal

pub returns-in-Raw-clause-value : goal.returns-in-Raw-clause-value
returns-in-Raw-clause-value c = simp (to_z-of_z, c.ranges.moment) (moment_of_moment c.args.f c.args.moment c.requires c.in-Raw.is)

pub returns-in_default-clause-value : goal.returns-in_default-clause-value
returns-in_default-clause-value c =
    let day = simp (to_z-of_z, c.ranges.moment) at c.day_of.ensures.day in
    let same : to_z w32 (of_z w32 c.day_of.result) ≡ day_of_moment c.args.moment = omega (arith, signed_arith, day, c.day_of.ensures.in_range) in
    c.frame_day.ensures.value ∙ ap (λ d. frame_value c.args.f (value.Day d)) same ∙ day_of_moment-frame c.args.f c.args.moment c.in_default.not-Raw c.in_default.not-Time c.in_default.not-HourOfDay
