use Rattle.std.proofs.Common.{◌≡◌, arith}
use Rattle.std.proofs.lemmas.Int.{to_z-of_z}
use Rattle.jiff_core.proofs.SignedLemmas.{signed_arith}
use Rattle.lk_time.proofs.FramingSteps.{day_of_day, time_of_day}
use Rattle.lk_time.proofs.framing.frame_day.Goals as goal

pub returns-in-Raw-clause-value : goal.returns-in-Raw-clause-value
returns-in-Raw-clause-value c = simp (to_z-of_z, c.ranges.day) (day_of_day c.args.f c.args.day c.requires c.in-Raw.is)

pub returns-in-Time-clause-value : goal.returns-in-Time-clause-value
returns-in-Time-clause-value c =
    let day : c.from.result ≡ c.args.day = simp (to_z-of_z, c.ranges.day) at c.from.ensures in
    rw c.in-Time.is (time_of_day c.args.day _ c.requires (omega (arith, signed_arith, day, c.requires)))
