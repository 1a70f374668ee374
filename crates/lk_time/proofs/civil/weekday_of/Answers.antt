use Rattle.std.proofs.Common.{◌∙◌, ap, sym}
use Rattle.std.proofs.lemmas.Int.{to_z-of_z}
use Rattle.jiff_core.specs.Calendar.{weekday_number}
use Rattle.lk_time.proofs.CivilLaws.{weekday-civil}
use Rattle.lk_time.proofs.civil.weekday_of.Goals as goal

pub returns : goal.returns
returns c =
    let epoch = simp (to_z-of_z, c.ranges.day) at c.date_of.ensures.epoch in
    c.weekday.ensures ∙ ap weekday_number epoch ∙ sym (weekday-civil c.args.day c.requires.0)
