use Rattle.std.proofs.Common.{◌≡◌, arith}
use Rattle.std.proofs.lemmas.Int.{to_z-of_z}
use Rattle.jiff_core.proofs.CalendarLemmas.{days_in_month_bounds}
use Rattle.jiff_core.proofs.SignedLemmas.{signed_arith}
use Rattle.lk_time.proofs.CivilLaws.{first-date}
use Rattle.lk_time.proofs.civil.first_day.Goals as goal

pub returns : goal.returns
returns c =
    let date = c.constrain.result in
    let year : date.year ≡ c.args.year = simp (to_z-of_z, c.ranges.year) at c.constrain.ensures.year in
    let day : date.day ≡ 1 = omega (arith, c.constrain.ensures.day, days_in_month_bounds) in
    let start = first-date date c.to_unix_epoch_day.result c.args.year c.args.month c.to_unix_epoch_day.ensures.value year c.constrain.ensures.month day c.requires.first c.requires.month.0 c.requires.month.1 in
    record {
      start = omega (arith, signed_arith, start, c.to_unix_epoch_day.type_inv);
      in_range = (omega (arith, signed_arith, start, c.to_unix_epoch_day.type_inv), omega (arith, signed_arith, c.to_unix_epoch_day.ensures.bound, c.to_unix_epoch_day.type_inv));
    }
