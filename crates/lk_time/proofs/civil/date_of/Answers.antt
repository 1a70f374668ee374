use Rattle.std.proofs.Common.{arith}
use Rattle.std.proofs.lemmas.Int.{to_z-of_z}
use Rattle.jiff_core.proofs.CalendarLemmas.{days_in_month_bounds}
use Rattle.lk_time.proofs.CivilLaws.{date-HasParts}
use Rattle.lk_time.proofs.civil.date_of.Goals as goal

pub returns : goal.returns
returns c =
    let date = c.date_at.result in
    let epoch = simp (to_z-of_z, c.ranges.day) at c.date_at.ensures in
    let parts = date-HasParts date c.args.day epoch c.requires.0 in
    record {
      epoch = epoch;
      years = parts.years;
      year = parts.year;
      month = parts.month;
      day = parts.day_number;
      days = (date.day_in.0, omega (arith, date.day_in, days_in_month_bounds date.year date.month));
    }
