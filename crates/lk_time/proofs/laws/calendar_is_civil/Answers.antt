use Rattle.std.proofs.Common.{ap, ◌∙◌, pos}
use Rattle.jiff_core.proofs.DateLemmas.{civil}
use Rattle.lk_time.proofs.CivilLaws.{date-IsCivilDay, year_pos, year_of-IsCivilDay, month_of-IsCivilDay, day_of_month-IsCivilDay, year-from_one, weekday-civil, date-from_year_one}
use Rattle.lk_time.proofs.laws.calendar_is_civil.Goals as goal

pub returns-clause-year : goal.returns-clause-year
returns-clause-year c = λ date h. ap pos (year_of-IsCivilDay (date-IsCivilDay date.year date.month date.day h (civil date))) ∙ year_pos date.year h

pub returns-clause-month : goal.returns-clause-month
returns-clause-month c = λ date h.
    let is = date-IsCivilDay date.year date.month date.day h (civil date) in
    rw (year_of-IsCivilDay is) (month_of-IsCivilDay is)

pub returns-clause-day : goal.returns-clause-day
returns-clause-day c = λ date h. day_of_month-IsCivilDay (date-IsCivilDay date.year date.month date.day h (civil date))

pub returns-clause-weekday : goal.returns-clause-weekday
returns-clause-weekday c = λ date h. weekday-civil _ (date-from_year_one date.year date.month date.day h (civil date))

pub returns-clause-first : goal.returns-clause-first
returns-clause-first c = λ date low. year-from_one date.year date.month date.day (civil date) low
