-- The number of a civil date among the days of the definitions, which count from 0001-01-01.
use Rattle.std.specs.Prelude.{ℕ, pos, ◌≤ℤ◌}
use Rattle.jiff_core.specs.Date.{epoch_day}
use Rattle.jiff_core.specs.declared.civil.date.Date.{Date}
use Rattle.lk_types.specs.Calendar.{from_year_one}

-- the date is not before 0001-01-01
abbrev pub IsFromYearOne : Date → Type 0
IsFromYearOne date = pos 1 ≤ℤ date.year

-- the days from 0001-01-01 to the date
abbrev pub day_of_date : Date → ℕ
day_of_date date = from_year_one (epoch_day date)
