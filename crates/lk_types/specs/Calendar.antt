-- Days of the Gregorian calendar. A day counts from 1970-01-01 in a value, and here from 0001-01-01.
use Rattle.std.specs.Prelude.{ℕ, ◌+◌, ◌-◌, ◌*◌, ◌/◌, ◌%◌, ◌==◌, nat_le, nat_lt, not, Bool, ◌&&◌, ◌||◌, if◌then◌else◌, ℤ, pos, ◌+ℤ◌, ◌-ℤ◌, ◌*ℤ◌, unsigned_abs, [], ◌∷◌, slice_index, count_by}
use Rattle.std.specs.Int.{int_div_euclid, int_rem_euclid}

-- a day from 1970-01-01 as one from 0001-01-01
unfoldable pub from_year_one : ℤ → ℕ
from_year_one day = unsigned_abs (day +ℤ pos 719162)

-- a day from 0001-01-01 as one from 1970-01-01
abbrev pub from_1970 : ℕ → ℤ
from_1970 day = pos day -ℤ pos 719162

-- the first second of a day, both from 1970-01-01
abbrev pub midnight : ℤ → ℤ
midnight day = day *ℤ pos 86400

-- the day and the second of the day of a moment
unfoldable pub day_of_moment : ℤ → ℤ
day_of_moment moment = int_div_euclid moment (pos 86400)

-- the second of its day that a moment is
unfoldable pub second_of_moment : ℤ → ℕ
second_of_moment moment = unsigned_abs (int_rem_euclid moment (pos 86400))

-- each fourth year, but of the centuries only each fourth
abbrev pub is_leap : ℕ → Bool
is_leap year = (year % 4 == 0) && (not (year % 100 == 0) || (year % 400 == 0))

-- the first day of a year
abbrev pub year_start : ℕ → ℕ
year_start year = 365 * (year - 1) + (year - 1) / 4 - (year - 1) / 100 + (year - 1) / 400

-- the year that a day is in: the mean length of a year leaves three, of which the last that has begun is it
unfoldable pub year_of : ℕ → ℕ
year_of day =
    let guess = day * 400 / 146097 + 1 in
    if nat_le (year_start (guess + 1)) day then guess + 1 else (if nat_le (year_start guess) day then guess else guess - 1)

-- the days of a year that isn't a leap year before each month
abbrev pub days_before : ℕ → ℕ
days_before month = slice_index (0 ∷ 31 ∷ 59 ∷ 90 ∷ 120 ∷ 151 ∷ 181 ∷ 212 ∷ 243 ∷ 273 ∷ 304 ∷ 334 ∷ []) (month - 1)

-- the first day of a month of a year
abbrev pub month_start : ℕ → ℕ → ℕ
month_start year month = year_start year + days_before month + (if is_leap year && nat_lt 2 month then 1 else 0)

-- the month that a day of a year is in: as many as have begun
unfoldable pub month_of : ℕ → ℕ → ℕ
month_of year day = count_by (λ month. nat_le (month_start year month) day) (1 ∷ 2 ∷ 3 ∷ 4 ∷ 5 ∷ 6 ∷ 7 ∷ 8 ∷ 9 ∷ 10 ∷ 11 ∷ 12 ∷ [])

-- the day of its month that a day is
unfoldable pub day_of_month : ℕ → ℕ
day_of_month day = day - month_start (year_of day) (month_of (year_of day) day) + 1
