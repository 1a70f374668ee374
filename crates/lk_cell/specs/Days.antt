-- How a cell reads as a day: `YYYY-MM-DD`, a day of the Gregorian calendar (ISO 8601).
use Rattle.std.specs.Prelude.{ℕ, ◌+◌, ◌-◌, ◌*◌, ◌==◌, nat_le, nat_lt, Bool, ◌&&◌, if◌then◌else◌, ℤ, List, [], ◌∷◌, Option, Some, None}
use Rattle.std.specs.Char.{is_ascii_digit}
use Rattle.lk_types.specs.Calendar.{from_1970, year_start, month_start}

-- the number that two characters write, where both are digits
abbrev pub two_digits : ℕ → ℕ → Option ℕ
two_digits a b = if is_ascii_digit a && is_ascii_digit b then Some (10 * (a - 48) + (b - 48)) else None

-- the first day of the month after a month
abbrev pub next_month : ℕ → ℕ → ℕ
next_month year month = if month == 12 then year_start (year + 1) else month_start year (month + 1)

-- the day of a date, from 0001-01-01; the days of a month count from 1
abbrev pub day_of_date : ℕ → ℕ → ℕ → ℕ
day_of_date year month day = month_start year month + (day - 1)

-- the year is from 1 on, it has the month, and the month has the day: it comes before the next month
abbrev pub is_date : ℕ → ℕ → ℕ → Bool
is_date year month day =
    nat_le 1 year && (nat_le 1 month && nat_le month 12) && (nat_le 1 day && nat_lt (day_of_date year month day) (next_month year month))

-- the day of a date, from 1970-01-01, where there is such a date
unfoldable pub day_of : ℕ → ℕ → ℕ → Option ℤ
day_of year month day = if is_date year month day then Some (from_1970 (day_of_date year month day)) else None

-- the day of a century, a year of it, a month and a day, where each of them is a number
abbrev pub day_of_numbers : Option ℕ → Option ℕ → Option ℕ → Option ℕ → Option ℤ
day_of_numbers (Some century) (Some year) (Some month) (Some day) = day_of (100 * century + year) month day
day_of_numbers century year month day = None

-- the day that a cell writes, from 1970-01-01: ten characters, of which the fifth and the eighth are `-`
abbrev pub day_cell : List ℕ → Option ℤ
day_cell (c ∷ e ∷ y ∷ r ∷ dash ∷ m ∷ n ∷ hyphen ∷ d ∷ g ∷ []) =
    if dash == 45 && hyphen == 45 then day_of_numbers (two_digits c e) (two_digits y r) (two_digits m n) (two_digits d g) else None
day_cell text = None
