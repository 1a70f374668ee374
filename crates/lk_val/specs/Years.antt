-- The days and moments of the years 1 to 9999.
use Rattle.std.specs.Prelude.{Bool, ◌&&◌, ℤ, pos, neg_ℤ, ◌≤ℤ◌, int_le}

-- the first and the last day of these years, counted from 1970-01-01
abbrev pub first_day : ℤ
first_day = neg_ℤ (pos 719162)

abbrev pub last_day : ℤ
last_day = pos 2932896

-- the first and the last second of these days, counted from 1970-01-01 00:00:00 UTC
abbrev pub first_second : ℤ
first_second = neg_ℤ (pos 62135596800)

abbrev pub last_second : ℤ
last_second = pos 253402300799

-- a day of these years, and the test for it
abbrev pub IsDayInYears : ℤ → Type 0
IsDayInYears day = (first_day ≤ℤ day) × (day ≤ℤ last_day)

abbrev pub is_day_in_years : ℤ → Bool
is_day_in_years day = int_le first_day day && int_le day last_day

-- a second of these days, and the test for it
abbrev pub IsMomentInYears : ℤ → Type 0
IsMomentInYears moment = (first_second ≤ℤ moment) × (moment ≤ℤ last_second)

abbrev pub is_moment_in_years : ℤ → Bool
is_moment_in_years moment = int_le first_second moment && int_le moment last_second
