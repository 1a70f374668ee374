-- The calendar of the definitions is that of civil dates.
use Rattle.std.proofs.Common.{◌≡◌, ℕ, zero, suc, ◌+◌, ◌-◌, ◌%◌, ◌<◌, ◌≤◌, [], ◌∷◌, refl, sym, ◌∙◌, arith, ℤ, pos, negsuc, ◌+ℤ◌, ◌≤ℤ◌, neg_ℤ, unsigned_abs}
use Rattle.std.specs.Prelude.{nat_le, count_by}
use Rattle.std.proofs.lemmas.Bool.Decides.{nat_tests}
use Rattle.std.proofs.lemmas.Int.{by_lt_z}
use Rattle.jiff_core.specs.Calendar.{day_count, days_of_years, days_of_months, days_from_civil, IsCivilDate, weekday_number}
use Rattle.jiff_core.proofs.SignedLemmas.{signed_arith}
use Rattle.jiff_core.proofs.MarchLemmas.{leap_day, leap_day-shift, days_in_year-leap_day, days_of_years-suc, days_of_years-march_days}
use Rattle.jiff_core.proofs.CalendarLemmas.{days_from_civil-day_count, days_of_months-zero, days_of_months_table, days_of_months_mono, days_in_month_bounds, days_of_months_more, days_of_months_all, days_in_year_bounds, day_of_year_before, day_of_year_bound, day_count-day_of_year, day_count-lt_year, weekday_number-parts}
use Rattle.jiff_core.specs.Date.{epoch_day}
use Rattle.jiff_core.specs.declared.civil.date.Date.{Date}
use Rattle.jiff_core.proofs.DateLemmas.{civil}
use Rattle.lk_types.specs.Calendar.{from_year_one, from_1970, year_of, year_start, month_of, month_start, day_of_month}
use Rattle.lk_time.proofs.YearLaws.{year_of-IsInYear, only_year}

-- a civil date of a year from 1 on is day n from 0001-01-01
pub record IsCivilDay (y m d n : ℕ) : Type 0 where
  pub year : 1 ≤ y
  pub civil : IsCivilDate (pos y) m d
  pub day : n + 1 ≡ month_start y m + d

-- the days before a year, from the year -10000 and from the year 1
days_of_years-year_start : (y : ℕ) → 1 ≤ y → days_of_years (y + 10000) ≡ year_start y + 3652791
days_of_years-year_start zero h = absurd (omega arith)
days_of_years-year_start (suc k) h =
    let next : suc k + 10000 ≡ suc (k + 10000) = omega arith in
    rw next (omega (arith, days_of_years-suc (k + 10000), days_of_years-march_days (k + 10000)))

-- the days before a month
pub month_start-days_of_months : (y m : ℕ) → 1 ≤ m → m ≤ 12 → month_start y m ≡ year_start y + days_of_months (pos y) (m - 1)
month_start-days_of_months y zero l h = absurd (omega arith)
month_start-days_of_months y (suc zero) l h = grind (arith, days_of_months_table (pos y) 0 (omega arith))
month_start-days_of_months y (suc (suc zero)) l h = grind (arith, days_of_months_table (pos y) 1 (omega arith))
month_start-days_of_months y (suc (suc (suc zero))) l h = grind (arith, days_of_months_table (pos y) 2 (omega arith))
month_start-days_of_months y (suc (suc (suc (suc zero)))) l h = grind (arith, days_of_months_table (pos y) 3 (omega arith))
month_start-days_of_months y (suc (suc (suc (suc (suc zero))))) l h = grind (arith, days_of_months_table (pos y) 4 (omega arith))
month_start-days_of_months y (suc (suc (suc (suc (suc (suc zero)))))) l h = grind (arith, days_of_months_table (pos y) 5 (omega arith))
month_start-days_of_months y (suc (suc (suc (suc (suc (suc (suc zero))))))) l h = grind (arith, days_of_months_table (pos y) 6 (omega arith))
month_start-days_of_months y (suc (suc (suc (suc (suc (suc (suc (suc zero)))))))) l h = grind (arith, days_of_months_table (pos y) 7 (omega arith))
month_start-days_of_months y (suc (suc (suc (suc (suc (suc (suc (suc (suc zero))))))))) l h = grind (arith, days_of_months_table (pos y) 8 (omega arith))
month_start-days_of_months y (suc (suc (suc (suc (suc (suc (suc (suc (suc (suc zero)))))))))) l h = grind (arith, days_of_months_table (pos y) 9 (omega arith))
month_start-days_of_months y (suc (suc (suc (suc (suc (suc (suc (suc (suc (suc (suc zero))))))))))) l h = grind (arith, days_of_months_table (pos y) 10 (omega arith))
month_start-days_of_months y (suc (suc (suc (suc (suc (suc (suc (suc (suc (suc (suc (suc zero)))))))))))) l h = grind (arith, days_of_months_table (pos y) 11 (omega arith))
month_start-days_of_months y (suc (suc (suc (suc (suc (suc (suc (suc (suc (suc (suc (suc (suc n))))))))))))) l h = absurd (omega arith)

day_count-year : (y : ℕ) → day_count (pos y) 1 1 ≡ days_of_years (y + 10000)
unfolding day_count
day_count-year y = omega (arith, days_of_months-zero (pos y))

day_count-month_start : (y m d : ℕ) → 1 ≤ y → 1 ≤ m → m ≤ 12 → 1 ≤ d → day_count (pos y) m d + 1 ≡ month_start y m + d + 3652791
day_count-month_start y m d year low high first =
    omega (arith, day_count-day_of_year (pos y) m d first, day_count-year y, days_of_years-year_start y year, month_start-days_of_months y m low high)

nonnegative : (z : ℤ) → pos 0 ≤ℤ z → pos (unsigned_abs z) ≡ z
nonnegative (pos n) h = refl
nonnegative (negsuc n) h = absurd (omega (arith, signed_arith))

-- a day from 0001-01-01 on, counted from there
pub from_year_one-pos : (z : ℤ) → neg_ℤ (pos 719162) ≤ℤ z → pos (from_year_one z) ≡ z +ℤ pos 719162
unfolding from_year_one
from_year_one-pos z low = nonnegative (z +ℤ pos 719162) (omega (arith, signed_arith))

-- the number of a civil date from 0001-01-01
pub from_year_one-civil : (y m d : ℕ) → 1 ≤ y → IsCivilDate (pos y) m d → IsCivilDay y m d (from_year_one (days_from_civil (pos y) m d))
from_year_one-civil y m d year civil =
    let count = days_from_civil-day_count (pos y) m d in
    let start = day_count-month_start y m d year civil.1.0 civil.1.1 civil.2.0 in
    let n = from_year_one-pos (days_from_civil (pos y) m d) (omega (arith, signed_arith, count, start)) in
    record { year = year; civil = civil; day = omega (arith, signed_arith, count, start, n) }

-- the year after
year_start-next : (y : ℕ) → 1 ≤ y → year_start (y + 1) ≡ year_start y + 365 + leap_day (pos y)
year_start-next y h =
    let next : y + 1 + 10000 ≡ suc (y + 10000) = omega arith in
    omega (arith, days_of_years-year_start y h, rw next at (days_of_years-year_start (y + 1) (omega arith)), days_of_years-suc (y + 10000), leap_day-shift (pos y) (y + 10000) refl)

pub year_of-IsCivilDay : {y m d n : ℕ} → IsCivilDay y m d n → year_of n ≡ y
year_of-IsCivilDay {y} {m} {d} {n} is =
    let start = month_start-days_of_months y m is.civil.1.0 is.civil.1.1 in
    only_year n (year_of n) y (year_of-IsInYear n) (record {
      from = omega (arith, start, is.day, is.civil.2.0);
      before = omega (arith, start, is.day, day_of_year_bound (pos y) m d is.civil, days_in_year-leap_day (pos y), year_start-next y is.year);
    })

-- a month has begun exactly if it is the day's month or one before it
same_test : (a n k m : ℕ) → (k ≤ m → a ≤ n) → (m < k → n < a) → nat_le a n ≡ nat_le k m
same_test a n k m le lt = grind (arith, nat_tests)

has_begun : {y m d n : ℕ} → IsCivilDay y m d n → (k : ℕ) → 1 ≤ k → k ≤ 12 → nat_le (month_start y k) n ≡ nat_le k m
has_begun {y} {m} {d} {n} is k low high =
    let start = month_start-days_of_months y m is.civil.1.0 is.civil.1.1 in
    let of_k = month_start-days_of_months y k low high in
    same_test (month_start y k) n k m
    (λ le. omega (arith, start, of_k, is.day, is.civil.2.0, days_of_months_mono (pos y) (k - 1) (m - 1) (omega arith)))
    (λ lt. omega (arith, start, of_k, is.day, day_of_year_before (pos y) m d (k - 1) is.civil.1.0 is.civil.2.1 (omega arith)))

count_upto : (m : ℕ) → 1 ≤ m → m ≤ 12 → count_by (λ k. nat_le k m) (1 ∷ 2 ∷ 3 ∷ 4 ∷ 5 ∷ 6 ∷ 7 ∷ 8 ∷ 9 ∷ 10 ∷ 11 ∷ 12 ∷ []) ≡ m
count_upto m low high = grind (arith, nat_tests)

pub month_of-IsCivilDay : {y m d n : ℕ} → IsCivilDay y m d n → month_of y n ≡ m
unfolding month_of
month_of-IsCivilDay {y} {m} {d} {n} is =
    let b = has_begun is in
    rw (b 1 (omega arith) (omega arith), b 2 (omega arith) (omega arith), b 3 (omega arith) (omega arith), b 4 (omega arith) (omega arith), b 5 (omega arith) (omega arith), b 6 (omega arith) (omega arith), b 7 (omega arith) (omega arith), b 8 (omega arith) (omega arith), b 9 (omega arith) (omega arith), b 10 (omega arith) (omega arith), b 11 (omega arith) (omega arith), b 12 (omega arith) (omega arith))
    (count_upto m is.civil.1.0 is.civil.1.1)

pub day_of_month-IsCivilDay : {y m d n : ℕ} → IsCivilDay y m d n → day_of_month n ≡ d
unfolding day_of_month
day_of_month-IsCivilDay {y} {m} {d} {n} is = rw (year_of-IsCivilDay is, month_of-IsCivilDay is) (omega (arith, is.day, is.civil.2.0))

-- a year from 1 on is no negative number
pub year_pos : (z : ℤ) → pos 1 ≤ℤ z → pos (unsigned_abs z) ≡ z
year_pos z h = nonnegative z (omega (arith, signed_arith))

pub date-IsCivilDay : (z : ℤ) (m d : ℕ) → pos 1 ≤ℤ z → IsCivilDate z m d → IsCivilDay (unsigned_abs z) m d (from_year_one (days_from_civil z m d))
date-IsCivilDay (pos y) m d h civil = from_year_one-civil y m d (omega (arith, signed_arith)) civil
date-IsCivilDay (negsuc y) m d h civil = absurd (omega (arith, signed_arith))

-- the dates before the year 1 are those with a smaller number than its first day
pub year-from_one : (z : ℤ) (m d : ℕ) → IsCivilDate z m d → neg_ℤ (pos 719162) ≤ℤ days_from_civil z m d → pos 1 ≤ℤ z
year-from_one z m d civil low =
    by_lt_z z (pos 1)
    (λ lt. absurd (omega (arith, signed_arith, days_from_civil-day_count z m d, day_count-lt_year z m d (pos 1) 1 1 civil (omega arith) lt, day_count-month_start 1 1 1 (omega arith) (omega arith) (omega arith) (omega arith))))
    (λ le. le)

-- 0001-01-01 was a Monday
pub weekday-civil : (z : ℤ) → neg_ℤ (pos 719162) ≤ℤ z → from_year_one z % 7 ≡ weekday_number z
weekday-civil z low = omega (arith, signed_arith, from_year_one-pos z low, weekday_number-parts z)

-- a date of a year from 1 on is not before 0001-01-01
pub date-from_year_one : (z : ℤ) (m d : ℕ) → pos 1 ≤ℤ z → IsCivilDate z m d → neg_ℤ (pos 719162) ≤ℤ days_from_civil z m d
date-from_year_one (pos y) m d h civil =
    omega (arith, signed_arith, days_from_civil-day_count (pos y) m d, day_count-month_start y m d (omega (arith, signed_arith)) civil.1.0 civil.1.1 civil.2.0)
date-from_year_one (negsuc y) m d h civil = absurd (omega (arith, signed_arith))

-- the date of a day from 0001-01-01 on has the definitions' year, month and day
pub record HasParts (date : Date) (day : ℤ) : Type 0 where
  pub years : pos 1 ≤ℤ date.year
  pub year : date.year ≡ pos (year_of (from_year_one day))
  pub month : date.month ≡ month_of (year_of (from_year_one day)) (from_year_one day)
  pub day_number : date.day ≡ day_of_month (from_year_one day)

pub date-HasParts : (date : Date) (day : ℤ) → epoch_day date ≡ day → neg_ℤ (pos 719162) ≤ℤ day → HasParts date day
date-HasParts date day e low =
    let from : pos 1 ≤ℤ date.year = year-from_one date.year date.month date.day (civil date) (rw e low) in
    let is : IsCivilDay (unsigned_abs date.year) date.month date.day (from_year_one day) = rw e at (date-IsCivilDay date.year date.month date.day from (civil date)) in
    let year : year_of (from_year_one day) ≡ unsigned_abs date.year = year_of-IsCivilDay is in
    record {
      years = from;
      year = rw year (sym (year_pos date.year from));
      month = rw year (sym (month_of-IsCivilDay is));
      day_number = sym (day_of_month-IsCivilDay is);
    }

-- the first day of a month
pub first-IsCivilDay : (y m : ℕ) → 1 ≤ y → y ≤ 9999 → 1 ≤ m → m ≤ 12 → IsCivilDay y m 1 (month_start y m)
first-IsCivilDay y m from to low high = record {
  year = from;
  civil = ((omega (arith, signed_arith), omega (arith, signed_arith)), (low, high), (omega arith, omega (arith, days_in_month_bounds (pos y) m)));
  day = refl;
}

-- its number
pub first-from_1970 : (year : ℤ) (m : ℕ) → pos 1 ≤ℤ year → 1 ≤ m → m ≤ 12 → days_from_civil year m 1 ≡ from_1970 (month_start (unsigned_abs year) m)
first-from_1970 (negsuc y) m from low high = absurd (omega (arith, signed_arith))
first-from_1970 (pos y) m from low high =
    omega (arith, signed_arith, days_from_civil-day_count (pos y) m 1, day_count-month_start y m 1 (omega (arith, signed_arith)) low high (omega arith))

pub month_start-bound : (y m : ℕ) → 1 ≤ y → y ≤ 9999 → 1 ≤ m → m ≤ 12 → month_start y m ≤ 3652058
month_start-bound y m from to low high =
    omega (arith, month_start-days_of_months y m low high, days_of_months_mono (pos y) (m - 1) 11 (omega arith), days_of_months_more (pos y) 12 (omega arith), days_in_month_bounds (pos y) 12, days_of_months_all (pos y), days_in_year_bounds (pos y))

-- a date on the first day of a month has its number
pub first-date : (date : Date) (day year : ℤ) (m : ℕ) → day ≡ epoch_day date → date.year ≡ year → date.month ≡ m → date.day ≡ 1 → pos 1 ≤ℤ year → 1 ≤ m → m ≤ 12 → day ≡ from_1970 (month_start (unsigned_abs year) m)
first-date date day year m e same_year same_month same_day from low high =
    e ∙ rw (same_year, same_month, same_day) (first-from_1970 year m from low high)
