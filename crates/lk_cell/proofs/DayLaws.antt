-- The days and seconds that cells write are within the years 1 to 9999.
use Rattle.std.proofs.Common.{◌≡◌, ℕ, zero, suc, ◌+◌, ◌-◌, ◌*◌, ◌<◌, ◌≤◌, ◌==◌, Bool, true, false, cond, nat_le, nat_lt, ◌&&◌, List, [], ◌∷◌, slice_index, IfSome, Some, None, if◌then◌else◌, Option, pos, neg_ℤ, refl, sym, arith}
use Rattle.std.proofs.lemmas.Bool.{ltb-true}
use Rattle.std.proofs.lemmas.Bool.Decides.{nat_tests}
use Rattle.std.proofs.lemmas.Int.{ints}
use Rattle.std.specs.Char.{is_ascii_digit}
use Rattle.std.specs.List.{list_all}
use Rattle.lk_val.proofs.FractionSteps.{both, together, le-true}
use Rattle.lk_val.specs.declared.value.Value.TheVariants.{Day}
use Rattle.lk_types.specs.Calendar.{is_leap, year_start, days_before, month_start, from_1970}
use Rattle.lk_types.specs.Dates.{is_dated}
use Rattle.lk_cell.specs.Days.{two_digits, next_month, day_of_date, is_date, day_of, day_of_numbers, day_cell}

-- each item of a list is at most so much
within : (most : ℕ) (xs : List ℕ) (k : ℕ) → list_all (λ x. nat_le x most) xs ≡ true → slice_index xs k ≤ most
within most [] k h = omega arith
within most (x ∷ xs) zero h = grind (arith, nat_tests)
within most (x ∷ xs) (suc k) h = within most xs k (both (nat_le x most) (list_all (λ y. nat_le y most) xs) h).1

days_before-small : (month : ℕ) → days_before month ≤ 334
days_before-small month = within 334 (0 ∷ 31 ∷ 59 ∷ 90 ∷ 120 ∷ 151 ∷ 181 ∷ 212 ∷ 243 ∷ 273 ∷ 304 ∷ 334 ∷ []) (month - 1) refl

year_start-small : (year : ℕ) → year < 10000 → year_start year ≤ 3651694
year_start-small year h = omega arith

last_year : (year : ℕ) → year ≤ 10000 → year_start year ≤ 3652059
last_year year h = omega arith

leap_day : (b : Bool) → cond b 1 0 ≤ 1
leap_day true = omega arith
leap_day false = omega arith

next_month-small : (year month : ℕ) → year < 10000 → next_month year month ≤ 3652059
next_month-small year month h = by (month == 12)
  where
    by : (b : Bool) → cond b (year_start (year + 1)) (month_start year (month + 1)) ≤ 3652059
    by true = last_year (year + 1) (omega arith)
    by false = omega (arith, year_start-small year h, days_before-small (month + 1), leap_day (is_leap year && nat_lt 2 (month + 1)))

pub two_digits-small : (a b : ℕ) → IfSome (two_digits a b) (λ n. n < 100)
two_digits-small a b = by (is_ascii_digit a) (is_ascii_digit b) refl refl
  where
    by : (s t : Bool) → s ≡ is_ascii_digit a → t ≡ is_ascii_digit b → IfSome (if s && t then Some (10 * (a - 48) + (b - 48)) else None) (λ n. n < 100)
    by true true d e = grind (arith, nat_tests)
    by true false d e = tt
    by false t d e = tt

-- a day of 3,652,059 from 0001-01-01 on is of the years 1 to 9999
in_years : (n : ℕ) → n < 3652059 → is_dated (Day (from_1970 n)) ≡ true
in_years n h =
    let z = from_1970 n in
    together (le-true (neg_ℤ (pos 719162)) z (omega (arith, ints))) (le-true z (pos 2932896) (omega (arith, ints)))

before_next : (year month day : ℕ) → is_date year month day ≡ true → day_of_date year month day < next_month year month
before_next year month day e =
    let first = nat_le 1 year && (nat_le 1 month && nat_le month 12) in
    let last = nat_lt (day_of_date year month day) (next_month year month) in
    let ends : (nat_le 1 day && last) ≡ true = (both first (nat_le 1 day && last) e).1 in
    ltb-true (day_of_date year month day) (next_month year month) (both (nat_le 1 day) last ends).1

-- a date's day is one of the years
dated : (year month day : ℕ) → year < 10000 → IfSome (day_of year month day) (λ d. is_dated (Day d) ≡ true)
unfolding day_of
dated year month day h = by (is_date year month day) refl
  where
    by : (b : Bool) → b ≡ is_date year month day → IfSome (if b then Some (from_1970 (day_of_date year month day)) else None) (λ d. is_dated (Day d) ≡ true)
    by false e = tt
    by true e = in_years (day_of_date year month day) (omega (arith, before_next year month day (sym e), next_month-small year month h))

pub day_cell-dated : (text : List ℕ) → IfSome (day_cell text) (λ d. is_dated (Day d) ≡ true)
day_cell-dated (c ∷ e ∷ y ∷ r ∷ dash ∷ m ∷ n ∷ hyphen ∷ d ∷ g ∷ []) = by (dash == 45 && hyphen == 45)
  where
    numbers : (century year month day : Option ℕ) → IfSome century (λ k. k < 100) → IfSome year (λ k. k < 100) → IfSome (day_of_numbers century year month day) (λ d. is_dated (Day d) ≡ true)
    numbers (Some century) (Some year) (Some month) (Some day) small smaller = dated (100 * century + year) month day (omega arith)
    numbers century year month day small smaller = tt

    by : (b : Bool) → IfSome (if b then day_of_numbers (two_digits c e) (two_digits y r) (two_digits m n) (two_digits d g) else None) (λ d. is_dated (Day d) ≡ true)
    by true = numbers (two_digits c e) (two_digits y r) (two_digits m n) (two_digits d g) (two_digits-small c e) (two_digits-small y r)
    by false = tt
day_cell-dated text = tt
