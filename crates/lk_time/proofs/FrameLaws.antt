-- A timeframe of a timeframe is the timeframe, wherever the one is had from the other.
use Rattle.std.proofs.Common.{◌≡◌, ℕ, ◌<◌, ◌≤◌, [], ◌∷◌, arith, ℤ, pos, neg_ℤ, ◌+ℤ◌, ◌≤ℤ◌}
use Rattle.std.specs.Prelude.{nat_le}
use Rattle.std.proofs.lemmas.Bool.Decides.{nat_tests}
use Rattle.std.proofs.lemmas.List.Sums.{count_by-le-length}
use Rattle.jiff_core.proofs.SignedLemmas.{signed_arith, int_div_euclid-parts, int_rem_euclid-parts}
use Rattle.lk_types.specs.Calendar.{from_year_one, from_1970, midnight, day_of_moment, second_of_moment, year_of, year_start, month_of, month_start}
use Rattle.lk_val.specs.Years.{IsDayInYears, IsMomentInYears}
use Rattle.lk_time.proofs.YearLaws.{year_of-range}
use Rattle.lk_time.proofs.CivilLaws.{IsCivilDay, from_year_one-pos, first-IsCivilDay}

-- ---- days and moments in range

-- a day counted from 0001-01-01 and back
pub from_year_one-from_1970 : (n : ℕ) → from_year_one (from_1970 n) ≡ n
from_year_one-from_1970 n = omega (arith, signed_arith, from_year_one-pos (from_1970 n) (omega (arith, signed_arith)))

pub from_1970-from_year_one : (day : ℤ) → neg_ℤ (pos 719162) ≤ℤ day → from_1970 (from_year_one day) ≡ day
from_1970-from_year_one day low = omega (arith, signed_arith, from_year_one-pos day low)

pub from_year_one-bound : (day : ℤ) → IsDayInYears day → from_year_one day ≤ 3652058
from_year_one-bound day is = omega (arith, signed_arith, from_year_one-pos day is.0, is.1)

-- a moment is its day's midnight and its second
pub moment-parts : (m : ℤ) → midnight (day_of_moment m) +ℤ pos (second_of_moment m) ≡ m
unfolding day_of_moment second_of_moment
moment-parts m = omega (arith, signed_arith, int_div_euclid-parts m 86400 (omega arith), int_rem_euclid-parts m 86400 (omega arith))

pub day_of_moment-range : (m : ℤ) → IsMomentInYears m → IsDayInYears (day_of_moment m)
unfolding day_of_moment
day_of_moment-range m is = (omega (arith, signed_arith, int_div_euclid-parts m 86400 (omega arith), is.0), omega (arith, signed_arith, int_div_euclid-parts m 86400 (omega arith), is.1))

pub second_of_moment-bound : (m : ℤ) → second_of_moment m < 86400
unfolding second_of_moment
second_of_moment-bound m = omega (arith, signed_arith, int_rem_euclid-parts m 86400 (omega arith))

pub day_of_moment-midnight : (day : ℤ) (s : ℕ) → s < 86400 → day_of_moment (midnight day +ℤ pos s) ≡ day
unfolding day_of_moment
day_of_moment-midnight day s h = omega (arith, signed_arith, int_div_euclid-parts (midnight day +ℤ pos s) 86400 (omega arith))

pub second_of_moment-midnight : (day : ℤ) (s : ℕ) → s < 86400 → second_of_moment (midnight day +ℤ pos s) ≡ s
unfolding second_of_moment
second_of_moment-midnight day s h = omega (arith, signed_arith, int_div_euclid-parts (midnight day +ℤ pos s) 86400 (omega arith), int_rem_euclid-parts (midnight day +ℤ pos s) 86400 (omega arith))

-- ---- months

pub month_of-range : (y n : ℕ) → year_start y ≤ n → (1 ≤ month_of y n) × (month_of y n ≤ 12)
unfolding month_of
month_of-range y n h =
    let first : month_start y 1 ≤ n = grind (arith, nat_tests) in
    (grind (arith, nat_tests), count_by-le-length (λ month. nat_le (month_start y month) n) (1 ∷ 2 ∷ 3 ∷ 4 ∷ 5 ∷ 6 ∷ 7 ∷ 8 ∷ 9 ∷ 10 ∷ 11 ∷ 12 ∷ []))

-- the first day of a month of a day's year is in that month
pub first-of : (n m : ℕ) → n ≤ 3652058 → 1 ≤ m → m ≤ 12 → IsCivilDay (year_of n) m 1 (month_start (year_of n) m)
first-of n m h low high = let range = year_of-range n h in first-IsCivilDay (year_of n) m range.0 range.1 low high
