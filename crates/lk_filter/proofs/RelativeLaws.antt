-- A day passes a relative date exactly by the number of its unit beside today's.
use Rattle.std.proofs.Common.{◌≡◌, ◌∙◌, ℕ, ◌+◌, ◌-◌, ◌<◌, ◌≤◌, ◌&&◌, arith, ⊎_elim}
use Rattle.std.specs.Prelude.{int_le, int_lt, min, nat_le, nat_lt, ◌==◌}
use Rattle.std.proofs.lemmas.Int.{ints}
use Rattle.std.proofs.lemmas.Bool.{cases_lt}
use Rattle.std.proofs.lemmas.Bool.Decides.{nat_tests}
use Rattle.lk_types.specs.Calendar.{from_1970}
use Rattle.lk_types.specs.Filters.{unit_of, unit_start, days_of_units, day_meets, placed_test}
use Rattle.lk_types.specs.declared.filter.Period.{Period}
use Rattle.lk_types.specs.declared.filter.Period.TheVariants.{Day}
use Rattle.lk_types.specs.declared.filter.Test.TheVariants as test
use Rattle.lk_filter.proofs.Steps.{trans-le, trans-lt}
use Rattle.lk_filter.proofs.UnitLaws.{unit_has, unit_grows, climbs}

-- ---- a cut of the days, and one of the units

le-cut : (s d : ℕ) → d < 3652059 → int_le (from_1970 (min s 3652059)) (from_1970 d) ≡ nat_le s d
le-cut s d h = grind (arith, ints, nat_tests)

lt-cut : (s d : ℕ) → d < 3652059 → int_lt (from_1970 d) (from_1970 (min s 3652059)) ≡ nat_lt d s
lt-cut s d h = grind (arith, ints, nat_tests)

both-true : (a b c d : ℕ) → a ≤ b → c ≤ d → nat_le a b ≡ nat_le c d
both-true a b c d p q = grind (arith, nat_tests)

both-false : (a b c d : ℕ) → b < a → d < c → nat_le a b ≡ nat_le c d
both-false a b c d p q = grind (arith, nat_tests)

other-way : (a b c d : ℕ) → nat_le a b ≡ nat_le c d → nat_lt b a ≡ nat_lt d c
other-way a b c d e = grind (arith, nat_tests)

-- a unit has begun by a day exactly if it is the day's unit or one before it
begun : (p : Period) (i d : ℕ) → nat_le (unit_start p i) d ≡ nat_le i (unit_of p d)
begun p i d = ⊎_elim
    (λ later. both-false (unit_start p i) d i (unit_of p d)
    (trans-lt d (unit_start p (unit_of p d + 1)) (unit_start p i) (unit_has p d).before (climbs (unit_start p) (unit_grows p) (unit_of p d + 1) i (omega arith)))
    later)
    (λ before. both-true (unit_start p i) d i (unit_of p d)
    (trans-le (unit_start p i) (unit_start p (unit_of p d)) d (climbs (unit_start p) (unit_grows p) i (unit_of p d) before) (unit_has p d).from)
    before)
    (cases_lt (unit_of p d) i)

-- the days of some units are those whose unit is one of them
pub units-meet : (p : Period) (i j d : ℕ) → d < 3652059 → day_meets (from_1970 d) (test.In (days_of_units p i j)) ≡ (nat_le i (unit_of p d) && nat_lt (unit_of p d) j)
units-meet p i j d h = λ k. (le-cut (unit_start p i) d h ∙ begun p i d) k && (lt-cut (unit_start p j) d h ∙ other-way (unit_start p j) d j (unit_of p d) (begun p j d)) k

-- ---- relative dates

same-unit : (u t : ℕ) → (nat_le t u && nat_lt u (t + 1)) ≡ (u == t)
same-unit u t = grind (arith, nat_tests)

unit-before : (u t : ℕ) → (nat_le (t - 1) u && nat_lt u t) ≡ (u + 1 == t)
unit-before u t = grind (arith, nat_tests)

units-before : (n u t : ℕ) → (nat_le (t - n) u && nat_lt u (t + 1 - n)) ≡ (u + n == t)
units-before n u t = grind (arith, nat_tests)

last-units : (n u t : ℕ) → (nat_le (t + 1 - n) u && nat_lt u (t + 1)) ≡ (nat_le u t && nat_lt t (u + n))
last-units n u t = grind (arith, nat_tests)

pub today-meets : (today day : ℕ) → day < 3652059 → day_meets (from_1970 day) (placed_test today test.Today) ≡ (day == today)
today-meets today day h = units-meet Day today (today + 1) day h ∙ same-unit day today

pub yesterday-meets : (today day : ℕ) → day < 3652059 → day_meets (from_1970 day) (placed_test today test.Yesterday) ≡ (day + 1 == today)
yesterday-meets today day h = units-meet Day (today - 1) today day h ∙ unit-before day today

pub this-meets : (p : Period) (today day : ℕ) → day < 3652059 → day_meets (from_1970 day) (placed_test today (test.This p)) ≡ (unit_of p day == unit_of p today)
this-meets p today day h = units-meet p (unit_of p today) (unit_of p today + 1) day h ∙ same-unit (unit_of p day) (unit_of p today)

pub last-meets : (p : Period) (today day : ℕ) → day < 3652059 → day_meets (from_1970 day) (placed_test today (test.Last p)) ≡ (unit_of p day + 1 == unit_of p today)
last-meets p today day h = units-meet p (unit_of p today - 1) (unit_of p today) day h ∙ unit-before (unit_of p day) (unit_of p today)

pub recent-meets : (n : ℕ) (p : Period) (today day : ℕ) → day < 3652059 → day_meets (from_1970 day) (placed_test today (test.Recent n p)) ≡ (nat_le (unit_of p day) (unit_of p today) && nat_lt (unit_of p today) (unit_of p day + n))
recent-meets n p today day h = units-meet p (unit_of p today + 1 - n) (unit_of p today + 1) day h ∙ last-units n (unit_of p day) (unit_of p today)

pub ago-meets : (n : ℕ) (p : Period) (today day : ℕ) → day < 3652059 → day_meets (from_1970 day) (placed_test today (test.Ago n p)) ≡ (unit_of p day + n == unit_of p today)
ago-meets n p today day h = units-meet p (unit_of p today - n) (unit_of p today + 1 - n) day h ∙ units-before n (unit_of p day) (unit_of p today)
