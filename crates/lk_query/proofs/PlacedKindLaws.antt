-- A filter of a kind stays one where its relative dates are placed at a moment of the years 1 to 9999.
use Rattle.std.proofs.Common.{◌≡◌, ◌∙◌, ℕ, ◌+◌, ◌-◌, ◌<◌, ◌≤◌, Bool, true, false, not, ◌&&◌, ◌||◌, List, [], ◌∷◌, ℤ, map, refl, sym, ap, arith}
use Rattle.std.specs.Prelude.{if◌then◌else◌, pos, ◌≤ℤ◌, int_lt, min, nat_le}
use Rattle.std.specs.Int.{int_div_euclid}
use Rattle.std.specs.List.{list_all, list_any}
use Rattle.std.proofs.lemmas.Bool.{and_from, and_parts, false≢true, leb-true}
use Rattle.std.proofs.lemmas.Bool.Decides.{nat_tests}
use Rattle.std.proofs.lemmas.Int.{ints}
use Rattle.std.proofs.lemmas.List.Folds.{list_all-map}
use Rattle.lk_types.specs.Calendar.{day_of_moment, from_1970, from_year_one}
use Rattle.lk_val.specs.Years.{IsMomentInYears}
use Rattle.lk_filter.proofs.PlacingLaws.{placed-placed}
use Rattle.lk_filter.proofs.UnitLaws.{climbs, unit_grows, unit_has}
use Rattle.lk_types.specs.Filters.{are_days, days_of_units, has_relative, is_count, is_date_test, is_exclude_of, is_filter_of, is_include_of, is_null_test, is_number_test, is_relative, is_text_test, is_truth_test, placed, placed_test, today_at, unit_of, unit_start}
use Rattle.lk_types.specs.declared.filter.Filter.{Filter}
use Rattle.lk_types.specs.declared.filter.Period.{Period}
use Rattle.lk_types.specs.declared.filter.Period.TheVariants.{Day}
use Rattle.lk_types.specs.declared.filter.Test.{Test}
use Rattle.lk_types.specs.declared.filter.Test.TheVariants as test
use Rattle.lk_types.specs.declared.schema.Kind.{Kind}
use Rattle.lk_types.specs.declared.schema.Kind.TheVariants as kind

-- ---- days

-- days of the years 1 to 9999, counted from the first of them
pub days_in_years : (i j : ℕ) → i < 3652059 → i ≤ j → j ≤ 3652059 → are_days (record { from = from_1970 i; up_to = from_1970 j }) ≡ true
days_in_years i j p q r = grind (arith, ints, nat_tests)

cut_below : (s n : ℕ) → s ≤ n → n < 3652059 → min s 3652059 < 3652059
cut_below s n p q = grind (arith, nat_tests)

cut_grows : (s t : ℕ) → s ≤ t → min s 3652059 ≤ min t 3652059
cut_grows s t p = grind (arith, nat_tests)

cut_within : (t : ℕ) → min t 3652059 ≤ 3652059
cut_within t = grind (arith, nat_tests)

-- the day of a moment of the years 1 to 9999 is one of theirs
day_within : (now : ℤ) → now ≤ℤ pos 253402300799 → int_div_euclid now (pos 86400) ≤ℤ pos 2932896
day_within now h = grind (arith, ints)

day_counted : (day : ℤ) → day ≤ℤ pos 2932896 → (if int_lt day (from_1970 0) then 0 else from_year_one day) < 3652059
unfolding from_year_one
day_counted day h = grind (arith, ints, nat_tests)

pub today_within : (now : ℤ) → IsMomentInYears now → today_at now < 3652059
unfolding day_of_moment
today_within now h = day_counted (int_div_euclid now (pos 86400)) (day_within now h.1)

-- ---- tests

-- what a kind of filter without dates may have is no relative date
pub text_plain : (t : Test) → is_text_test t ≡ true → is_relative t ≡ false
text_plain test.Today h = absurd (false≢true h)
text_plain test.Yesterday h = absurd (false≢true h)
text_plain (test.This p) h = absurd (false≢true h)
text_plain (test.Last p) h = absurd (false≢true h)
text_plain (test.Recent k p) h = absurd (false≢true h)
text_plain (test.Ago k p) h = absurd (false≢true h)
text_plain t h = refl

pub number_plain : (t : Test) → is_number_test t ≡ true → is_relative t ≡ false
number_plain test.Today h = absurd (false≢true h)
number_plain test.Yesterday h = absurd (false≢true h)
number_plain (test.This p) h = absurd (false≢true h)
number_plain (test.Last p) h = absurd (false≢true h)
number_plain (test.Recent k p) h = absurd (false≢true h)
number_plain (test.Ago k p) h = absurd (false≢true h)
number_plain t h = refl

pub truth_plain : (t : Test) → is_truth_test t ≡ true → is_relative t ≡ false
truth_plain (test.Truth b) h = refl
truth_plain t h = absurd (false≢true h)

pub null_plain : (t : Test) → is_null_test t ≡ true → is_relative t ≡ false
null_plain test.Null h = refl
null_plain t h = absurd (false≢true h)

-- a test that is no relative date stays as it is
stays : (n : ℕ) (t : Test) → is_relative t ≡ false → placed_test n t ≡ t
stays n test.Today h = absurd (false≢true (sym h))
stays n test.Yesterday h = absurd (false≢true (sym h))
stays n (test.This p) h = absurd (false≢true (sym h))
stays n (test.Last p) h = absurd (false≢true (sym h))
stays n (test.Recent k p) h = absurd (false≢true (sym h))
stays n (test.Ago k p) h = absurd (false≢true (sym h))
stays n t h = refl

plain_placed : (n : ℕ) (p : Test → Bool) → ((t : Test) → p t ≡ true → is_relative t ≡ false) → (t : Test) → p t ≡ true → p (placed_test n t) ≡ true
plain_placed n p plain t h = ap p (stays n t (plain t h)) ∙ h

exclude_placed : (n : ℕ) (k : Kind) (t : Test) → is_exclude_of k t ≡ true → is_exclude_of k (placed_test n t) ≡ true
exclude_placed n kind.Text t h = plain_placed n is_text_test text_plain t h
exclude_placed n kind.Number t h = plain_placed n is_number_test number_plain t h
exclude_placed n kind.Truth t h = absurd (false≢true h)
exclude_placed n kind.Day t h = plain_placed n is_null_test null_plain t h
exclude_placed n kind.Moment t h = plain_placed n is_null_test null_plain t h

-- ---- filters

all_then : (p q : Test → Bool) → ((t : Test) → p t ≡ true → q t ≡ true) → (ts : List Test) → list_all p ts ≡ true → list_all q ts ≡ true
all_then p q step [] h = refl
all_then p q step (t ∷ ts) h =
    let parts = and_parts (p t) (list_all p ts) h in
    and_from (q t) (list_all q ts) (step t parts.0) (all_then p q step ts parts.1)

tests_placed : (n : ℕ) (p : Test → Bool) → ((t : Test) → p t ≡ true → p (placed_test n t) ≡ true) → (ts : List Test) → list_all p ts ≡ true → list_all p (map (placed_test n) ts) ≡ true
tests_placed n p step ts h = list_all-map p (placed_test n) ts ∙ all_then p (λ t. p (placed_test n t)) step ts h

unmarked : (a b : Bool) → (not a && not b) ≡ true → (if a || b then false else true) ≡ true
unmarked true b h = absurd (false≢true h)
unmarked false true h = absurd (false≢true h)
unmarked false false h = refl

climb : (p : Period) (i j : ℕ) → i ≤ j → unit_start p i ≤ unit_start p j
climb p i j h = climbs (unit_start p) (unit_grows p) i j h

units_in_years : (p : Period) (i j n : ℕ) → i ≤ unit_of p n → i ≤ j → n < 3652059 → are_days (days_of_units p i j) ≡ true
units_in_years p i j n before ordered within =
    let start : unit_start p i ≤ n = omega (arith, climb p i (unit_of p n) before, (unit_has p n).from) in
    days_in_years (min (unit_start p i) 3652059) (min (unit_start p j) 3652059) (cut_below (unit_start p i) n start within)
    (cut_grows (unit_start p i) (unit_start p j) (climb p i j ordered)) (cut_within (unit_start p j))

counted : (k : ℕ) → is_count k ≡ true → 1 ≤ k
counted k h = leb-true 1 k (and_parts (nat_le 1 k) (nat_le k 10000) h).0

date_placed : (n : ℕ) → n < 3652059 → (t : Test) → is_date_test t ≡ true → is_date_test (placed_test n t) ≡ true
date_placed n within test.Today h = units_in_years Day n (n + 1) n (omega arith) (omega arith) within
date_placed n within test.Yesterday h = units_in_years Day (n - 1) n n (omega arith) (omega arith) within
date_placed n within (test.This p) h = units_in_years p (unit_of p n) (unit_of p n + 1) n (omega arith) (omega arith) within
date_placed n within (test.Last p) h = units_in_years p (unit_of p n - 1) (unit_of p n) n (omega arith) (omega arith) within
date_placed n within (test.Recent k p) h = units_in_years p (unit_of p n + 1 - k) (unit_of p n + 1) n (omega (arith, counted k h)) (omega arith) within
date_placed n within (test.Ago k p) h = units_in_years p (unit_of p n - k) (unit_of p n + 1 - k) n (omega arith) (omega arith) within
date_placed n within t h = h

include_placed : (n : ℕ) → n < 3652059 → (k : Kind) (t : Test) → is_include_of k t ≡ true → is_include_of k (placed_test n t) ≡ true
include_placed n within kind.Text t h = plain_placed n is_text_test text_plain t h
include_placed n within kind.Number t h = plain_placed n is_number_test number_plain t h
include_placed n within kind.Truth t h = plain_placed n is_truth_test truth_plain t h
include_placed n within kind.Day t h = date_placed n within t h
include_placed n within kind.Moment t h = date_placed n within t h

-- a filter at a moment of the years 1 to 9999 is of the kind that it was of
pub kind_placed : (k : Kind) (f : Filter) (now : ℤ) → IsMomentInYears now → is_filter_of k f ≡ true → is_filter_of k (placed now f) ≡ true
kind_placed k f now years h =
    let n = today_at now in
    let parts = and_parts (list_all (is_include_of k) f.include && list_all (is_exclude_of k) f.exclude) (if has_relative f then f.relative else not f.relative) h in
    let tests = and_parts (list_all (is_include_of k) f.include) (list_all (is_exclude_of k) f.exclude) parts.0 in
    let g = placed now f in
    and_from (list_all (is_include_of k) g.include && list_all (is_exclude_of k) g.exclude) (if has_relative g then g.relative else not g.relative)
    (and_from (list_all (is_include_of k) g.include) (list_all (is_exclude_of k) g.exclude)
    (tests_placed n (is_include_of k) (include_placed n (today_within now years) k) f.include tests.0)
    (tests_placed n (is_exclude_of k) (exclude_placed n k) f.exclude tests.1))
    (unmarked (list_any is_relative g.include) (list_any is_relative g.exclude) (placed-placed now f))
