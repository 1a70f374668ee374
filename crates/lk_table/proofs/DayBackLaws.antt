-- The day and the moment that a cell writes print as the cell writes them, or in a form that reads the same.
use Rattle.std.proofs.Common.{◌≡◌, ◌<◌, ◌≤◌, ◌+◌, ◌-◌, ◌*◌, ◌/◌, ◌%◌, ◌++◌, ◌∷◌, ◌==◌, ◌&&◌, [], ℕ, ℤ, zero, suc, Bool, true, false, List, Option, Some, None, length, refl, sym, ap, ap₂, arith, ◌∙◌, nat_le, nat_lt, if◌then◌else◌, codes, decimal}
use Rattle.std.specs.Char.{is_ascii_digit}
use Rattle.std.specs.Prelude.{count_by}
use Rattle.std.proofs.lemmas.Bool.{eqb-true, leb-true, ltb-true}
use Rattle.std.proofs.lemmas.Bool.Decides.{nat_tests}
use Rattle.std.proofs.lemmas.Fmt.{decimal_digit}
use Rattle.lk_val.proofs.FractionSteps.{both}
use Rattle.lk_types.specs.Calendar.{day_of_month, days_before, from_1970, from_year_one, is_leap, month_of, month_start, year_of, year_start}
use Rattle.lk_types.specs.Printing.{date_text, four_digits}
use Rattle.lk_types.specs.Printing as print
use Rattle.lk_cell.specs.Days.{day_cell, day_of, day_of_date, day_of_numbers, is_date, next_month, two_digits}
use Rattle.lk_time.proofs.YearLaws.{IsInYear, only_year, year_of-IsInYear}
use Rattle.lk_time.proofs.FrameLaws.{from_year_one-from_1970}

-- ---- digits

-- two characters that are digits
record ArePair (a b n : ℕ) : Type 0 where
  tens : (48 ≤ a) × (a < 58)
  ones : (48 ≤ b) × (b < 58)
  sum : n ≡ 10 * (a - 48) + (b - 48)

digit_range : (a : ℕ) → is_ascii_digit a ≡ true → (48 ≤ a) × (a < 58)
digit_range a e = grind (arith, nat_tests)

pair_by : (a b n : ℕ) (s t : Bool) → is_ascii_digit a ≡ s → is_ascii_digit b ≡ t
    → (if s && t then Some (10 * (a - 48) + (b - 48)) else None) ≡ Some n → ArePair a b n
pair_by a b n true true d e f = record { tens = digit_range a d; ones = digit_range b e; sum = cc }
pair_by a b n true false d e f = cc f
pair_by a b n false t d e f = cc f

pair_of : (a b n : ℕ) → two_digits a b ≡ Some n → ArePair a b n
pair_of a b n e = pair_by a b n (is_ascii_digit a) (is_ascii_digit b) refl refl e

digit_text : (n a : ℕ) → n < 10 → 48 + n ≡ a → decimal n ≡ a ∷ []
digit_text n a small is = decimal_digit n small ∙ ap (λ (c : ℕ). c ∷ []) is

pair_text : (a b n : ℕ) → ArePair a b n → print.two_digits n ≡ a ∷ b ∷ []
pair_text a b n are =
    ap₂ (λ (x y : List ℕ). x ++ y)
    (digit_text (n / 10 % 10) a (omega arith) (omega (arith, are.tens.0, are.tens.1, are.ones.0, are.ones.1, are.sum)))
    (digit_text (n % 10) b (omega arith) (omega (arith, are.tens.0, are.tens.1, are.ones.0, are.ones.1, are.sum)))

four_text : (a b c d century year n : ℕ) → ArePair a b century → ArePair c d year → n ≡ 100 * century + year
    → four_digits n ≡ a ∷ b ∷ c ∷ d ∷ []
four_text a b c d century year n first second is =
    let thousands : 48 + n / 1000 ≡ a = omega (arith, first.tens.0, first.tens.1, first.ones.0, first.ones.1, first.sum, second.tens.0, second.tens.1, second.ones.0, second.ones.1, second.sum) in
    let hundreds : 48 + n / 100 % 10 ≡ b = omega (arith, first.tens.0, first.tens.1, first.ones.0, first.ones.1, first.sum, second.tens.0, second.tens.1, second.ones.0, second.ones.1, second.sum) in
    let tens : 48 + n / 10 % 10 ≡ c = omega (arith, first.tens.0, first.tens.1, first.ones.0, first.ones.1, first.sum, second.tens.0, second.tens.1, second.ones.0, second.ones.1, second.sum) in
    let ones : 48 + n % 10 ≡ d = omega (arith, first.tens.0, first.tens.1, first.ones.0, first.ones.1, first.sum, second.tens.0, second.tens.1, second.ones.0, second.ones.1, second.sum) in
    ap₂ (λ (x y : List ℕ). x ++ y)
    (ap₂ (λ (x y : List ℕ). x ++ y)
    (digit_text (n / 1000) a (omega (arith, thousands, first.tens.1)) thousands) (digit_text (n / 100 % 10) b (omega arith) hundreds))
    (ap₂ (λ (x y : List ℕ). x ++ y) (digit_text (n / 10 % 10) c (omega arith) tens) (digit_text (n % 10) d (omega arith) ones))

-- ---- the months of a year

-- the days of a year before a month, given whether it is a leap year
abbrev months : Bool → ℕ → ℕ
months leap month = days_before month + (if leap && nat_lt 2 month then 1 else 0)

month_step : (leap : Bool) (k : ℕ) → 1 ≤ k → k < 12 → months leap k ≤ months leap (suc k)
month_step leap zero low high = absurd (omega (arith, low))
month_step true (suc zero) low high = omega arith
month_step false (suc zero) low high = omega arith
month_step true (suc (suc zero)) low high = omega arith
month_step false (suc (suc zero)) low high = omega arith
month_step true (suc (suc (suc zero))) low high = omega arith
month_step false (suc (suc (suc zero))) low high = omega arith
month_step true (suc (suc (suc (suc zero)))) low high = omega arith
month_step false (suc (suc (suc (suc zero)))) low high = omega arith
month_step true (suc (suc (suc (suc (suc zero))))) low high = omega arith
month_step false (suc (suc (suc (suc (suc zero))))) low high = omega arith
month_step true (suc (suc (suc (suc (suc (suc zero)))))) low high = omega arith
month_step false (suc (suc (suc (suc (suc (suc zero)))))) low high = omega arith
month_step true (suc (suc (suc (suc (suc (suc (suc zero))))))) low high = omega arith
month_step false (suc (suc (suc (suc (suc (suc (suc zero))))))) low high = omega arith
month_step true (suc (suc (suc (suc (suc (suc (suc (suc zero)))))))) low high = omega arith
month_step false (suc (suc (suc (suc (suc (suc (suc (suc zero)))))))) low high = omega arith
month_step true (suc (suc (suc (suc (suc (suc (suc (suc (suc zero))))))))) low high = omega arith
month_step false (suc (suc (suc (suc (suc (suc (suc (suc (suc zero))))))))) low high = omega arith
month_step true (suc (suc (suc (suc (suc (suc (suc (suc (suc (suc zero)))))))))) low high = omega arith
month_step false (suc (suc (suc (suc (suc (suc (suc (suc (suc (suc zero)))))))))) low high = omega arith
month_step true (suc (suc (suc (suc (suc (suc (suc (suc (suc (suc (suc zero))))))))))) low high = omega arith
month_step false (suc (suc (suc (suc (suc (suc (suc (suc (suc (suc (suc zero))))))))))) low high = omega arith
month_step leap (suc (suc (suc (suc (suc (suc (suc (suc (suc (suc (suc (suc k)))))))))))) low high = absurd (omega (arith, high))

months_mono : (leap : Bool) (j d k : ℕ) → 1 ≤ j → k ≡ j + d → k ≤ 12 → months leap j ≤ months leap k
months_mono leap j zero k low is high = let same : k ≡ j = omega (arith, is) in rw same (omega arith)
months_mono leap j (suc d) k low is high =
    let before = months_mono leap j d (j + d) low refl (omega (arith, is, high)) in
    let step = month_step leap (j + d) (omega (arith, low)) (omega (arith, is, high)) in
    let same : k ≡ suc (j + d) = omega (arith, is) in
    rw same (omega (arith, before, step))

last_months : (leap : Bool) → months leap 12 ≤ 335
last_months true = omega arith
last_months false = omega arith

-- a day that lies in a month of a year
record IsInMonth (n year month : ℕ) : Type 0 where
  low : 1 ≤ month
  high : month ≤ 12
  from : month_start year month ≤ n
  before : n < next_month year month

start_is : (year month : ℕ) → month_start year month ≡ year_start year + months (is_leap year) month
start_is year month = omega arith

long_year : (year : ℕ) → 1 ≤ year → year_start year + 365 ≤ year_start (year + 1)
long_year year some = omega (arith, some)

not_last : (month : ℕ) → month ≤ 12 → (month == 12) ≡ false → month + 1 ≤ 12
not_last month high e = grind (arith, nat_tests)

next_start_by : (n year month : ℕ) (b : Bool) → (month == 12) ≡ b → n < (if b then year_start (year + 1) else month_start year (month + 1))
    → month + 1 ≤ 12 → n < month_start year (month + 1)
next_start_by n year month true is before less = let same = eqb-true month 12 is in absurd (omega (arith, same, less))
next_start_by n year month false is before less = before

year_ends_by : (n year month : ℕ) (b : Bool) → (month == 12) ≡ b → n < (if b then year_start (year + 1) else month_start year (month + 1))
    → 1 ≤ year → month ≤ 12 → n < year_start (year + 1)
year_ends_by n year month true is before some high = before
year_ends_by n year month false is before some high =
    let less = not_last month high is in
    omega (
      arith,
      before,
      start_is year (month + 1),
      months_mono (is_leap year) (month + 1) (12 - (month + 1)) 12 (omega arith) (omega (arith, less)) (omega arith),
      last_months (is_leap year),
      long_year year some,
    )

in_year : (n year month : ℕ) → 1 ≤ year → IsInMonth n year month → IsInYear n year
in_year n year month some is = record {
  from = omega (arith, is.from, start_is year month);
  before = year_ends_by n year month (month == 12) refl is.before some is.high;
}

same_test : (a n k m : ℕ) → (k ≤ m → a ≤ n) → (m < k → n < a) → nat_le a n ≡ nat_le k m
same_test a n k m le lt = grind (arith, nat_tests)

begun : (n year month : ℕ) → IsInMonth n year month → (k : ℕ) → 1 ≤ k → k ≤ 12 → nat_le (month_start year k) n ≡ nat_le k month
begun n year month is k low high =
    same_test (month_start year k) n k month
    (λ le. omega (arith, is.from, start_is year k, start_is year month, months_mono (is_leap year) k (month - k) month low (omega (arith, le)) is.high))
    (λ lt.
    let next = next_start_by n year month (month == 12) refl is.before (omega (arith, lt, high)) in
    omega (arith, next, start_is year k, start_is year (month + 1), months_mono (is_leap year) (month + 1) (k - (month + 1)) k (omega arith) (omega (arith, lt)) high))

count_upto : (m : ℕ) → 1 ≤ m → m ≤ 12 → count_by (λ k. nat_le k m) (1 ∷ 2 ∷ 3 ∷ 4 ∷ 5 ∷ 6 ∷ 7 ∷ 8 ∷ 9 ∷ 10 ∷ 11 ∷ 12 ∷ []) ≡ m
count_upto m low high = grind (arith, nat_tests)

month_found : (n year month : ℕ) → IsInMonth n year month → month_of year n ≡ month
unfolding month_of
month_found n year month is =
    let b = begun n year month is in
    rw (b 1 (omega arith) (omega arith), b 2 (omega arith) (omega arith), b 3 (omega arith) (omega arith), b 4 (omega arith) (omega arith), b 5 (omega arith) (omega arith), b 6 (omega arith) (omega arith), b 7 (omega arith) (omega arith), b 8 (omega arith) (omega arith), b 9 (omega arith) (omega arith), b 10 (omega arith) (omega arith), b 11 (omega arith) (omega arith), b 12 (omega arith) (omega arith))
    (count_upto month is.low is.high)

day_found : (n year month day : ℕ) → year_of n ≡ year → month_of year n ≡ month → n ≡ month_start year month + (day - 1) → 1 ≤ day
    → day_of_month n ≡ day
unfolding day_of_month
day_found n year month day year_is month_is is some = rw (year_is, month_is) (omega (arith, is, some))

-- ---- a date

abbrev shape : List ℕ → List ℕ → List ℕ → List ℕ
shape year month day = year ++ codes "-" ++ month ++ codes "-" ++ day

text_is : (n : ℕ) → date_text n ≡ shape (four_digits (year_of n)) (print.two_digits (month_of (year_of n) n)) (print.two_digits (day_of_month n))
unfolding date_text
text_is n = refl

in_month : (year month day : ℕ) → is_date year month day ≡ true → (1 ≤ year) × (1 ≤ day) × IsInMonth (day_of_date year month day) year month
in_month year month day e =
    let first = nat_le 1 year && (nat_le 1 month && nat_le month 12) in
    let last = nat_lt (day_of_date year month day) (next_month year month) in
    let outer = both first (nat_le 1 day && last) e in
    let front = both (nat_le 1 year) (nat_le 1 month && nat_le month 12) outer.0 in
    let inner = both (nat_le 1 month) (nat_le month 12) front.1 in
    let behind = both (nat_le 1 day) last outer.1 in (
      leb-true 1 year front.0,
      leb-true 1 day behind.0,
      record {
        low = leb-true 1 month inner.0;
        high = leb-true month 12 inner.1;
        from = omega arith;
        before = ltb-true (day_of_date year month day) (next_month year month) behind.1;
      },
    )

date_back : (c e y r m n d g century year month day : ℕ) → ArePair c e century → ArePair y r year → ArePair m n month → ArePair d g day
    → is_date (100 * century + year) month day ≡ true
    → date_text (day_of_date (100 * century + year) month day) ≡ c ∷ e ∷ y ∷ r ∷ 45 ∷ m ∷ n ∷ 45 ∷ d ∷ g ∷ []
date_back c e y r m n d g century year month day first second third fourth is =
    let whole = 100 * century + year in
    let there = day_of_date whole month day in
    let inside = in_month whole month day is in
    let year_is = only_year there (year_of there) whole (year_of-IsInYear there) (in_year there whole month inside.0 inside.2) in
    let month_is = month_found there whole month inside.2 in
    let day_is = day_found there whole month day year_is month_is refl inside.1 in
    text_is there
    ∙ ap (λ (t : List ℕ). shape t (print.two_digits (month_of (year_of there) there)) (print.two_digits (day_of_month there)))
    (ap four_digits year_is ∙ four_text c e y r century year whole first second refl)
    ∙ ap (λ (t : List ℕ). shape (c ∷ e ∷ y ∷ r ∷ []) t (print.two_digits (day_of_month there)))
    (ap (λ k. print.two_digits (month_of k there)) year_is ∙ ap print.two_digits month_is ∙ pair_text m n month third)
    ∙ ap (λ (t : List ℕ). shape (c ∷ e ∷ y ∷ r ∷ []) (m ∷ n ∷ []) t)
    (ap print.two_digits day_is ∙ pair_text d g day fourth)

date_by : (c e y r m n d g century year month day : ℕ) (z : ℤ) (b : Bool) → ArePair c e century → ArePair y r year → ArePair m n month → ArePair d g day
    → is_date (100 * century + year) month day ≡ b
    → (if b then Some (from_1970 (day_of_date (100 * century + year) month day)) else None) ≡ Some z
    → date_text (from_year_one z) ≡ c ∷ e ∷ y ∷ r ∷ 45 ∷ m ∷ n ∷ 45 ∷ d ∷ g ∷ []
date_by c e y r m n d g century year month day z false first second third fourth is f = cc f
date_by c e y r m n d g century year month day z true first second third fourth is f =
    let same : from_1970 (day_of_date (100 * century + year) month day) ≡ z = cc in
    ap (λ k. date_text (from_year_one k)) (sym same)
    ∙ ap date_text (from_year_one-from_1970 (day_of_date (100 * century + year) month day))
    ∙ date_back c e y r m n d g century year month day first second third fourth is

numbers_text : (c e y r m n d g : ℕ) (century year month day : Option ℕ) (z : ℤ) → two_digits c e ≡ century → two_digits y r ≡ year
    → two_digits m n ≡ month → two_digits d g ≡ day → day_of_numbers century year month day ≡ Some z
    → date_text (from_year_one z) ≡ c ∷ e ∷ y ∷ r ∷ 45 ∷ m ∷ n ∷ 45 ∷ d ∷ g ∷ []
unfolding day_of
numbers_text c e y r m n d g (Some century) (Some year) (Some month) (Some day) z p q s t f =
    date_by c e y r m n d g century year month day z (is_date (100 * century + year) month day)
    (pair_of c e century p) (pair_of y r year q) (pair_of m n month s) (pair_of d g day t) refl f
numbers_text c e y r m n d g century year month day z p q s t f = cc f

cell_by : (c e y r dash m n hyphen d g : ℕ) (z : ℤ) (b : Bool) → (dash == 45 && hyphen == 45) ≡ b
    → (if b then day_of_numbers (two_digits c e) (two_digits y r) (two_digits m n) (two_digits d g) else None) ≡ Some z
    → date_text (from_year_one z) ≡ c ∷ e ∷ y ∷ r ∷ dash ∷ m ∷ n ∷ hyphen ∷ d ∷ g ∷ []
cell_by c e y r dash m n hyphen d g z false is f = cc f
cell_by c e y r dash m n hyphen d g z true is f =
    let marks = both (dash == 45) (hyphen == 45) is in
    numbers_text c e y r m n d g (two_digits c e) (two_digits y r) (two_digits m n) (two_digits d g) z refl refl refl refl f
    ∙ ap₂ (λ (s t : ℕ). c ∷ e ∷ y ∷ r ∷ s ∷ m ∷ n ∷ t ∷ d ∷ g ∷ []) (sym (eqb-true dash 45 marks.0)) (sym (eqb-true hyphen 45 marks.1))

-- a day prints as the cell that it was read from
pub day_text : (cell : List ℕ) (z : ℤ) → day_cell cell ≡ Some z → date_text (from_year_one z) ≡ cell
day_text (c ∷ e ∷ y ∷ r ∷ dash ∷ m ∷ n ∷ hyphen ∷ d ∷ g ∷ []) z f = cell_by c e y r dash m n hyphen d g z (dash == 45 && hyphen == 45) refl f
day_text cell z f = cc f

pub day_long : (cell : List ℕ) (z : ℤ) → day_cell cell ≡ Some z → length cell ≡ 10
day_long (c ∷ e ∷ y ∷ r ∷ dash ∷ m ∷ n ∷ hyphen ∷ d ∷ g ∷ []) z f = refl
day_long cell z f = cc f
