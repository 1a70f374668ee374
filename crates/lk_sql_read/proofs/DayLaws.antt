-- A day and a moment of the years 1 to 9999 are read from what they are printed as.
use Rattle.std.proofs.Common.{◌≡◌, ◌<◌, ◌≤◌, ◌+◌, ◌-◌, ◌*◌, ◌/◌, ◌%◌, ◌++◌, ◌∷◌, ◌==◌, ◌&&◌, [], ℕ, zero, suc, Bool, true, false, cond, List, Some, None, refl, sym, ap, ap₂, subst, arith, ◌∙◌, nat_le, nat_lt, if◌then◌else◌, codes, decimal}
use Rattle.std.specs.Char.{is_ascii_digit}
use Rattle.std.specs.Prelude.{count_by}
use Rattle.std.proofs.lemmas.Bool.{eqb-true, leb-true}
use Rattle.std.proofs.lemmas.Bool.Decides.{nat_tests}
use Rattle.std.proofs.lemmas.List.Sums.{sum_by-cons}
use Rattle.std.proofs.lemmas.Fmt.{decimal_digit}
use Rattle.lk_types.specs.Calendar.{day_of_month, days_before, from_1970, is_leap, month_of, month_start, year_of, year_start}
use Rattle.lk_types.specs.Printing.{date_text, four_digits}
use Rattle.lk_types.specs.Printing as print
use Rattle.lk_cell.specs.Days.{day_cell, day_of, day_of_date, is_date, next_month, two_digits}
use Rattle.lk_time.proofs.YearLaws.{IsInYear, year_of-IsInYear, year_of-range}
use Rattle.lk_time.proofs.FrameLaws.{month_of-range}

-- ---- the months of a year

-- the days of a year before a month, given whether it is a leap year
abbrev months : Bool → ℕ → ℕ
months leap month = days_before month + (if leap && nat_lt 2 month then 1 else 0)

start_is : (year month : ℕ) → month_start year month ≡ year_start year + months (is_leap year) month
start_is year month = omega arith

-- a month has a day at least and 31 at most, and begins where the one before it ends
record IsMonth (leap : Bool) (month : ℕ) : Type 0 where
  later : months leap month ≤ months leap (suc month)
  short : months leap (suc month) ≤ months leap month + 31

month_is : (leap : Bool) (k : ℕ) → 1 ≤ k → k < 12 → IsMonth leap k
month_is leap zero low high = absurd (omega (arith, low))
month_is true (suc zero) low high = record { later = omega arith; short = omega arith }
month_is false (suc zero) low high = record { later = omega arith; short = omega arith }
month_is true (suc (suc zero)) low high = record { later = omega arith; short = omega arith }
month_is false (suc (suc zero)) low high = record { later = omega arith; short = omega arith }
month_is true (suc (suc (suc zero))) low high = record { later = omega arith; short = omega arith }
month_is false (suc (suc (suc zero))) low high = record { later = omega arith; short = omega arith }
month_is true (suc (suc (suc (suc zero)))) low high = record { later = omega arith; short = omega arith }
month_is false (suc (suc (suc (suc zero)))) low high = record { later = omega arith; short = omega arith }
month_is true (suc (suc (suc (suc (suc zero))))) low high = record { later = omega arith; short = omega arith }
month_is false (suc (suc (suc (suc (suc zero))))) low high = record { later = omega arith; short = omega arith }
month_is true (suc (suc (suc (suc (suc (suc zero)))))) low high = record { later = omega arith; short = omega arith }
month_is false (suc (suc (suc (suc (suc (suc zero)))))) low high = record { later = omega arith; short = omega arith }
month_is true (suc (suc (suc (suc (suc (suc (suc zero))))))) low high = record { later = omega arith; short = omega arith }
month_is false (suc (suc (suc (suc (suc (suc (suc zero))))))) low high = record { later = omega arith; short = omega arith }
month_is true (suc (suc (suc (suc (suc (suc (suc (suc zero)))))))) low high = record { later = omega arith; short = omega arith }
month_is false (suc (suc (suc (suc (suc (suc (suc (suc zero)))))))) low high = record { later = omega arith; short = omega arith }
month_is true (suc (suc (suc (suc (suc (suc (suc (suc (suc zero))))))))) low high = record { later = omega arith; short = omega arith }
month_is false (suc (suc (suc (suc (suc (suc (suc (suc (suc zero))))))))) low high = record { later = omega arith; short = omega arith }
month_is true (suc (suc (suc (suc (suc (suc (suc (suc (suc (suc zero)))))))))) low high = record { later = omega arith; short = omega arith }
month_is false (suc (suc (suc (suc (suc (suc (suc (suc (suc (suc zero)))))))))) low high = record { later = omega arith; short = omega arith }
month_is true (suc (suc (suc (suc (suc (suc (suc (suc (suc (suc (suc zero))))))))))) low high = record { later = omega arith; short = omega arith }
month_is false (suc (suc (suc (suc (suc (suc (suc (suc (suc (suc (suc zero))))))))))) low high = record { later = omega arith; short = omega arith }
month_is leap (suc (suc (suc (suc (suc (suc (suc (suc (suc (suc (suc (suc k)))))))))))) low high = absurd (omega (arith, high))

last_months : (leap : Bool) → 334 ≤ months leap 12
last_months true = omega arith
last_months false = omega arith

year_short : (year : ℕ) → 1 ≤ year → year_start (year + 1) ≤ year_start year + 367
year_short year some = omega (arith, some)

-- ---- how many months have begun

-- so many numbers from one on
abbrev upto : ℕ → ℕ → List ℕ
upto first zero = []
upto first (suc many) = first ∷ upto (suc first) many

-- as many have begun as are counted
record HasBegun (start : ℕ → ℕ) (n first many count : ℕ) : Type 0 where
  few : count ≤ many
  from : (k : ℕ) → first ≤ k → k < first + count → start k ≤ n
  before : count < many → n < start (first + count)

none_begun : (start : ℕ → ℕ) (n first many : ℕ) → ((k : ℕ) → first ≤ k → suc k < first + many → start k ≤ start (suc k)) → (0 < many → n < start first) → count_by (λ k. nat_le (start k) n) (upto first many) ≡ 0
none_begun start n first zero up h = refl
none_begun start n first (suc many) up h =
    let less : n < start first = h (omega arith) in
    let test : nat_le (start first) n ≡ false = is_above (start first) n less in
    let others = none_begun start n (suc first) many (λ k l m. up k (omega (arith, l)) (omega (arith, m))) (λ some. omega (arith, less, up first (omega arith) (omega (arith, some)))) in
    sum_by-cons (λ k. cond (nat_le (start k) n) 1 0) first (upto (suc first) many) ∙ ap₂ (λ (b : Bool) (c : ℕ). cond b 1 0 + c) test others
  where
    is_above : (a n : ℕ) → n < a → nat_le a n ≡ false
    is_above a n h = grind (arith, nat_tests)

count_true : (start : ℕ → ℕ) (n first many c : ℕ) → nat_le (start first) n ≡ true → count_by (λ k. nat_le (start k) n) (upto (suc first) many) ≡ c → count_by (λ k. nat_le (start k) n) (upto first (suc many)) ≡ suc c
count_true start n first many c test is =
    let one_more : 1 + c ≡ suc c = omega arith in
    sum_by-cons (λ k. cond (nat_le (start k) n) 1 0) first (upto (suc first) many) ∙ ap₂ (λ (b : Bool) (k : ℕ). cond b 1 0 + k) test is ∙ one_more

begun_more : (start : ℕ → ℕ) (n first many c : ℕ) → start first ≤ n → HasBegun start n (suc first) many c → HasBegun start n first (suc many) (suc c)
begun_more start n first many c le is = record {
  few = omega (arith, is.few);
  from = λ k l m. by k l m (k == first) refl;
  before = λ less. let same : first + suc c ≡ suc first + c = omega arith in rw same (is.before (omega (arith, less)));
}
  where
    by : (k : ℕ) → first ≤ k → k < first + suc c → (b : Bool) → (k == first) ≡ b → start k ≤ n
    by k l m true e = let same : k ≡ first = eqb-true k first e in rw same le
    by k l m false e = is.from k (later k first l e) (omega (arith, m))
      where
        later : (k first : ℕ) → first ≤ k → (k == first) ≡ false → suc first ≤ k
        later k first l e = grind (arith, nat_tests)

begun_none : (start : ℕ → ℕ) (n first many : ℕ) → n < start first → HasBegun start n first (suc many) 0
begun_none start n first many less = record {
  few = omega arith;
  from = λ k l m. absurd (omega (arith, l, m));
  before = λ some. let same : first + 0 ≡ first = omega arith in rw same less;
}

counted_by : (start : ℕ → ℕ) (n first many : ℕ) → ((k : ℕ) → first ≤ k → suc k < first + suc many → start k ≤ start (suc k))
    → HasBegun start n (suc first) many (count_by (λ k. nat_le (start k) n) (upto (suc first) many)) → (b : Bool) → nat_le (start first) n ≡ b
    → HasBegun start n first (suc many) (count_by (λ k. nat_le (start k) n) (upto first (suc many)))
counted_by start n first many up others true e =
    let is = count_true start n first many (count_by (λ k. nat_le (start k) n) (upto (suc first) many)) e refl in
    subst (λ c. HasBegun start n first (suc many) c) (sym is) (begun_more start n first many (count_by (λ k. nat_le (start k) n) (upto (suc first) many)) (leb-true (start first) n e) others)
counted_by start n first many up others false e =
    let less = above (start first) n e in
    let is = none_begun start n first (suc many) up (λ some. less) in
    subst (λ c. HasBegun start n first (suc many) c) (sym is) (begun_none start n first many less)
  where
    above : (a n : ℕ) → nat_le a n ≡ false → n < a
    above a n e = grind (arith, nat_tests)

counted : (start : ℕ → ℕ) (n first many : ℕ) → ((k : ℕ) → first ≤ k → suc k < first + many → start k ≤ start (suc k)) → HasBegun start n first many (count_by (λ k. nat_le (start k) n) (upto first many))
counted start n first zero up = record { few = omega arith; from = λ k l m. absurd (omega (arith, l, m)); before = λ less. absurd (omega (arith, less)) }
counted start n first (suc many) up =
    counted_by start n first many up (counted start n (suc first) many (λ k l m. up k (omega (arith, l)) (omega (arith, m)))) (nat_le (start first) n) refl

-- ---- the month and the day of its month that a day is

up_months : (year : ℕ) (k : ℕ) → 1 ≤ k → suc k < 1 + 12 → month_start year k ≤ month_start year (suc k)
up_months year k low high = omega (arith, start_is year k, start_is year (suc k), (month_is (is_leap year) k low (omega (arith, high))).later)

month_has : (year n : ℕ) → HasBegun (month_start year) n 1 12 (month_of year n)
unfolding month_of
month_has year n = counted (month_start year) n 1 12 (up_months year)

-- a day that lies in a month of a year
record IsInMonth (n year month : ℕ) : Type 0 where
  low : 1 ≤ month
  high : month ≤ 12
  from : month_start year month ≤ n
  before : n < next_month year month
  short : n < month_start year month + 98

in_month_by : (n year month : ℕ) → IsInYear n year → 1 ≤ year → 1 ≤ month → month ≤ 12 → month_start year month ≤ n → (month < 12 → n < month_start year (1 + month)) → (b : Bool) → (month == 12) ≡ b → IsInMonth n year month
in_month_by n year month is some low high from before true e =
    let same : month ≡ 12 = eqb-true month 12 e in
    record {
      low = low;
      high = high;
      from = from;
      before = subst (λ b. n < (if b then year_start (year + 1) else month_start year (month + 1))) (sym e) is.before;
      short = rw same (omega (arith, is.before, start_is year 12, last_months (is_leap year), year_short year some));
    }
in_month_by n year month is some low high from before false e =
    let less : month < 12 = not_last month high e in
    let next : 1 + month ≡ month + 1 = omega arith in
    let after : n < month_start year (1 + month) = before less in
    let following : 1 + month ≡ suc month = omega arith in
    let soon : n < month_start year (suc month) = subst (λ k. n < month_start year k) following after in
    record {
      low = low;
      high = high;
      from = from;
      before = subst (λ b. n < (if b then year_start (year + 1) else month_start year (month + 1))) (sym e) (subst (λ k. n < month_start year k) next after);
      short = omega (arith, soon, start_is year month, start_is year (suc month), (month_is (is_leap year) month low less).short);
    }
  where
    not_last : (month : ℕ) → month ≤ 12 → (month == 12) ≡ false → month < 12
    not_last month high e = grind (arith, nat_tests)

in_month : (year n : ℕ) → IsInYear n year → 1 ≤ year → IsInMonth n year (month_of year n)
in_month year n is some =
    let range = month_of-range year n is.from in
    let has = month_has year n in
    let from = has.from (month_of year n) range.0 (omega arith) in
    in_month_by n year (month_of year n) is some range.0 range.1 from has.before (month_of year n == 12) refl

-- ---- digits

pub digits_text : (n : ℕ) → n < 100 → print.two_digits n ≡ (48 + n / 10) ∷ (48 + n % 10) ∷ []
digits_text n small =
    let tens : n / 10 % 10 ≡ n / 10 = omega arith in
    ap₂ (λ (x y : List ℕ). x ++ y) (ap decimal tens ∙ decimal_digit (n / 10) (omega arith)) (decimal_digit (n % 10) (omega arith))

four_text : (n : ℕ) → n < 10000 → four_digits n ≡ (48 + n / 1000) ∷ (48 + n / 100 % 10) ∷ (48 + n / 10 % 10) ∷ (48 + n % 10) ∷ []
four_text n small =
    ap₂ (λ (x y : List ℕ). x ++ y)
    (ap₂ (λ (x y : List ℕ). x ++ y) (decimal_digit (n / 1000) (omega arith)) (decimal_digit (n / 100 % 10) (omega arith)))
    (ap₂ (λ (x y : List ℕ). x ++ y) (decimal_digit (n / 10 % 10) (omega arith)) (decimal_digit (n % 10) (omega arith)))

is_digit : (d : ℕ) → d < 10 → is_ascii_digit (48 + d) ≡ true
is_digit d small = grind (arith, nat_tests)

pub digits_read : (a b : ℕ) → a < 10 → b < 10 → two_digits (48 + a) (48 + b) ≡ Some (10 * a + b)
digits_read a b h k =
    let sum : 10 * (48 + a - 48) + (48 + b - 48) ≡ 10 * a + b = omega arith in
    rw (is_digit a h, is_digit b k) (ap Some sum)

-- ---- a date

abbrev shape : List ℕ → List ℕ → List ℕ → List ℕ
shape year month day = year ++ codes "-" ++ month ++ codes "-" ++ day

text_is : (n : ℕ) → date_text n ≡ shape (four_digits (year_of n)) (print.two_digits (month_of (year_of n) n)) (print.two_digits (day_of_month n))
unfolding date_text
text_is n = refl

date_is : (year month day n : ℕ) → IsInMonth n year month → 1 ≤ year → 1 ≤ day → day_of_date year month day ≡ n → is_date year month day ≡ true
date_is year month day n is some first there = grind (arith, nat_tests)

day_is : (n year month : ℕ) → year_of n ≡ year → month_of year n ≡ month → day_of_month n ≡ n - month_start year month + 1
unfolding day_of_month
day_is n year month e f = rw (e, f) refl

numbers_read : (year month day n : ℕ) → year < 10000 → month < 100 → day < 100 → is_date year month day ≡ true → day_of_date year month day ≡ n
    → day_cell (shape ((48 + year / 1000) ∷ (48 + year / 100 % 10) ∷ (48 + year / 10 % 10) ∷ (48 + year % 10) ∷ []) ((48 + month / 10) ∷ (48 + month % 10) ∷ []) ((48 + day / 10) ∷ (48 + day % 10) ∷ [])) ≡ Some (from_1970 n)
unfolding day_of
numbers_read year month day n y m d is there =
    let whole : 100 * (10 * (year / 1000) + year / 100 % 10) + (10 * (year / 10 % 10) + year % 10) ≡ year = omega arith in
    let months_is : 10 * (month / 10) + month % 10 ≡ month = omega arith in
    let days_is : 10 * (day / 10) + day % 10 ≡ day = omega arith in
    rw (digits_read (year / 1000) (year / 100 % 10) (omega arith) (omega arith), digits_read (year / 10 % 10) (year % 10) (omega arith) (omega arith), digits_read (month / 10) (month % 10) (omega arith) (omega arith), digits_read (day / 10) (day % 10) (omega arith) (omega arith))
    (ap (λ k. day_of k (10 * (month / 10) + month % 10) (10 * (day / 10) + day % 10)) whole
    ∙ ap (λ k. day_of year k (10 * (day / 10) + day % 10)) months_is
    ∙ ap (λ k. day_of year month k) days_is
    ∙ ap (λ b. if b then Some (from_1970 (day_of_date year month day)) else None) is
    ∙ ap (λ k. Some (from_1970 k)) there)

pub date_reads : (n : ℕ) → n ≤ 3652058 → day_cell (date_text n) ≡ Some (from_1970 n)
date_reads n h =
    let year = year_of n in
    let month = month_of (year_of n) n in
    let day = day_of_month n in
    let range = year_of-range n h in
    let is = in_month (year_of n) n (year_of-IsInYear n) range.0 in
    let day_same : day_of_month n ≡ n - month_start (year_of n) (month_of (year_of n) n) + 1 = day_is n (year_of n) (month_of (year_of n) n) refl refl in
    let there : day_of_date (year_of n) (month_of (year_of n) n) (day_of_month n) ≡ n = omega (arith, day_same, is.from) in
    ap day_cell (text_is n
    ∙ ap (λ t. shape t (print.two_digits (month_of (year_of n) n)) (print.two_digits (day_of_month n))) (four_text (year_of n) (omega (arith, range.1)))
    ∙ ap (λ t. shape ((48 + year_of n / 1000) ∷ (48 + year_of n / 100 % 10) ∷ (48 + year_of n / 10 % 10) ∷ (48 + year_of n % 10) ∷ []) t (print.two_digits (day_of_month n))) (digits_text (month_of (year_of n) n) (omega (arith, is.high)))
    ∙ ap (λ t. shape ((48 + year_of n / 1000) ∷ (48 + year_of n / 100 % 10) ∷ (48 + year_of n / 10 % 10) ∷ (48 + year_of n % 10) ∷ []) ((48 + month_of (year_of n) n / 10) ∷ (48 + month_of (year_of n) n % 10) ∷ []) t) (digits_text (day_of_month n) (omega (arith, day_same, is.short))))
    ∙ numbers_read (year_of n) (month_of (year_of n) n) (day_of_month n) n (omega (arith, range.1)) (omega (arith, is.high)) (omega (arith, day_same, is.short))
    (date_is (year_of n) (month_of (year_of n) n) (day_of_month n) n is range.0 (omega (arith, day_same)) there) there
