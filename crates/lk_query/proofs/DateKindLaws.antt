-- What a filter of dates spells is of its kind: its dates are of the years 1 to 9999, its counts are from 1 to 10,000, and its mark tells its relative dates.
use Rattle.std.proofs.Common.{◌≡◌, ◌∙◌, ℕ, zero, suc, ◌+◌, ◌-◌, ◌*◌, ◌<◌, ◌≤◌, Bool, true, false, not, ◌&&◌, ◌||◌, List, [], ◌∷◌, Option, Some, None, option_map, refl, sym, ap, subst, arith, rules}
use Rattle.std.specs.Prelude.{if◌then◌else◌, nat_le, nat_lt, nat_eq, IfSome}
use Rattle.std.specs.Option.{option_and_then}
use Rattle.std.specs.List.{list_all, list_any}
use Rattle.std.proofs.lemmas.Bool.{and_from, and_parts, false≢true, leb-true, le-leb, ltb-true}
use Rattle.std.proofs.lemmas.Bool.Decides.{nat_tests}
use Rattle.lk_grammar.specs.Listed.{with_own}
use Rattle.lk_grammar.specs.Numbers.{is_digit}
use Rattle.lk_types.specs.Calendar.{days_before, is_leap, month_start, year_start}
use Rattle.lk_types.specs.Filters.{are_days, is_count, is_date_test, is_exclude_of, is_filter_of, is_include_of, is_null_test, is_relative}
use Rattle.lk_types.specs.declared.filter.Days.{Days}
use Rattle.lk_types.specs.declared.filter.Filter.{Filter}
use Rattle.lk_types.specs.declared.filter.Period.{Period}
use Rattle.lk_types.specs.declared.filter.Period.TheVariants.{Day, Week, Month, Quarter, Year}
use Rattle.lk_types.specs.declared.filter.Test.{Test}
use Rattle.lk_types.specs.declared.filter.Test.TheVariants as test
use Rattle.lk_types.specs.declared.schema.Kind.{Kind}
use Rattle.lk_types.specs.declared.schema.Kind.TheVariants as kind
use Rattle.lk_filter_date.specs.DateTexts.{count_from, count_of, day_at, days_between, days_of, days_of_day, days_of_month, days_of_year, first_part, month_at, month_length, pair_value, year_at, year_of_digits}
use Rattle.lk_filter_date.specs.Dates as dates
use Rattle.lk_filter_date.specs.Dates.{IsDateFilter, date_filter, excluded, included, is_day, is_exclude, item_test, own_test}
use Rattle.lk_query.proofs.PlacedKindLaws.{days_in_years, null_plain}
use Rattle.lk_query.proofs.KindSteps.{any_some, not_some, of_next, plain_tests, some_same}

-- ---- counts

abbrev IsCount : ℕ → Type 0
IsCount n = is_count n ≡ true

count_good : (value : ℕ) (text : List ℕ) → 1 ≤ value → value ≤ 10000 → IfSome (count_from value text) IsCount
count_good value [] low high = and_from (nat_le 1 value) (nat_le value 10000) (le-leb 1 value low) (le-leb value 10000 high)
count_good value (b ∷ text) low high =
    elim (is_digit b && nat_le (10 * value + (b - 48)) 10000) as (λ t. (is_digit b && nat_le (10 * value + (b - 48)) 10000) ≡ t → IfSome (if t then count_from (10 * value + (b - 48)) text else None) IsCount) [
      | true ↦ λ is.
          let within : 10 * value + (b - 48) ≤ 10000 = leb-true (10 * value + (b - 48)) 10000 (and_parts (is_digit b) (nat_le (10 * value + (b - 48)) 10000) is).1 in
          count_good (10 * value + (b - 48)) text (omega (arith, low)) within
      | false ↦ λ is. tt
    ] refl

first_digit : (a : ℕ) → (is_digit a && not (nat_eq a 48)) ≡ true → (1 ≤ a - 48) × (a - 48 ≤ 10000)
first_digit a h = grind (arith, nat_tests)

pub count_within : (text : List ℕ) → IfSome (count_of text) IsCount
count_within [] = tt
count_within (a ∷ text) =
    elim (is_digit a && not (nat_eq a 48)) as (λ t. (is_digit a && not (nat_eq a 48)) ≡ t → IfSome (if t then count_from (a - 48) text else None) IsCount) [
      | true ↦ λ is. let first = first_digit a is in count_good (a - 48) text first.0 first.1
      | false ↦ λ is. tt
    ] refl

-- ---- dates

abbrev AreDays : Days → Type 0
AreDays days = are_days days ≡ true

-- what holds of each month
each_month : (P : ℕ → Type 0) → P 1 → P 2 → P 3 → P 4 → P 5 → P 6 → P 7 → P 8 → P 9 → P 10 → P 11 → P 12 → (m : ℕ) → 1 ≤ m → m ≤ 12 → P m
each_month P p1 p2 p3 p4 p5 p6 p7 p8 p9 p10 p11 p12 zero low high = absurd (omega arith)
each_month P p1 p2 p3 p4 p5 p6 p7 p8 p9 p10 p11 p12 (suc zero) low high = p1
each_month P p1 p2 p3 p4 p5 p6 p7 p8 p9 p10 p11 p12 (suc (suc zero)) low high = p2
each_month P p1 p2 p3 p4 p5 p6 p7 p8 p9 p10 p11 p12 (suc (suc (suc zero))) low high = p3
each_month P p1 p2 p3 p4 p5 p6 p7 p8 p9 p10 p11 p12 (suc (suc (suc (suc zero)))) low high = p4
each_month P p1 p2 p3 p4 p5 p6 p7 p8 p9 p10 p11 p12 (suc (suc (suc (suc (suc zero))))) low high = p5
each_month P p1 p2 p3 p4 p5 p6 p7 p8 p9 p10 p11 p12 (suc (suc (suc (suc (suc (suc zero)))))) low high = p6
each_month P p1 p2 p3 p4 p5 p6 p7 p8 p9 p10 p11 p12 (suc (suc (suc (suc (suc (suc (suc zero))))))) low high = p7
each_month P p1 p2 p3 p4 p5 p6 p7 p8 p9 p10 p11 p12 (suc (suc (suc (suc (suc (suc (suc (suc zero)))))))) low high = p8
each_month P p1 p2 p3 p4 p5 p6 p7 p8 p9 p10 p11 p12 (suc (suc (suc (suc (suc (suc (suc (suc (suc zero))))))))) low high = p9
each_month P p1 p2 p3 p4 p5 p6 p7 p8 p9 p10 p11 p12 (suc (suc (suc (suc (suc (suc (suc (suc (suc (suc zero)))))))))) low high = p10
each_month P p1 p2 p3 p4 p5 p6 p7 p8 p9 p10 p11 p12 (suc (suc (suc (suc (suc (suc (suc (suc (suc (suc (suc zero))))))))))) low high = p11
each_month P p1 p2 p3 p4 p5 p6 p7 p8 p9 p10 p11 p12 (suc (suc (suc (suc (suc (suc (suc (suc (suc (suc (suc (suc zero)))))))))))) low high = p12
each_month P p1 p2 p3 p4 p5 p6 p7 p8 p9 p10 p11 p12 (suc (suc (suc (suc (suc (suc (suc (suc (suc (suc (suc (suc (suc m))))))))))))) low high = absurd (omega arith)

-- the days before a month and those of it are within the year
abbrev IsWithinYear : Bool → ℕ → Type 0
IsWithinYear leap m = (1 ≤ month_length leap m) × (days_before m + (if leap && nat_lt 2 m then 1 else 0) + month_length leap m ≤ 365 + (if leap then 1 else 0))

month_within : (leap : Bool) (m : ℕ) → 1 ≤ m → m ≤ 12 → IsWithinYear leap m
month_within true = each_month (IsWithinYear true) (grind arith) (grind arith) (grind arith) (grind arith) (grind arith) (grind arith) (grind arith) (grind arith) (grind arith) (grind arith) (grind arith) (grind arith)
month_within false = each_month (IsWithinYear false) (grind arith) (grind arith) (grind arith) (grind arith) (grind arith) (grind arith) (grind arith) (grind arith) (grind arith) (grind arith) (grind arith) (grind arith)

-- the first day of the next year, of the years 1 to 9999
next_year : (y : ℕ) → 0 < y → year_start (y + 1) ≡ year_start y + (365 + (if is_leap y then 1 else 0))
next_year y h = grind (arith, nat_tests)

last_year : (y : ℕ) → y ≤ 9999 → year_start (y + 1) ≤ 3652059
last_year y h = omega arith

year_grows : (y : ℕ) → 0 < y → year_start y < year_start (y + 1)
year_grows y h = omega (arith, next_year y h)

abbrev IsYear : ℕ → Type 0
IsYear y = (0 < y) × (y ≤ 9999)

year_read : (a b c d : ℕ) → IfSome (year_of_digits a b c d) IsYear
year_read a b c d =
    elim (is_digit a && is_digit b && is_digit c && is_digit d && nat_lt 0 (100 * pair_value a b + pair_value c d)) as
    (λ t. (is_digit a && is_digit b && is_digit c && is_digit d && nat_lt 0 (100 * pair_value a b + pair_value c d)) ≡ t → IfSome (if t then Some (100 * pair_value a b + pair_value c d) else None) IsYear) [
      | true ↦ λ is.
          let p = and_parts (is_digit a && is_digit b && is_digit c && is_digit d) (nat_lt 0 (100 * pair_value a b + pair_value c d)) is in
          let q = and_parts (is_digit a && is_digit b && is_digit c) (is_digit d) p.0 in
          let r = and_parts (is_digit a && is_digit b) (is_digit c) q.0 in
          let s = and_parts (is_digit a) (is_digit b) r.0 in
          (ltb-true 0 (100 * pair_value a b + pair_value c d) p.1, omega (arith, digit_at_most a s.0, digit_at_most b s.1, digit_at_most c r.1, digit_at_most d q.1))
      | false ↦ λ is. tt
    ] refl
  where
    digit_at_most : (a : ℕ) → is_digit a ≡ true → a - 48 ≤ 9
    digit_at_most a h = grind (arith, nat_tests)

year_good : (y : ℕ) → IsYear y → AreDays (days_of_year y)
year_good y h =
    days_in_years (year_start y) (year_start (y + 1)) (omega (arith, year_grows y h.0, last_year y h.1)) (omega (arith, year_grows y h.0)) (last_year y h.1)

-- days of a month of a year
in_month : (y m from upto : ℕ) → IsYear y → 1 ≤ m → m ≤ 12 → from < upto → upto ≤ month_length (is_leap y) m → AreDays (days_between (month_start y m + from) (month_start y m + upto))
in_month y m from upto h low high some within =
    let is = month_within (is_leap y) m low high in
    let ends : month_start y m + upto ≤ 3652059 = omega (arith, is.1, within, next_year y h.0, last_year y h.1) in
    days_in_years (month_start y m + from) (month_start y m + upto) (omega (arith, some, ends)) (omega (arith, some)) ends

month_good : (y m : ℕ) → IsYear y → 1 ≤ m → m ≤ 12 → AreDays (days_of_month y m)
month_good y m h low high =
    let start : month_start y m + 0 ≡ month_start y m = omega arith in
    subst (λ n. AreDays (days_between n (month_start y m + month_length (is_leap y) m))) start
    (in_month y m 0 (month_length (is_leap y) m) h low high (omega (arith, (month_within (is_leap y) m low high).0)) (omega arith))

day_good : (y m : ℕ) (part : ℕ × List ℕ) → IsYear y → 1 ≤ m → m ≤ 12 → IfSome (day_at y m part) AreDays
day_good y m (day, b ∷ text) h low high = tt
day_good y m (day, []) h low high =
    elim (nat_le 1 day && nat_le day (month_length (is_leap y) m)) as (λ t. (nat_le 1 day && nat_le day (month_length (is_leap y) m)) ≡ t → IfSome (if t then Some (days_of_day y m day) else None) AreDays) [
      | true ↦ λ is.
          let parts = and_parts (nat_le 1 day) (nat_le day (month_length (is_leap y) m)) is in
          let from : 1 ≤ day = leb-true 1 day parts.0 in
          in_month y m (day - 1) day h low high (omega (arith, from)) (leb-true day (month_length (is_leap y) m) parts.1)
      | false ↦ λ is. tt
    ] refl

month_at_good : (y : ℕ) (part : ℕ × List ℕ) → IsYear y → IfSome (month_at y part) AreDays
month_at_good y (m, []) h =
    elim (nat_le 1 m && nat_le m 12) as (λ t. (nat_le 1 m && nat_le m 12) ≡ t → IfSome (if t then Some (days_of_month y m) else None) AreDays) [
      | true ↦ λ is. let parts = and_parts (nat_le 1 m) (nat_le m 12) is in month_good y m h (leb-true 1 m parts.0) (leb-true m 12 parts.1)
      | false ↦ λ is. tt
    ] refl
month_at_good y (m, b ∷ text) h =
    elim (nat_le 1 m && nat_le m 12) as (λ t. (nat_le 1 m && nat_le m 12) ≡ t → IfSome (if t then option_and_then (day_at y m) (first_part (b ∷ text)) else None) AreDays) [
      | true ↦ λ is.
          let parts = and_parts (nat_le 1 m) (nat_le m 12) is in
          of_next (day_at y m) (λ part. Unit {0}) AreDays (λ part any. day_good y m part h (leb-true 1 m parts.0) (leb-true m 12 parts.1)) (first_part (b ∷ text)) (any_some (first_part (b ∷ text)))
      | false ↦ λ is. tt
    ] refl

year_at_good : (text : List ℕ) (y : ℕ) → IsYear y → IfSome (year_at y text) AreDays
year_at_good [] y h = year_good y h
year_at_good (b ∷ text) y h = of_next (month_at y) (λ part. Unit {0}) AreDays (λ part any. month_at_good y part h) (first_part (b ∷ text)) (any_some (first_part (b ∷ text)))

pub days_within : (text : List ℕ) → IfSome (days_of text) AreDays
days_within [] = tt
days_within (a ∷ []) = tt
days_within (a ∷ b ∷ []) = tt
days_within (a ∷ b ∷ c ∷ []) = tt
days_within (a ∷ b ∷ c ∷ d ∷ text) = of_next (λ year. year_at year text) IsYear AreDays (λ year h. year_at_good text year h) (year_of_digits a b c d) (year_read a b c d)

-- ---- items

-- the test of an item is one of dates, and it is a relative date where the item is; an exclude is none
abbrev IsOwn : Bool → Option Test → Type 0
IsOwn marked None = marked ≡ false
IsOwn marked (Some t) = (is_date_test t ≡ true) × (is_relative t ≡ marked)

days_own : (made : Days → Test) → ((days : Days) → AreDays days → is_date_test (made days) ≡ true) → ((days : Days) → is_relative (made days) ≡ false) → (o : Option Days) → IfSome o AreDays
    → IfSome (option_map (λ t. Some t) (option_map made o)) (IsOwn false)
days_own made good plain None h = tt
days_own made good plain (Some days) h = (good days h, plain days)

in_own : (text : List ℕ) → IfSome (option_map (λ t. Some t) (option_map test.In (days_of text))) (IsOwn false)
in_own text = days_own test.In (λ days h. h) (λ days. refl) (days_of text) (days_within text)

before_own : (text : List ℕ) → IfSome (option_map (λ t. Some t) (option_map test.Before (days_of text))) (IsOwn false)
before_own text = days_own test.Before (λ days h. h) (λ days. refl) (days_of text) (days_within text)

after_own : (text : List ℕ) → IfSome (option_map (λ t. Some t) (option_map test.After (days_of text))) (IsOwn false)
after_own text = days_own test.After (λ days h. h) (λ days. refl) (days_of text) (days_within text)

range_own : (low high : Option Days) → IfSome low AreDays → IfSome high AreDays → IfSome (option_map (λ t. Some t) (option_and_then (λ from. option_map (λ upto. test.FromTo from upto) high) low)) (IsOwn false)
range_own None high h k = tt
range_own (Some from) None h k = tt
range_own (Some from) (Some upto) h k = (and_from (are_days from) (are_days upto) h k, refl)

between_own : (from upto : List ℕ) → IfSome (option_map (λ t. Some t) (option_and_then (λ low. option_map (λ high. test.FromTo low high) (days_of upto)) (days_of from))) (IsOwn false)
between_own from upto = range_own (days_of from) (days_of upto) (days_within from) (days_within upto)

counted_own : (made : ℕ → Test) → ((n : ℕ) → IsCount n → is_date_test (made n) ≡ true) → ((n : ℕ) → is_relative (made n) ≡ true) → (o : Option ℕ) → IfSome o IsCount
    → IfSome (option_map (λ t. Some t) (option_map made o)) (IsOwn true)
counted_own made good marked None h = tt
counted_own made good marked (Some n) h = (good n h, marked n)

recent_own : (p : Period) (text : List ℕ) → IfSome (option_map (λ t. Some t) (option_map (λ n. test.Recent n p) (count_of text))) (IsOwn true)
recent_own p text = counted_own (λ n. test.Recent n p) (λ n h. h) (λ n. refl) (count_of text) (count_within text)

ago_own : (p : Period) (text : List ℕ) → IfSome (option_map (λ t. Some t) (option_map (λ n. test.Ago n p) (count_of text))) (IsOwn true)
ago_own p text = counted_own (λ n. test.Ago n p) (λ n h. h) (λ n. refl) (count_of text) (count_within text)

this_own : (p : Period) → IfSome (option_map (λ t. Some t) (if is_day p then None else Some (test.This p))) (IsOwn true)
this_own Day = tt
this_own Week = (refl, refl)
this_own Month = (refl, refl)
this_own Quarter = (refl, refl)
this_own Year = (refl, refl)

last_own : (p : Period) → IfSome (option_map (λ t. Some t) (if is_day p then None else Some (test.Last p))) (IsOwn true)
last_own Day = tt
last_own Week = (refl, refl)
last_own Month = (refl, refl)
last_own Quarter = (refl, refl)
last_own Year = (refl, refl)

own_good : (x : _) → IfSome (own_test x) (IsOwn (dates.is_relative x))
unfolding own_test
own_good x = search (rules, in_own, before_own, after_own, between_own, recent_own, ago_own, this_own, last_own)

-- the tests of items are of dates, and some is a relative date where some item is
abbrev AreIncluded : Bool → List Test → Type 0
AreIncluded marked ts = (list_all is_date_test ts ≡ true) × (list_any is_relative ts ≡ marked)

own_before : (one rest : Bool) (own : Option (Option Test)) (others : Option (List Test)) → IfSome own (IsOwn one) → IfSome others (AreIncluded rest) → IfSome (with_own own others) (AreIncluded (one || rest))
own_before one rest None others h k = tt
own_before one rest (Some o) None h k = tt
own_before one rest (Some None) (Some ts) h k = (k.0, k.1 ∙ ap (λ b. b || rest) (sym h))
own_before one rest (Some (Some t)) (Some ts) h k = (and_from (is_date_test t) (list_all is_date_test ts) h.0 k.0, λ i. h.1 i || k.1 i)

included_good : (xs : List _) → IfSome (included xs) (AreIncluded (list_any dates.is_relative xs))
included_good [] = (refl, refl)
included_good (x ∷ more) = own_before (dates.is_relative x) (list_any dates.is_relative more) (own_test x) (included more) (own_good x) (included_good more)

excluded_from : (b : Bool) (ts : List Test) → list_all is_null_test ts ≡ true → list_all is_null_test (if b then test.Null ∷ ts else ts) ≡ true
excluded_from true ts h = h
excluded_from false ts h = h

excluded_good : (xs : List _) → list_all is_null_test (excluded xs) ≡ true
excluded_good [] = refl
excluded_good (x ∷ more) = excluded_from (is_exclude x) (excluded more) (excluded_good more)

-- ---- the filter

marked_rightly : (some none marked : Bool) → some ≡ marked → none ≡ false → (if some || none then marked else not marked) ≡ true
marked_rightly true none marked h k = sym h
marked_rightly false true marked h k = absurd (false≢true (sym k))
marked_rightly false false marked h k = ap not (sym h)

-- a kind whose filters are of dates
module _ (k : Kind) (ins : (ts : List Test) → list_all is_date_test ts ≡ true → list_all (is_include_of k) ts ≡ true) (outs : (ts : List Test) → list_all is_null_test ts ≡ true → list_all (is_exclude_of k) ts ≡ true) where
  filter_good : (marked : Bool) (include : Option (List Test)) (exclude : List Test) (f : Filter) → IfSome include (AreIncluded marked) → list_all is_null_test exclude ≡ true
      → option_map (λ ts. record { include = ts; exclude = exclude; relative = marked }) include ≡ Some f → is_filter_of k f ≡ true
  filter_good marked None exclude f h e is = not_some f is
  filter_good marked (Some ts) exclude f h e is =
      subst (λ g. is_filter_of k g ≡ true) (some_same _ f is)
      (and_from (list_all (is_include_of k) ts && list_all (is_exclude_of k) exclude) (if list_any is_relative ts || list_any is_relative exclude then marked else not marked)
      (and_from (list_all (is_include_of k) ts) (list_all (is_exclude_of k) exclude) (ins ts h.0) (outs exclude e))
      (marked_rightly (list_any is_relative ts) (list_any is_relative exclude) marked h.1 (plain_tests is_null_test null_plain exclude e)))

  dates_kind : (f : Filter) (text : List ℕ) → IsDateFilter f text → is_filter_of k f ≡ true
  dates_kind f text h = filter_good (list_any dates.is_relative h.0) (included h.0) (excluded h.0) f (included_good h.0) (excluded_good h.0) h.2

pub day_kind : (f : Filter) (text : List ℕ) → IsDateFilter f text → is_filter_of kind.Day f ≡ true
day_kind f text h = dates_kind kind.Day (λ ts all. all) (λ ts all. all) f text h

pub moment_kind : (f : Filter) (text : List ℕ) → IsDateFilter f text → is_filter_of kind.Moment f ≡ true
moment_kind f text h = dates_kind kind.Moment (λ ts all. all) (λ ts all. all) f text h
