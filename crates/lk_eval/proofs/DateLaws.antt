-- The values of an expression have days and moments of the years 1 to 9999, where the row and the literals have.
use Rattle.std.proofs.Common.{◌≡◌, ℕ, zero, suc, ◌+◌, ◌-◌, ◌*◌, ◌/◌, ◌%◌, ◌<◌, ◌≤◌, Bool, true, false, ◌&&◌, List, [], ◌∷◌, ◌++◌, Option, Some, None, refl, arith, ℤ, pos, ◌+ℤ◌, ◌≤ℤ◌}
use Rattle.std.specs.Prelude.{slice_get, slice_index_or, if◌then◌else◌, int_le}
use Rattle.std.specs.List.{list_all}
use Rattle.std.proofs.lemmas.Bool.{false≢true}
use Rattle.std.proofs.lemmas.Int.{ints}
use Rattle.lk_val.specs.Values.{is_null}
use Rattle.lk_val.specs.declared.num.Num.{Num}
use Rattle.lk_val.specs.declared.value.Value.{Value}
use Rattle.lk_val.specs.declared.value.Value.TheVariants as value
use Rattle.lk_types.specs.Calendar.{from_year_one, from_1970, midnight, day_of_moment, second_of_moment, year_of, year_start, month_of, month_start}
use Rattle.lk_types.specs.Timeframes.{timeframe_of, framed, day_at}
use Rattle.lk_types.specs.Formula.{Formula, Column, Literal, Framed, Not, And, Or, Compare, IsNull, In, Between, Like, Number, Negate, Concat, Lower, Upper, Case, Coalesce, NullIf, Formulas, no_more, more, Cases, without_else, otherwise, when}
use Rattle.lk_types.specs.Expressions.{value_of, values_of, first_case, value_in, value_of_truth, value_of_num, apply, negated, joined_text, on_text, first_known, is_true, computed}
use Rattle.lk_types.specs.declared.expr.Arithmetic.{Arithmetic}
use Rattle.lk_types.specs.declared.rows.Joined.{Joined}
use Rattle.lk_types.specs.declared.schema.Frame.{Frame}
use Rattle.lk_types.specs.declared.schema.Frame.TheVariants as frame
use Rattle.lk_val.specs.Years.{IsDayInYears, IsMomentInYears}
use Rattle.lk_types.specs.Dates.{is_dated, is_part_dated, is_row_dated, are_literals_dated, are_all_dated, are_cases_dated}
use Rattle.lk_time.proofs.YearLaws.{year_of-IsInYear, year_of-range}
use Rattle.lk_time.proofs.CivilLaws.{month_start-bound}
use Rattle.lk_time.proofs.FrameLaws.{from_year_one-bound, day_of_moment-range, second_of_moment-bound, month_of-range}

-- ---- the tests and what they say

le_test : (a b : ℤ) → a ≤ℤ b → int_le a b ≡ true
le_test a b h = grind (arith, ints)

test_le : (a b : ℤ) → int_le a b ≡ true → a ≤ℤ b
test_le a b h = grind (arith, ints)

dated_day : (d : ℤ) → IsDayInYears d → is_dated (value.Day d) ≡ true
dated_day d is = grind (arith, ints)

day_dated : (d : ℤ) → is_dated (value.Day d) ≡ true → IsDayInYears d
day_dated d is = grind (arith, ints)

day_of_moment-dated : (m : ℤ) → is_dated (value.Moment m) ≡ true → IsMomentInYears m
day_of_moment-dated m is = grind (arith, ints)

moment_dated : (m : ℤ) → IsMomentInYears m → is_dated (value.Moment m) ≡ true
moment_dated m is = grind (arith, ints)

-- a day from 0001-01-01 that is not past the last one
day_at-dated : (n : ℕ) → n ≤ 3652058 → is_dated (day_at n) ≡ true
day_at-dated n h = dated_day (from_1970 n) (omega (arith, ints), omega (arith, ints))

month-dated : (n m : ℕ) → n ≤ 3652058 → 1 ≤ m → m ≤ 12 → is_dated (day_at (month_start (year_of n) m)) ≡ true
month-dated n m h low high =
    let range = year_of-range n h in
    day_at-dated (month_start (year_of n) m) (month_start-bound (year_of n) m range.0 range.1 low high)

-- ---- the values of each form

framed-dated : (f : Frame) (v : Value) (n s : ℕ) → is_dated v ≡ true → n ≤ 3652058 → s < 86400 → is_dated (framed f v n s) ≡ true
framed-dated frame.Raw v n s is h t = is
framed-dated frame.Time v n s is h t = moment_dated (midnight (from_1970 n) +ℤ pos s) (omega (arith, ints), omega (arith, ints))
framed-dated frame.Date v n s is h t = day_at-dated n h
framed-dated frame.Week v n s is h t = day_at-dated (n - n % 7) (omega arith)
framed-dated frame.Month v n s is h t =
    let range = month_of-range (year_of n) n (year_of-IsInYear n).from in
    month-dated n (month_of (year_of n) n) h range.0 range.1
framed-dated frame.Quarter v n s is h t =
    let range = month_of-range (year_of n) n (year_of-IsInYear n).from in
    month-dated n (3 * ((month_of (year_of n) n - 1) / 3) + 1) h (omega arith) (omega arith)
framed-dated frame.Year v n s is h t = let from = (year_of-IsInYear n).from in day_at-dated (year_start (year_of n)) (omega arith)
framed-dated f v n s is h t = refl

pub timeframe-dated : (f : Frame) (v : Value) → is_dated v ≡ true → is_dated (timeframe_of f v) ≡ true
timeframe-dated f (value.Day d) is = framed-dated f (value.Day d) (from_year_one d) 0 is (from_year_one-bound d (day_dated d is)) (omega arith)
timeframe-dated f (value.Moment m) is =
    framed-dated f (value.Moment m) (from_year_one (day_of_moment m)) (second_of_moment m) is
    (from_year_one-bound (day_of_moment m) (day_of_moment-range m (day_of_moment-dated m is))) (second_of_moment-bound m)
timeframe-dated f v is = refl

pub truth-dated : (o : Option Bool) → is_dated (value_of_truth o) ≡ true
truth-dated None = refl
truth-dated (Some b) = refl

num-dated : (o : Option Num) → is_dated (value_of_num o) ≡ true
num-dated None = refl
num-dated (Some n) = refl

pub arithmetic-dated : (op : Arithmetic) (v w : Value) → is_dated (apply op v w) ≡ true
arithmetic-dated op (value.Num x) (value.Num y) = num-dated (computed op x y)
arithmetic-dated op v w = refl

pub negated-dated : (v : Value) → is_dated (negated v) ≡ true
negated-dated (value.Num x) = num-dated _
negated-dated v = refl

pub choice-dated : (b : Bool) (v w : Value) → is_dated v ≡ true → is_dated w ≡ true → is_dated (if b then v else w) ≡ true
choice-dated true v w p q = p
choice-dated false v w p q = q

pub concat-dated : (v w : Value) → is_dated (joined_text v w) ≡ true
concat-dated (value.Text x) (value.Text y) = choice-dated _ (value.Text (x ++ y)) value.Null refl refl
concat-dated v w = refl

pub letters-dated : (f : List ℕ → List ℕ) (v : Value) → is_dated (on_text f v) ≡ true
letters-dated f (value.Text x) = refl
letters-dated f v = refl

pub and_left : (a b : Bool) → (a && b) ≡ true → a ≡ true
and_left true b h = refl
and_left false b h = h

pub and_right : (a b : Bool) → (a && b) ≡ true → b ≡ true
and_right true b h = h
and_right false b h = absurd (false≢true h)

pub cell-dated : (cells : List Value) (c : ℕ) → list_all is_dated cells ≡ true → is_dated (slice_index_or cells c value.Null) ≡ true
cell-dated [] c h = refl
cell-dated (v ∷ vs) zero h = and_left (is_dated v) (list_all is_dated vs) h
cell-dated (v ∷ vs) (suc c) h = cell-dated vs c (and_right (is_dated v) (list_all is_dated vs) h)

pub part-dated : (parts : List (Option (List Value))) (p c : ℕ) → list_all is_part_dated parts ≡ true → is_dated (value_in (slice_get parts p) c) ≡ true
part-dated [] p c h = refl
part-dated (None ∷ parts) zero c h = refl
part-dated (Some cells ∷ parts) zero c h = cell-dated cells c (and_left (list_all is_dated cells) (list_all is_part_dated parts) h)
part-dated (part ∷ parts) (suc p) c h = part-dated parts p c (and_right (is_part_dated part) (list_all is_part_dated parts) h)

mutual
  pub value_of-dated : (e : Formula) (row : Joined) → is_row_dated row ≡ true → are_literals_dated e ≡ true → is_dated (value_of e row) ≡ true
  value_of-dated (Column part c) row r h = part-dated row.parts part c r
  value_of-dated (Literal v) row r h = h
  value_of-dated (Framed f a) row r h = timeframe-dated f (value_of a row) (value_of-dated a row r h)
  value_of-dated (Not a) row r h = truth-dated _
  value_of-dated (And a b) row r h = truth-dated _
  value_of-dated (Or a b) row r h = truth-dated _
  value_of-dated (Compare c a b) row r h = truth-dated _
  value_of-dated (IsNull a) row r h = refl
  value_of-dated (In a xs) row r h = truth-dated _
  value_of-dated (Between a low high) row r h = truth-dated _
  value_of-dated (Like a pieces) row r h = truth-dated _
  value_of-dated (Number op a b) row r h = arithmetic-dated op (value_of a row) (value_of b row)
  value_of-dated (Negate a) row r h = negated-dated (value_of a row)
  value_of-dated (Concat a b) row r h = concat-dated (value_of a row) (value_of b row)
  value_of-dated (Lower a) row r h = letters-dated _ (value_of a row)
  value_of-dated (Upper a) row r h = letters-dated _ (value_of a row)
  value_of-dated (Case cases) row r h = first_case-dated cases row r h
  value_of-dated (Coalesce xs) row r h = first_known-dated xs row r h
  value_of-dated (NullIf a b) row r h = choice-dated _ value.Null (value_of a row) refl (value_of-dated a row r (and_left (are_literals_dated a) (are_literals_dated b) h))

  first_known-dated : (xs : Formulas) (row : Joined) → is_row_dated row ≡ true → are_all_dated xs ≡ true → is_dated (first_known (values_of xs row)) ≡ true
  first_known-dated no_more row r h = refl
  first_known-dated (more a xs) row r h =
      choice-dated (is_null (value_of a row)) (first_known (values_of xs row)) (value_of a row)
      (first_known-dated xs row r (and_right (are_literals_dated a) (are_all_dated xs) h))
      (value_of-dated a row r (and_left (are_literals_dated a) (are_all_dated xs) h))

  first_case-dated : (cases : Cases) (row : Joined) → is_row_dated row ≡ true → are_cases_dated cases ≡ true → is_dated (first_case cases row) ≡ true
  first_case-dated without_else row r h = refl
  first_case-dated (otherwise a) row r h = value_of-dated a row r h
  first_case-dated (when c a rest) row r h =
      let both = and_right (are_literals_dated c) (are_literals_dated a && are_cases_dated rest) h in
      choice-dated (is_true (value_of c row)) (value_of a row) (first_case rest row)
      (value_of-dated a row r (and_left (are_literals_dated a) (are_cases_dated rest) both))
      (first_case-dated rest row r (and_right (are_literals_dated a) (are_cases_dated rest) both))
