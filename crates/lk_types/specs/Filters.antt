-- Which values pass a filter, and what its relative dates stand for at a moment.
use Rattle.std.specs.Prelude.{ℕ, nat_le, ◌+◌, ◌-◌, ◌*◌, ◌/◌, ◌%◌, ◌==◌, min, Bool, true, false, not, ◌&&◌, ◌||◌, ℤ, pos, int_le, int_lt, List, [], ◌∷◌, map, Option, Some, None, if◌then◌else◌}
use Rattle.std.specs.List.{list_any, list_all}
use Rattle.std.specs.Cmp.Lexicographic.{pointwise}
use Rattle.std.specs.Ordering.{int_eq}
use Rattle.lk_val.specs.Fractions.{Fraction, frac_cmp}
use Rattle.lk_val.specs.declared.num.Num.{Num}
use Rattle.lk_val.specs.declared.value.Value.{Value}
use Rattle.lk_val.specs.declared.value.Value.TheVariants as value
use Rattle.lk_types.specs.Expressions.{holds, matches}
use Rattle.lk_types.specs.Calendar.{from_year_one, from_1970, day_of_moment, year_of, year_start, month_of, month_start}
use Rattle.lk_types.specs.declared.expr.Comparison.{Comparison}
use Rattle.lk_types.specs.declared.expr.Comparison.TheVariants as comparison
use Rattle.lk_types.specs.declared.expr.Piece.{Piece}
use Rattle.lk_types.specs.declared.expr.Piece.TheVariants as piece
use Rattle.lk_val.specs.Years.{is_day_in_years}
use Rattle.lk_types.specs.declared.schema.Kind.{Kind}
use Rattle.lk_types.specs.declared.schema.Kind.TheVariants as kind
use Rattle.lk_types.specs.declared.filter.Filter.{Filter}
use Rattle.lk_types.specs.declared.filter.Days.{Days}
use Rattle.lk_types.specs.declared.filter.End.{End}
use Rattle.lk_types.specs.declared.filter.Edge.{Edge}
use Rattle.lk_types.specs.declared.filter.Edge.TheVariants.{Lowest, At, Highest}
use Rattle.lk_types.specs.declared.filter.Period.{Period}
use Rattle.lk_types.specs.declared.filter.Period.TheVariants.{Day, Week, Month, Quarter, Year}
use Rattle.lk_types.specs.declared.filter.Test.{Test}
use Rattle.lk_types.specs.declared.filter.Test.TheVariants as test

-- the number compares so with n: a fraction by its exact value
abbrev pub compares : Fraction → Comparison → Num → Bool
compares x c n = holds c (frac_cmp x (record { n = n.0; d = pos 10000 }))

-- at or above a bound, where there is one
abbrev pub at_least : Fraction → Option Num → Bool
at_least x None = true
at_least x (Some n) = compares x comparison.AtLeast n

-- at or below a bound, where there is one
abbrev pub at_most : Fraction → Option Num → Bool
at_most x None = true
at_most x (Some n) = compares x comparison.AtMost n

-- above the lower end of an interval, or at it where the end belongs to the interval
abbrev pub is_above : Fraction → Edge → Bool → Bool
is_above x Lowest closed = true
is_above x Highest closed = false
is_above x (At n) true = compares x comparison.AtLeast n
is_above x (At n) false = compares x comparison.Greater n

-- below the upper end of an interval, or at it where the end belongs to the interval
abbrev pub is_below : Fraction → Edge → Bool → Bool
is_below x Lowest closed = false
is_below x Highest closed = true
is_below x (At n) true = compares x comparison.AtMost n
is_below x (At n) false = compares x comparison.Less n

-- a number meets a test
abbrev pub number_meets : Fraction → Test → Bool
number_meets x (test.Is n) = compares x comparison.Equal n
number_meets x (test.Compare cs) = list_all (λ c. compares x c.0 c.1) cs
number_meets x (test.To low high) = at_least x low && at_most x high
number_meets x (test.Range low high) = is_above x low.edge low.closed && is_below x high.edge high.closed
number_meets x t = false

-- a day meets a test
abbrev pub day_meets : ℤ → Test → Bool
day_meets d (test.In days) = int_le days.from d && int_lt d days.up_to
day_meets d (test.Before days) = int_lt d days.from
day_meets d (test.After days) = int_le days.from d
day_meets d (test.FromTo first last) = int_le first.from d && int_lt d last.from
day_meets d t = false

-- a text meets a pattern; the empty text meets `EMPTY`
abbrev pub text_meets : List ℕ → Test → Bool
text_meets t (test.Like pieces) = matches pieces t
text_meets [] test.Empty = true
text_meets t other = false

-- a truth value meets an equal one
abbrev pub truth_meets : Bool → Test → Bool
truth_meets true (test.Truth b) = b
truth_meets false (test.Truth b) = not b
truth_meets v t = false

-- null meets `NULL` and `EMPTY`, and no other test
abbrev pub null_meets : Test → Bool
null_meets test.Null = true
null_meets test.Empty = true
null_meets t = false

-- a value meets a test: null only `NULL` and `EMPTY`, a moment by its day
abbrev pub meets : Value → Test → Bool
meets value.Null t = null_meets t
meets (value.Text bytes) t = text_meets bytes t
meets (value.Num n) t = number_meets (record { n = n.0; d = pos 10000 }) t
meets (value.Truth b) t = truth_meets b t
meets (value.Day d) t = day_meets d t
meets (value.Moment m) t = day_meets (day_of_moment m) t

-- some include, or there is none, and no exclude
abbrev pub passes_by : (Test → Bool) → Filter → Bool
passes_by met f = (not (list_any (λ t. true) f.include) || list_any met f.include) && not (list_any met f.exclude)

-- a value passes a filter (Looker, filter expressions)
abbrev pub passes : Filter → Value → Bool
passes f v = passes_by (meets v) f

-- the same of a fraction, none being null
abbrev pub passes_frac : Filter → Option Fraction → Bool
passes_frac f None = passes_by null_meets f
passes_frac f (Some x) = passes_by (number_meets x) f

-- ---- relative dates. The units of a period are numbered from the first of year 1

-- the months from the first of year 1 up to the month of a day
abbrev pub month_number : ℕ → ℕ
month_number n = 12 * (year_of n - 1) + (month_of (year_of n) n - 1)

-- the number of the unit that a day is in
abbrev pub unit_of : Period → ℕ → ℕ
unit_of Day n = n
unit_of Week n = n / 7
unit_of Month n = month_number n
unit_of Quarter n = month_number n / 3
unit_of Year n = year_of n - 1

-- the first day of a unit
abbrev pub unit_start : Period → ℕ → ℕ
unit_start Day i = i
unit_start Week i = 7 * i
unit_start Month i = month_start (i / 12 + 1) (i % 12 + 1)
unit_start Quarter i = month_start (3 * i / 12 + 1) (3 * i % 12 + 1)
unit_start Year i = year_start (i + 1)

-- the days of the units from i up to j, within the years 1 to 9999
abbrev pub days_of_units : Period → ℕ → ℕ → Days
days_of_units p i j = record { from = from_1970 (min (unit_start p i) 3652059); up_to = from_1970 (min (unit_start p j) 3652059) }

-- a relative item as its days; today is day n
abbrev pub placed_test : ℕ → Test → Test
placed_test n test.Today = test.In (days_of_units Day n (n + 1))
placed_test n test.Yesterday = test.In (days_of_units Day (n - 1) n)
placed_test n (test.This p) = test.In (days_of_units p (unit_of p n) (unit_of p n + 1))
placed_test n (test.Last p) = test.In (days_of_units p (unit_of p n - 1) (unit_of p n))
placed_test n (test.Recent k p) = test.In (days_of_units p (unit_of p n + 1 - k) (unit_of p n + 1))
placed_test n (test.Ago k p) = test.In (days_of_units p (unit_of p n - k) (unit_of p n + 1 - k))
placed_test n t = t

-- the day of a moment, from the first of year 1; a moment before that counts as it
abbrev pub today_at : ℤ → ℕ
today_at now = if int_lt (day_of_moment now) (from_1970 0) then 0 else from_year_one (day_of_moment now)

-- the filter at a moment
abbrev pub placed : ℤ → Filter → Filter
placed now f =
    let n = today_at now in
    record { include = map (placed_test n) f.include; exclude = map (placed_test n) f.exclude; relative = false }

-- a test is a relative date
abbrev pub is_relative : Test → Bool
is_relative test.Today = true
is_relative test.Yesterday = true
is_relative (test.This p) = true
is_relative (test.Last p) = true
is_relative (test.Recent n p) = true
is_relative (test.Ago n p) = true
is_relative t = false

-- some test of the filter is a relative date
abbrev pub has_relative : Filter → Bool
has_relative f = list_any is_relative f.include || list_any is_relative f.exclude

-- no test of the filter is a relative date
abbrev pub is_placed : Filter → Bool
is_placed f = not (list_any is_relative f.include) && not (list_any is_relative f.exclude)

-- ---- the kinds of tests

-- days of the years 1 to 9999, up to the first day after them
abbrev pub are_days : Days → Bool
are_days span = is_day_in_years span.from && int_le span.from span.up_to && int_le span.up_to (pos 2932897)

-- a number of units of a relative date
abbrev pub is_count : ℕ → Bool
is_count n = nat_le 1 n && nat_le n 10000

-- a unit that stands behind `this` and `last`: not a day, which has words of its own
abbrev pub is_longer : Period → Bool
is_longer Day = false
is_longer p = true

-- a test is one that a filter on days or moments may have
abbrev pub is_date_test : Test → Bool
is_date_test test.Null = true
is_date_test (test.In span) = are_days span
is_date_test (test.Before span) = are_days span
is_date_test (test.After span) = are_days span
is_date_test (test.FromTo first last) = are_days first && are_days last
is_date_test (test.This p) = is_longer p
is_date_test (test.Last p) = is_longer p
is_date_test (test.Recent n p) = is_count n
is_date_test (test.Ago n p) = is_count n
is_date_test t = is_relative t

-- a comparison that is written before a number: below or above it, or at it too
abbrev pub is_bound : Comparison → Bool
is_bound comparison.Equal = false
is_bound comparison.NotEqual = false
is_bound c = true

-- some comparisons, each a bound
abbrev pub are_bounds : List (Comparison × Num) → Bool
are_bounds [] = false
are_bounds (bound ∷ bounds) = list_all (λ b. is_bound b.0) (bound ∷ bounds)

-- one of two bounds is there
abbrev pub has_bound : Option Num → Option Num → Bool
has_bound None None = false
has_bound low high = true

-- a test is one that a filter on numbers may have
abbrev pub is_number_test : Test → Bool
is_number_test test.Null = true
is_number_test (test.Is n) = true
is_number_test (test.Compare comparisons) = are_bounds comparisons
is_number_test (test.To low high) = has_bound low high
is_number_test (test.Range low high) = true
is_number_test t = false

-- a pattern with some character
abbrev pub is_pattern : List Piece → Bool
is_pattern [] = false
is_pattern (p ∷ pieces) = true

-- a test is one that a filter on texts may have
abbrev pub is_text_test : Test → Bool
is_text_test test.Null = true
is_text_test test.Empty = true
is_text_test (test.Like pieces) = is_pattern pieces
is_text_test t = false

-- yes or no
abbrev pub is_truth_test : Test → Bool
is_truth_test (test.Truth b) = true
is_truth_test t = false

-- null
abbrev pub is_null_test : Test → Bool
is_null_test test.Null = true
is_null_test t = false

-- a test is one that a filter on values of the kind may have among its includes (Looker, filter expressions)
abbrev pub is_include_of : Kind → Test → Bool
is_include_of kind.Text t = is_text_test t
is_include_of kind.Number t = is_number_test t
is_include_of kind.Truth t = is_truth_test t
is_include_of kind.Day t = is_date_test t
is_include_of kind.Moment t = is_date_test t

-- and among its excludes: of dates null alone, and none of yes and no
abbrev pub is_exclude_of : Kind → Test → Bool
is_exclude_of kind.Text t = is_text_test t
is_exclude_of kind.Number t = is_number_test t
is_exclude_of kind.Truth t = false
is_exclude_of kind.Day t = is_null_test t
is_exclude_of kind.Moment t = is_null_test t

-- a filter of the kind: each test is of it, and its mark says whether some test is a relative date
abbrev pub is_filter_of : Kind → Filter → Bool
is_filter_of k f =
    list_all (is_include_of k) f.include && list_all (is_exclude_of k) f.exclude && (if has_relative f then f.relative else not f.relative)

-- ---- sameness

-- two pieces of patterns are the same
abbrev pub is_same_piece : Piece → Piece → Bool
is_same_piece piece.Any piece.Any = true
is_same_piece piece.One piece.One = true
is_same_piece (piece.Byte b) (piece.Byte c) = b == c
is_same_piece p q = false

-- two numbers are the same
abbrev pub is_same_num : Num → Num → Bool
is_same_num m n = int_eq m.0 n.0

-- two comparisons are the same
abbrev pub is_same_comparison : Comparison → Comparison → Bool
is_same_comparison comparison.Equal comparison.Equal = true
is_same_comparison comparison.NotEqual comparison.NotEqual = true
is_same_comparison comparison.Less comparison.Less = true
is_same_comparison comparison.AtMost comparison.AtMost = true
is_same_comparison comparison.Greater comparison.Greater = true
is_same_comparison comparison.AtLeast comparison.AtLeast = true
is_same_comparison c d = false

-- two bounds are the same, or both are left out
abbrev pub is_same_bound : Option Num → Option Num → Bool
is_same_bound None None = true
is_same_bound (Some m) (Some n) = is_same_num m n
is_same_bound m n = false

-- two intervals end at the same number, or at the same infinity
abbrev pub is_same_edge : Edge → Edge → Bool
is_same_edge Lowest Lowest = true
is_same_edge (At m) (At n) = is_same_num m n
is_same_edge Highest Highest = true
is_same_edge e f = false

-- two truth values are the same
abbrev pub is_same_truth : Bool → Bool → Bool
is_same_truth true b = b
is_same_truth false b = not b

-- the same edge with the same bracket
abbrev pub is_same_end : End → End → Bool
is_same_end a b = is_same_edge a.edge b.edge && is_same_truth a.closed b.closed

-- two spans of days are the same
abbrev pub is_same_days : Days → Days → Bool
is_same_days a b = int_eq a.from b.from && int_eq a.up_to b.up_to

-- two periods are the same
abbrev pub is_same_period : Period → Period → Bool
is_same_period Day Day = true
is_same_period Week Week = true
is_same_period Month Month = true
is_same_period Quarter Quarter = true
is_same_period Year Year = true
is_same_period p q = false

-- two counts of periods are the same
abbrev pub is_same_count : ℕ → Period → ℕ → Period → Bool
is_same_count m p n q = (m == n) && is_same_period p q

-- tests that are of one form with equal parts
abbrev pub is_same_test : Test → Test → Bool
is_same_test test.Null test.Null = true
is_same_test test.Empty test.Empty = true
is_same_test (test.Like p) (test.Like q) = pointwise is_same_piece p q
is_same_test (test.Is m) (test.Is n) = is_same_num m n
is_same_test (test.Compare cs) (test.Compare ds) = pointwise (λ c d. is_same_comparison c.0 d.0 && is_same_num c.1 d.1) cs ds
is_same_test (test.To a b) (test.To c d) = is_same_bound a c && is_same_bound b d
is_same_test (test.Range a b) (test.Range c d) = is_same_end a c && is_same_end b d
is_same_test (test.In a) (test.In b) = is_same_days a b
is_same_test (test.Before a) (test.Before b) = is_same_days a b
is_same_test (test.After a) (test.After b) = is_same_days a b
is_same_test (test.FromTo a b) (test.FromTo c d) = is_same_days a c && is_same_days b d
is_same_test test.Today test.Today = true
is_same_test test.Yesterday test.Yesterday = true
is_same_test (test.This p) (test.This q) = is_same_period p q
is_same_test (test.Last p) (test.Last q) = is_same_period p q
is_same_test (test.Recent m p) (test.Recent n q) = is_same_count m p n q
is_same_test (test.Ago m p) (test.Ago n q) = is_same_count m p n q
is_same_test (test.Truth a) (test.Truth b) = is_same_truth a b
is_same_test s t = false

-- each test of the first list is in the second
abbrev pub are_among : List Test → List Test → Bool
are_among xs ys = list_all (λ x. list_any (is_same_test x) ys) xs

-- the includes are equal as sets, and the excludes are
abbrev pub is_same_filter : Filter → Filter → Bool
is_same_filter f g = are_among f.include g.include && are_among g.include f.include && are_among f.exclude g.exclude && are_among g.exclude f.exclude
