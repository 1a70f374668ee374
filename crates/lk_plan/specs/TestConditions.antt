-- The condition of a filter's test over what is filtered, by its kind.
use Rattle.std.specs.Prelude.{Bool, true, false, ◌||◌, if◌then◌else◌, ℤ, int_lt, [], map, Option, Some, None, option_map}
use Rattle.lk_val.specs.declared.num.Num.{Num}
use Rattle.lk_val.specs.declared.value.Value.{Value}
use Rattle.lk_val.specs.declared.value.Value.TheVariants as value
use Rattle.lk_types.specs.Calendar.{midnight}
use Rattle.lk_val.specs.Years.{first_day, last_day}
use Rattle.lk_types.specs.Formula.{Formula, Literal, Or, Compare, IsNull, Like}
use Rattle.lk_types.specs.declared.expr.Comparison.{Comparison}
use Rattle.lk_types.specs.declared.expr.Comparison.TheVariants as comparison
use Rattle.lk_types.specs.declared.filter.Edge.{Edge}
use Rattle.lk_types.specs.declared.filter.Edge.TheVariants.{Lowest, At, Highest}
use Rattle.lk_types.specs.declared.filter.End.{End}
use Rattle.lk_types.specs.declared.filter.Test.{Test}
use Rattle.lk_types.specs.declared.filter.Test.TheVariants as test
use Rattle.lk_types.specs.declared.schema.Kind.{Kind}
use Rattle.lk_types.specs.declared.schema.Kind.TheVariants as kind
use Rattle.lk_plan.specs.Joining.{no, known_with, within}

-- ---- texts

-- a text's test; one of another kind is met by no text
abbrev pub text_condition : Formula → Test → Formula
text_condition x test.Null = IsNull x
text_condition x test.Empty = Or (IsNull x) (Compare comparison.Equal x (Literal (value.Text [])))
text_condition x (test.Like pieces) = Like x pieces
text_condition x t = no

-- ---- numbers

-- it compares so with a number
abbrev pub compares_with : Formula → Comparison → Num → Formula
compares_with x c n = Compare c x (Literal (value.Num n))

-- it compares so with a bound, where there is one
abbrev pub bound_condition : Formula → Comparison → Option Num → Option Formula
bound_condition x c bound = option_map (compares_with x c) bound

-- it is above the lower end of an interval, or at it where the end belongs to the interval; below every number there is no end
abbrev pub above_condition : Formula → Edge → Bool → Option Formula
above_condition x (At n) true = Some (compares_with x comparison.AtLeast n)
above_condition x (At n) false = Some (compares_with x comparison.Greater n)
above_condition x edge closed = None

-- and below the upper end
abbrev pub below_condition : Formula → Edge → Bool → Option Formula
below_condition x (At n) true = Some (compares_with x comparison.AtMost n)
below_condition x (At n) false = Some (compares_with x comparison.Less n)
below_condition x edge closed = None

-- an interval of these ends begins above every number, or ends below every number
abbrev pub is_nowhere : Edge → Edge → Bool
is_nowhere Highest high = true
is_nowhere low Lowest = true
is_nowhere low high = false

abbrev pub range_condition : Formula → End → End → Formula
range_condition x low high =
    if is_nowhere low.edge high.edge then no
    else within x (above_condition x low.edge low.closed) (below_condition x high.edge high.closed)

-- a number's test
abbrev pub number_condition : Formula → Test → Formula
number_condition x test.Null = IsNull x
number_condition x test.Empty = IsNull x
number_condition x (test.Is n) = compares_with x comparison.Equal n
number_condition x (test.Compare cs) = known_with x (map (λ c. compares_with x c.0 c.1) cs)
number_condition x (test.To low high) = within x (bound_condition x comparison.AtLeast low) (bound_condition x comparison.AtMost high)
number_condition x (test.Range low high) = range_condition x low high
number_condition x t = no

-- ---- truth values

abbrev pub truth_condition : Formula → Test → Formula
truth_condition x test.Null = IsNull x
truth_condition x test.Empty = IsNull x
truth_condition x (test.Truth b) = Compare comparison.Equal x (Literal (value.Truth b))
truth_condition x t = no

-- ---- days and moments

-- a day as a value that stands beside days, or beside moments
abbrev pub day_literal : Kind → ℤ → Value
day_literal kind.Moment d = value.Moment (midnight d)
day_literal k d = value.Day d

abbrev pub compares_with_day : Kind → Formula → Comparison → ℤ → Formula
compares_with_day k x c d = Compare c x (Literal (day_literal k d))

-- it is at or after the start of a day, if there is one; a day before the years 1 to 9999 is left out, since no literal is of it
abbrev pub from_condition : Kind → Formula → Option ℤ → Option Formula
from_condition k x None = None
from_condition k x (Some d) = if int_lt d first_day then None else Some (compares_with_day k x comparison.AtLeast d)

-- it is before the start of a day, if there is one; a day behind those years is left out
abbrev pub before_condition : Kind → Formula → Option ℤ → Option Formula
before_condition k x None = None
before_condition k x (Some d) = if int_lt last_day d then None else Some (compares_with_day k x comparison.Less d)

-- the days begin behind the years 1 to 9999
abbrev pub begins_late : Option ℤ → Bool
begins_late None = false
begins_late (Some d) = int_lt last_day d

-- and end before them
abbrev pub ends_early : Option ℤ → Bool
ends_early None = false
ends_early (Some d) = int_lt d first_day

-- it is in the days from one up to another
abbrev pub span_condition : Kind → Formula → Option ℤ → Option ℤ → Formula
span_condition k x from up_to =
    if begins_late from || ends_early up_to then no else within x (from_condition k x from) (before_condition k x up_to)

-- the test of a day or moment, whose relative dates are days already
abbrev pub date_condition : Kind → Formula → Test → Formula
date_condition k x test.Null = IsNull x
date_condition k x test.Empty = IsNull x
date_condition k x (test.In days) = span_condition k x (Some days.from) (Some days.up_to)
date_condition k x (test.Before days) = span_condition k x None (Some days.from)
date_condition k x (test.After days) = span_condition k x (Some days.from) None
date_condition k x (test.FromTo first last) = span_condition k x (Some first.from) (Some last.from)
date_condition k x t = no

-- ---- all kinds

-- the condition of a test over what is filtered, of a kind (Looker, filter expressions)
abbrev pub test_condition : Kind → Formula → Test → Formula
test_condition kind.Text x t = text_condition x t
test_condition kind.Number x t = number_condition x t
test_condition kind.Truth x t = truth_condition x t
test_condition kind.Day x t = date_condition kind.Day x t
test_condition kind.Moment x t = date_condition kind.Moment x t
