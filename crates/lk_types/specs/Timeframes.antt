-- Timeframes of days and moments, in UTC. A day counts from 1970-01-01 in a value, and here from 0001-01-01, a Monday.
use Rattle.std.specs.Prelude.{ℕ, ◌+◌, ◌-◌, ◌*◌, ◌/◌, ◌%◌, ◌==◌, Bool, if◌then◌else◌, pos, ◌+ℤ◌, List, [], ◌∷◌, slice_index_or, codes}
use Rattle.std.specs.List.{list_any}
use Rattle.lk_val.specs.declared.value.Value.{Value}
use Rattle.lk_val.specs.declared.value.Value.TheVariants as value
use Rattle.lk_types.specs.Calendar.{from_year_one, from_1970, midnight, day_of_moment, second_of_moment, year_of, year_start, month_of, month_start, day_of_month}
use Rattle.lk_types.specs.declared.schema.Frame.{Frame}
use Rattle.lk_types.specs.declared.schema.Frame.TheVariants.{Raw, Time, Date, Week, Month, Quarter, Year, HourOfDay, DayOfWeek, DayOfMonth, MonthNum}

-- ---- the timeframes of a day or moment

-- the first day of the quarter of a month
abbrev pub quarter_start : ℕ → ℕ → ℕ
quarter_start year month = month_start year (3 * ((month - 1) / 3) + 1)

-- the name of a day's weekday
abbrev pub weekday_name : ℕ → List ℕ
weekday_name n = slice_index_or (codes "Monday" ∷ codes "Tuesday" ∷ codes "Wednesday" ∷ codes "Thursday" ∷ codes "Friday" ∷ codes "Saturday" ∷ codes "Sunday" ∷ []) (n % 7) []

-- a whole number and a day as values
abbrev pub whole : ℕ → Value
whole n = value.Num (record { 0 = pos (10000 * n) })

-- a day from 0001-01-01 as a value
abbrev pub day_at : ℕ → Value
day_at n = value.Day (from_1970 n)

-- the timeframe of a value v on day n, s seconds after midnight
abbrev pub framed : Frame → Value → ℕ → ℕ → Value
framed Raw v n s = v
framed Time v n s = value.Moment (midnight (from_1970 n) +ℤ pos s)
framed Date v n s = day_at n
framed Week v n s = day_at (n - n % 7)
framed Month v n s = day_at (month_start (year_of n) (month_of (year_of n) n))
framed Quarter v n s = day_at (quarter_start (year_of n) (month_of (year_of n) n))
framed Year v n s = day_at (year_start (year_of n))
framed HourOfDay v n s = whole (s / 3600)
framed DayOfWeek v n s = value.Text (weekday_name n)
framed DayOfMonth v n s = whole (day_of_month n)
framed MonthNum v n s = whole (month_of (year_of n) n)

-- the timeframe of a day or moment, null for null (Looker, LookML reference: timeframes)
abbrev pub timeframe_of : Frame → Value → Value
timeframe_of f (value.Day d) = framed f (value.Day d) (from_year_one d) 0
timeframe_of f (value.Moment m) = framed f (value.Moment m) (from_year_one (day_of_moment m)) (second_of_moment m)
timeframe_of f v = value.Null

-- ---- which timeframes are had from which

-- the place of a timeframe among the timeframes
abbrev pub frame_place : Frame → ℕ
frame_place Raw = 0
frame_place Time = 1
frame_place Date = 2
frame_place Week = 3
frame_place Month = 4
frame_place Quarter = 5
frame_place Year = 6
frame_place HourOfDay = 7
frame_place DayOfWeek = 8
frame_place DayOfMonth = 9
frame_place MonthNum = 10

-- two timeframes are the same
abbrev pub is_same_frame : Frame → Frame → Bool
is_same_frame f g = frame_place f == frame_place g

-- the timeframes that one is had from
abbrev pub sources_of : Frame → List Frame
sources_of Raw = Raw ∷ []
sources_of Time = Raw ∷ Time ∷ []
sources_of Date = Raw ∷ Time ∷ Date ∷ []
sources_of Week = Raw ∷ Time ∷ Date ∷ Week ∷ []
sources_of Month = Raw ∷ Time ∷ Date ∷ Month ∷ []
sources_of Quarter = Raw ∷ Time ∷ Date ∷ Month ∷ Quarter ∷ []
sources_of Year = Raw ∷ Time ∷ Date ∷ Month ∷ Quarter ∷ Year ∷ []
sources_of HourOfDay = Raw ∷ Time ∷ HourOfDay ∷ []
sources_of DayOfWeek = Raw ∷ Time ∷ Date ∷ DayOfWeek ∷ []
sources_of DayOfMonth = Raw ∷ Time ∷ Date ∷ DayOfMonth ∷ []
sources_of MonthNum = Raw ∷ Time ∷ Date ∷ Month ∷ MonthNum ∷ []

-- the coarse timeframe is had from the fine one
abbrev pub is_had_from : Frame → Frame → Bool
is_had_from coarse fine = list_any (is_same_frame fine) (sources_of coarse)

-- a value of the finer timeframe brought to the coarser one, which is had from it
abbrev pub coarsened : Frame → Frame → Value → Value
coarsened coarse fine v = if is_same_frame coarse fine then v else timeframe_of coarse v
