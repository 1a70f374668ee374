-- The values that have timeframes, and the values that a timeframe has.
use Rattle.std.specs.Prelude.{ℕ, ◌*◌, ◌≡◌, ⊤, ℤ, pos, neg_ℤ, ◌≤ℤ◌}
use Rattle.lk_val.specs.declared.value.Value.{Value}
use Rattle.lk_val.specs.declared.value.Value.TheVariants.{Null, Text, Num, Day, Moment}
use Rattle.lk_types.specs.declared.schema.Frame.{Frame}
use Rattle.lk_types.specs.declared.schema.Frame.TheVariants.{Date, HourOfDay, DayOfWeek, DayOfMonth, MonthNum}
use Rattle.lk_val.specs.Years.{IsDayInYears, IsMomentInYears}
use Rattle.lk_types.specs.Timeframes.{timeframe_of}

-- null, or a day or moment of the years 1 to 9999
abbrev pub IsInYears : Value → Type 0
IsInYears Null = ⊤
IsInYears (Day d) = IsDayInYears d
IsInYears (Moment m) = IsMomentInYears m
IsInYears v = ⊥

-- a day of the years 1 to 9999
abbrev pub IsDay : Value → Type 0
IsDay (Day d) = IsDayInYears d
IsDay v = ⊥

-- the timeframe of a day or moment, where a day of the week is the day, which has the weekday's name
abbrev pub frame_value : Frame → Value → Value
frame_value DayOfWeek v = timeframe_of Date v
frame_value f v = timeframe_of f v

-- null, or a whole number between two
abbrev pub IsWholeBetween : ℕ → ℕ → Value → Type 0
IsWholeBetween low high Null = ⊤
IsWholeBetween low high (Num n) = (pos (10000 * low) ≤ℤ n.0) × (n.0 ≤ℤ pos (10000 * high))
IsWholeBetween low high v = ⊥

-- the range of a timeframe's values: an hour, a day of the month, a month's number, or a day or moment of the years
abbrev pub IsInRangeOf : Frame → Value → Type 0
IsInRangeOf HourOfDay v = IsWholeBetween 0 23 v
IsInRangeOf DayOfMonth v = IsWholeBetween 1 31 v
IsInRangeOf MonthNum v = IsWholeBetween 1 12 v
IsInRangeOf f v = IsInYears v

-- the value is the timeframe of some day, moment or null in range
pub record IsOfFrame (f : Frame) (v : Value) : Type 0 where
  pub source : Value
  pub in_years : IsInYears source
  pub same : frame_value f source ≡ v

-- the value is no text
abbrev pub IsNoText : Value → Type 0
IsNoText (Text t) = ⊥
IsNoText v = ⊤
