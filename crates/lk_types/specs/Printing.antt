-- How the cells of an answer print, by the shape of their column.
use Rattle.std.specs.Prelude.{ℕ, ◌==◌, length, slice_index_or, Option, Some, None, ◌/◌, ◌%◌, ◌+◌, ◌-◌, Bool, true, false, if◌then◌else◌, ℤ, pos, ◌*ℤ◌, ◌-ℤ◌, int_lt, List, [], ◌++◌, codes, decimal}
use Rattle.std.specs.Fmt.{signed_decimal}
use Rattle.std.specs.List.{position}
use Rattle.std.specs.Ordering.{int_eq}
use Rattle.lk_val.specs.Numbers.{number_text}
use Rattle.lk_val.specs.declared.value.Value.{Value}
use Rattle.lk_val.specs.declared.value.Value.TheVariants as value
use Rattle.lk_val.specs.declared.cell.Cell.{Cell}
use Rattle.lk_val.specs.declared.cell.Cell.TheVariants as cell
use Rattle.lk_val.specs.Fractions.{Fraction}
use Rattle.lk_types.specs.Calendar.{from_year_one, day_of_moment, second_of_moment, year_of, month_of, day_of_month}
use Rattle.lk_types.specs.declared.schema.Frame.{Frame}
use Rattle.lk_types.specs.declared.schema.Frame.TheVariants as frame
use Rattle.lk_types.specs.declared.explore.Shape.{Shape}
use Rattle.lk_types.specs.declared.explore.Shape.TheVariants as shape

-- a number below 100 in two digits
abbrev pub two_digits : ℕ → List ℕ
two_digits n = decimal (n / 10 % 10) ++ decimal (n % 10)

-- a number below 10,000 in four digits
abbrev pub four_digits : ℕ → List ℕ
four_digits n = decimal (n / 1000) ++ decimal (n / 100 % 10) ++ two_digits n

-- a day, from 0001-01-01, as `YYYY-MM-DD` (ISO 8601)
unfoldable pub date_text : ℕ → List ℕ
date_text day = four_digits (year_of day) ++ codes "-" ++ two_digits (month_of (year_of day) day) ++ codes "-" ++ two_digits (day_of_month day)

-- a second of a day as `HH:MM:SS`
unfoldable pub time_text : ℕ → List ℕ
time_text second = two_digits (second / 3600) ++ codes ":" ++ two_digits (second / 60 % 60) ++ codes ":" ++ two_digits (second % 60)

-- null as nothing, a text as itself, a truth value as `Yes` or `No` (lookd)
abbrev pub value_text : Value → List ℕ
value_text value.Null = []
value_text (value.Text text) = text
value_text (value.Num n) = number_text n.0
value_text (value.Truth true) = codes "Yes"
value_text (value.Truth false) = codes "No"
value_text (value.Day day) = date_text (from_year_one day)
value_text (value.Moment moment) = date_text (from_year_one (day_of_moment moment)) ++ codes " " ++ time_text (second_of_moment moment)

-- ---- timeframes and tiers

-- the month of a day as `YYYY-MM`, its quarter as `YYYY-Qn`, its year as `YYYY` (Looker, LookML reference: timeframes)
unfoldable pub month_text : ℕ → List ℕ
month_text day = four_digits (year_of day) ++ codes "-" ++ two_digits (month_of (year_of day) day)

-- the quarter of a day as `YYYY-Qn`
unfoldable pub quarter_text : ℕ → List ℕ
quarter_text day = four_digits (year_of day) ++ codes "-Q" ++ decimal ((month_of (year_of day) day + 2) / 3)

-- the year of a day as `YYYY`
unfoldable pub year_text : ℕ → List ℕ
year_text day = four_digits (year_of day)

-- a value of a timeframe: the first day of a month, quarter or year as that, and every other value by its kind
abbrev pub frame_text : Frame → Value → List ℕ
frame_text frame.Month (value.Day day) = month_text (from_year_one day)
frame_text frame.Quarter (value.Day day) = quarter_text (from_year_one day)
frame_text frame.Year (value.Day day) = year_text (from_year_one day)
frame_text f v = value_text v

-- a bound of a tier is a whole number; it is above a count of 1/10,000
abbrev pub is_bound_above : ℤ → ℤ → Bool
is_bound_above count bound = int_lt count (bound *ℤ pos 10000)

-- the bound of a number
abbrev pub bound_at : List ℤ → ℕ → ℤ
bound_at bounds i = slice_index_or bounds i (pos 0)

-- the tier below the bound of a number, and above the last bound where there is none
unfoldable pub tier_below : List ℤ → Option ℕ → List ℕ
tier_below bounds None = signed_decimal (bound_at bounds (length bounds - 1)) ++ codes " or Above"
tier_below bounds (Some i) =
    if i == 0
    then codes "Below " ++ signed_decimal (bound_at bounds 0)
    else signed_decimal (bound_at bounds (i - 1)) ++ codes " to " ++ signed_decimal (bound_at bounds i -ℤ pos 1)

-- the tier of a count of 1/10,000 among ascending bounds (Looker, LookML reference: tiers, style `integer`)
abbrev pub tier_text : List ℤ → ℤ → List ℕ
tier_text bounds count = tier_below bounds (position (is_bound_above count) bounds)

-- a value by the shape of its column; a tier of null is `Undefined`
abbrev pub shaped_text : Shape → Value → List ℕ
shaped_text shape.Plain v = value_text v
shaped_text (shape.Tier bounds) (value.Num n) = tier_text bounds n.0
shaped_text (shape.Tier bounds) v = codes "Undefined"
shaped_text (shape.Frame group f) v = frame_text f v

-- ---- cells

-- a fraction as `n/d`, or `n` where d is 1
abbrev pub fraction_text : Fraction → List ℕ
fraction_text f = if int_eq f.d (pos 1) then signed_decimal f.n else signed_decimal f.n ++ codes "/" ++ signed_decimal f.d

-- a value by its shape, a count in decimal, a sum as a number
abbrev pub cell_text : Shape → Cell → List ℕ
cell_text s (cell.Value v) = shaped_text s v
cell_text s (cell.Count n) = decimal n
cell_text s (cell.Sum count) = number_text count
cell_text s (cell.Frac f) = fraction_text f

-- a cell in JSON: its text, and nothing for null, but for the null of a tier, which has a name
abbrev pub cell_json : Shape → Cell → Option (List ℕ)
cell_json (shape.Tier bounds) c = Some (cell_text (shape.Tier bounds) c)
cell_json s (cell.Value value.Null) = None
cell_json s c = Some (cell_text s c)
