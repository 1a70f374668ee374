-- What the parameters of a dimension, a dimension group and a measure say. (Looker, LookML reference: dimension, dimension_group, measure; lookd)
use Rattle.std.specs.Prelude.{ℕ, ℤ, pos, Bool, true, false, not, ◌||◌, ◌&&◌, nat_eq, nat_le, if◌then◌else◌, List, [], ◌∷◌, Option, Some, None, Result, Ok, Err, codes, length}
use Rattle.std.specs.Prelude.{int_lt, int_div}
use Rattle.std.specs.List.{list_all}
use Rattle.std.specs.Option.{option_and_then}
use Rattle.lk_val.specs.Texts.{is_same_text}
use Rattle.lk_val.specs.Numbers.{num_of}
use Rattle.lk_val.specs.declared.num.Num.{Num}
use Rattle.lk_val.specs.declared.num.NumFault.{NumFault}
use Rattle.lk_read.specs.declared.tree.Item.{Item}
use Rattle.lk_read.specs.declared.tree.Node.{Node}
use Rattle.lk_types.specs.declared.schema.Frame.{Frame}
use Rattle.lk_types.specs.declared.schema.Frame.TheVariants as frame
use Rattle.lk_types.specs.declared.explore.Op.{Op}
use Rattle.lk_types.specs.declared.explore.Op.TheVariants as op
use Rattle.lk_objects.specs.declared.field.DimensionType.{DimensionType}
use Rattle.lk_objects.specs.declared.field.DimensionType.TheVariants as type
use Rattle.lk_objects.specs.declared.field.FieldSort.{FieldSort}
use Rattle.lk_objects.specs.declared.field.FieldSort.TheVariants as sort
use Rattle.lk_params.specs.Parameters.{last_named}
use Rattle.lk_params.specs.Picking.{firsts}
use Rattle.lk_params.specs.Values.{prefixed, scalar, words}
use Rattle.lk_written.specs.Values.{text_at}

-- ---- types

abbrev pub dimension_type : List ℕ → Option DimensionType
dimension_type name =
    if is_same_text name (codes "string") || is_same_text name (codes "zipcode") then Some type.Text
    else if is_same_text name (codes "number") then Some type.Number
    else if is_same_text name (codes "yesno") then Some type.Truth
    else if is_same_text name (codes "tier") then Some type.Tier
    else None

-- a dimension without `type` is of type string
abbrev pub dimension_type_of : Option Item → Option DimensionType
dimension_type_of None = Some type.Text
dimension_type_of (Some item) = option_and_then dimension_type (scalar item.value)

abbrev pub measure_type : List ℕ → Option Op
measure_type name =
    if is_same_text name (codes "count") then Some op.Count
    else if is_same_text name (codes "count_distinct") then Some op.CountDistinct
    else if is_same_text name (codes "sum") then Some op.Sum
    else if is_same_text name (codes "average") then Some op.Average
    else if is_same_text name (codes "min") then Some op.Min
    else if is_same_text name (codes "max") then Some op.Max
    else if is_same_text name (codes "sum_distinct") then Some op.SumDistinct
    else if is_same_text name (codes "average_distinct") then Some op.AverageDistinct
    else if is_same_text name (codes "number") then Some op.Number
    else None

-- a field's sort with its type, by the parameter that declares it
abbrev pub sort_of : List ℕ → List Item → FieldSort
sort_of kind items =
    if is_same_text kind (codes "dimension") then sort.Dimension (dimension_type_of (last_named (codes "type") items))
    else if is_same_text kind (codes "measure") then sort.Measure (option_and_then measure_type (text_at (codes "type") items))
    else sort.Group

-- ---- timeframes

abbrev pub all_frames : List Frame
all_frames = frame.Raw ∷ frame.Time ∷ frame.Date ∷ frame.Week ∷ frame.Month ∷ frame.Quarter ∷ frame.Year
    ∷ frame.HourOfDay ∷ frame.DayOfWeek ∷ frame.DayOfMonth ∷ frame.MonthNum ∷ []

-- a part of a moment, and the timeframe of a name
abbrev pub part_named : List ℕ → Option Frame
part_named name =
    if is_same_text name (codes "hour_of_day") then Some frame.HourOfDay
    else if is_same_text name (codes "day_of_week") then Some frame.DayOfWeek
    else if is_same_text name (codes "day_of_month") then Some frame.DayOfMonth
    else if is_same_text name (codes "month_num") then Some frame.MonthNum
    else None

abbrev pub frame_named : List ℕ → Option Frame
frame_named name =
    if is_same_text name (codes "raw") then Some frame.Raw
    else if is_same_text name (codes "time") then Some frame.Time
    else if is_same_text name (codes "date") then Some frame.Date
    else if is_same_text name (codes "week") then Some frame.Week
    else if is_same_text name (codes "month") then Some frame.Month
    else if is_same_text name (codes "quarter") then Some frame.Quarter
    else if is_same_text name (codes "year") then Some frame.Year
    else part_named name

-- the timeframe before others, if there is one
abbrev pub frame_before : Option Frame → List Frame → List Frame
frame_before None frames = frames
frame_before (Some f) frames = f ∷ frames

-- the timeframes that some names name, in order; other names name none
abbrev pub frames_named : List (List ℕ) → List Frame
frames_named [] = []
frames_named (name ∷ names) = frame_before (frame_named name) (frames_named names)

-- each listed timeframe once, in the order of first standing
abbrev pub frames_in : Option (List (List ℕ)) → List Frame
frames_in None = []
frames_in (Some names) = frames_named (firsts is_same_text names)

-- the timeframes of a dimension group: those that are listed, each once, and without `timeframes` all
abbrev pub frames_of : Option Item → List Frame
frames_of None = all_frames
frames_of (Some item) = frames_in (words item.value)

-- ---- tiers

abbrev pub is_digit : ℕ → Bool
is_digit c = nat_le 48 c && nat_le c 57

-- one or more digits, a minus before them aside
abbrev pub is_whole : List ℕ → Bool
is_whole [] = false
is_whole (c ∷ cs) =
    if nat_eq c 45 then not (nat_eq (length cs) 0) && list_all is_digit cs else is_digit c && list_all is_digit cs

-- the whole number of a text, within the range of numbers
abbrev pub whole : List ℕ → Option ℤ
whole text = if is_whole text then count_in (num_of text) else None where
  count_in : Result Num NumFault → Option ℤ
  count_in (Ok n) = Some (int_div n.0 (pos 10000))
  count_in (Err e) = None

-- a number before others, if there are both
abbrev pub number_before : Option ℤ → Option (List ℤ) → Option (List ℤ)
number_before None numbers = None
number_before (Some n) numbers = prefixed (n ∷ []) numbers

-- the whole numbers of texts, if each is one
abbrev pub wholes : List (List ℕ) → Option (List ℤ)
wholes [] = Some []
wholes (text ∷ texts) = number_before (whole text) (wholes texts)

-- the number is below the first of those behind it
abbrev pub is_below_next : ℤ → List ℤ → Bool
is_below_next n [] = true
is_below_next n (next ∷ rest) = int_lt n next

abbrev pub ascends : List ℤ → Bool
ascends [] = true
ascends (n ∷ rest) = is_below_next n rest && ascends rest

-- one or more whole numbers, ascending
abbrev pub bounds_with : List ℤ → Option (List ℤ)
bounds_with [] = None
bounds_with (n ∷ ns) = if ascends (n ∷ ns) then Some (n ∷ ns) else None

abbrev pub bounds_in : Node → Option (List ℤ)
bounds_in value = option_and_then bounds_with (option_and_then wholes (words value))

abbrev pub or_none : Option (List ℤ) → List ℤ
or_none None = []
or_none (Some ns) = ns

-- the bounds of a tier
abbrev pub tiers_of : Option Item → List ℤ
tiers_of None = []
tiers_of (Some item) = or_none (bounds_in item.value)
