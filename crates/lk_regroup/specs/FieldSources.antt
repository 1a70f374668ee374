-- Where the values of a query's fields come from in a group of an aggregate table.
use Rattle.std.specs.Prelude.{ℕ, ◌+◌, ◌==◌, Bool, false, ◌&&◌, ◌||◌, if◌then◌else◌, List, [], ◌∷◌, slice_index_or, Option, Some, None}
use Rattle.std.specs.List.{list_all}
use Rattle.lk_val.specs.declared.value.Value.{Value}
use Rattle.lk_val.specs.declared.value.Value.TheVariants as value
use Rattle.lk_types.specs.Filters.{passes}
use Rattle.lk_types.specs.Timeframes.{is_had_from, is_same_frame, timeframe_of}
use Rattle.lk_types.specs.declared.explore.Explore.{Explore}
use Rattle.lk_types.specs.declared.explore.Shape.{Shape}
use Rattle.lk_types.specs.declared.explore.Shape.TheVariants as shape
use Rattle.lk_types.specs.declared.filter.Filter.{Filter}
use Rattle.lk_types.specs.declared.schema.Frame.{Frame}
use Rattle.lk_semantics.specs.Rows.{field_at}
use Rattle.lk_regroup.specs.declared.source.FieldSource.{FieldSource}
use Rattle.lk_regroup.specs.declared.source.Timeframe.{Timeframe}

-- the timeframe of a field of a view's group, if it is one
abbrev pub timeframe_in : ℕ → Shape → Option Timeframe
timeframe_in part (shape.Frame group frame) = Some (record { part = part; group = group; frame = frame })
timeframe_in part s = None

abbrev pub timeframe_at : Explore → ℕ → Option Timeframe
timeframe_at x f = timeframe_in (field_at x f).part (field_at x f).shape

-- timeframes of one group, of which the first is had from the second
abbrev pub is_had : Option Timeframe → Option Timeframe → Bool
is_had (Some t) (Some u) = (t.part == u.part) && ((t.group == u.group) && is_had_from t.frame u.frame)
is_had t u = false

-- the dimension gives the field: it is the field, or a finer timeframe of its view's group
abbrev pub gives : Explore → ℕ → ℕ → Bool
gives x f d = (d == f) || is_had (timeframe_at x f) (timeframe_at x d)

-- the timeframe that a value of the second is brought to for the first, if it does not stay as it is
abbrev pub frame_between : Option Timeframe → Option Timeframe → Option Frame
frame_between (Some t) (Some u) = if is_same_frame t.frame u.frame then None else Some t.frame
frame_between t u = None

-- the timeframe that a dimension's value is brought to for a field
abbrev pub frame_for : Explore → ℕ → ℕ → Option Frame
frame_for x f d = if d == f then None else frame_between (timeframe_at x f) (timeframe_at x d)

-- where a field's value comes from: the first dimension that gives it, of those from a place on
abbrev pub source_from : Explore → ℕ → ℕ → List ℕ → Option FieldSource
source_from x f place [] = None
source_from x f place (d ∷ dims) = if gives x f d then Some (record { place = place; frame = frame_for x f d }) else source_from x f (place + 1) dims

abbrev pub source_of : Explore → List ℕ → ℕ → Option FieldSource
source_of x dims f = source_from x f 0 dims

-- the value, brought to a timeframe where there is one
abbrev pub brought : Option Frame → Value → Value
brought None v = v
brought (Some f) v = timeframe_of f v

-- the value that a group has at a source, null where it has none
abbrev pub value_from : List Value → Option FieldSource → Value
value_from group None = value.Null
value_from group (Some s) = brought s.frame (slice_index_or group s.place value.Null)

-- a filter on a field, with where that field's value comes from
abbrev pub sourced : Explore → List ℕ → ℕ × Filter → Option FieldSource × Filter
sourced x dims f = (source_of x dims f.0, f.1)

-- the group passes a filter
abbrev pub passes_at : List Value → Option FieldSource × Filter → Bool
passes_at group f = passes f.1 (value_from group f.0)

-- the group passes each filter
abbrev pub passes_each : List (Option FieldSource × Filter) → List Value → Bool
passes_each filters group = list_all (passes_at group) filters
