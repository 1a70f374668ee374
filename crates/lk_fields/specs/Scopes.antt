-- Which declared field a name means. (Looker, LookML reference: substitution operators; lookd)
use Rattle.std.specs.Prelude.{ℕ, ◌+◌, ◌==◌, Bool, true, false, nat_lt, length, if◌then◌else◌, List, [], ◌∷◌, ◌++◌, map, Option, Some, None, codes, slice_get}
use Rattle.std.specs.List.{after_first, before_first, position, position_or_len}
use Rattle.std.specs.Option.{option_and_then, option_map, option_or}
use Rattle.lk_val.specs.Texts.{is_same_text}
use Rattle.lk_types.specs.declared.schema.Frame.{Frame}
use Rattle.lk_types.specs.declared.schema.Frame.TheVariants as frame
use Rattle.lk_objects.specs.declared.field.DeclaredField.{DeclaredField}
use Rattle.lk_objects.specs.declared.field.FieldSort.{FieldSort}
use Rattle.lk_objects.specs.declared.field.FieldSort.TheVariants as field_sort
use Rattle.lk_objects.specs.declared.view.DeclaredView.{DeclaredView}
use Rattle.lk_fields.specs.declared.scope.Found.{Found}
use Rattle.lk_fields.specs.declared.scope.Scope.{Scope}
use Rattle.lk_fields.specs.declared.scope.Sort.{Sort}
use Rattle.lk_fields.specs.declared.scope.Sort.TheVariants as sort
use Rattle.lk_fields.specs.declared.scope.Writer.{Writer}
use Rattle.lk_fields.specs.declared.scope.Writer.TheVariants as writer

-- ---- the fields that a declaration makes

abbrev pub frame_name : Frame → List ℕ
frame_name frame.Raw = codes "raw"
frame_name frame.Time = codes "time"
frame_name frame.Date = codes "date"
frame_name frame.Week = codes "week"
frame_name frame.Month = codes "month"
frame_name frame.Quarter = codes "quarter"
frame_name frame.Year = codes "year"
frame_name frame.HourOfDay = codes "hour_of_day"
frame_name frame.DayOfWeek = codes "day_of_week"
frame_name frame.DayOfMonth = codes "day_of_month"
frame_name frame.MonthNum = codes "month_num"

-- the field that a dimension group makes for a timeframe
abbrev pub framed_name : List ℕ → Frame → List ℕ
framed_name group f = group ++ (codes "_" ++ frame_name f)

-- a dimension or a measure makes itself; a dimension group makes a field for each of its timeframes, and none of its own name
abbrev pub made_with : FieldSort → List ℕ → List Frame → List (List ℕ × Option Frame)
made_with field_sort.Group name frames = map (λ f. (framed_name name f, Some f)) frames
made_with s name frames = (name, None) ∷ []

-- the names of the fields that a declaration makes, each with its timeframe
abbrev pub made : DeclaredField → List (List ℕ × Option Frame)
made field = made_with field.sort field.name field.frames

abbrev pub has_sort : Sort → FieldSort → Bool
has_sort sort.Measure (field_sort.Measure op) = true
has_sort sort.Measure s = false
has_sort sort.Dimension (field_sort.Measure op) = false
has_sort sort.Dimension s = true

-- the timeframe with which the first of some made fields has a name, if one has it
abbrev pub frame_of : List ℕ → List (List ℕ × Option Frame) → Option (Option Frame)
frame_of name [] = None
frame_of name (field ∷ fields) = if is_same_text field.0 name then Some field.1 else frame_of name fields

-- ---- a name in one view

-- the timeframe with which a declaration of this sort makes the name
abbrev pub frame_made : Sort → List ℕ → DeclaredField → Option (Option Frame)
frame_made s name field = if has_sort s field.sort then frame_of name (made field) else None

-- a number with a timeframe, if there is one
abbrev pub numbered : ℕ → Option (Option Frame) → Option (ℕ × Option Frame)
numbered n None = None
numbered n (Some f) = Some (n, f)

-- the first of some declarations of this sort that makes the name, by its number, from n on, with the timeframe
abbrev pub first_making : Sort → List ℕ → ℕ → List DeclaredField → Option (ℕ × Option Frame)
first_making s name n [] = None
first_making s name n (field ∷ fields) = option_or (numbered n (frame_made s name field)) (first_making s name (n + 1) fields)

abbrev pub in_view : Sort → List ℕ → DeclaredView → Option (ℕ × Option Frame)
in_view s name view = first_making s name 0 view.fields

-- ---- a name in a scope, given all views

-- the view of a part
abbrev pub view_at : List DeclaredView → Scope → ℕ → Option DeclaredView
view_at views scope n = option_and_then (λ part. option_and_then (slice_get views) part.view) (slice_get scope.parts n)

-- the part of this name
abbrev pub part_named : Scope → List ℕ → Option ℕ
part_named scope name = position (λ part. is_same_text part.name name) scope.parts

abbrev pub is_called : List ℕ → Option DeclaredView → Bool
is_called name None = false
is_called name (Some view) = is_same_text view.name name

-- the part that a view's name means in the text of a field: the field's own for the declared name of its view, also where
-- the explore knows the view by another name, and else the part of the name
abbrev pub part_from : List DeclaredView → Scope → ℕ → List ℕ → Option ℕ
part_from views scope own name = if is_called name (view_at views scope own) then Some own else part_named scope name

abbrev pub part_meant : List DeclaredView → Scope → Writer → Option (List ℕ) → Option ℕ
part_meant views scope (writer.Field own) None = Some own
part_meant views scope (writer.Field own) (Some name) = part_from views scope own name
part_meant views scope writer.Explore None = Some 0
part_meant views scope writer.Explore (Some name) = part_named scope name

abbrev pub found_at : ℕ → ℕ × Option Frame → Found
found_at part field = record { place = record { part = part; field = field.0 }; frame = field.1 }

-- the declared field of a part that a name means
abbrev pub found_in_part : List DeclaredView → Scope → List ℕ → Sort → ℕ → Option Found
found_in_part views scope name s part =
    option_map (found_at part) (option_and_then (in_view s name) (view_at views scope part))

-- the declared field that a name means, whether or not the explore has it as a field
abbrev pub found_in : List DeclaredView → Scope → Writer → Option (List ℕ) → List ℕ → Sort → Option Found
found_in views scope w view name s =
    option_and_then (found_in_part views scope name s) (part_meant views scope w view)

-- ---- whole names, as filters and other parameters have them

abbrev pub is_dot : ℕ → Bool
is_dot c = c == 46

abbrev pub has_dot : List ℕ → Bool
has_dot text = nat_lt (position_or_len is_dot text) (length text)

-- a name as `view.name`, round the first dot, or as `name`
abbrev pub split_name : List ℕ → Option (List ℕ) × List ℕ
split_name whole =
    if has_dot whole then (Some (before_first is_dot whole), after_first is_dot whole) else (None, whole)

-- the declared field that a whole name means
abbrev pub found_by : List DeclaredView → Scope → Writer → List ℕ → Sort → Option Found
found_by views scope w whole s = let parts = split_name whole in found_in views scope w parts.0 parts.1 s
