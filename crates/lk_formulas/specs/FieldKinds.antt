-- The kinds of fields, and where kinds clash. (Looker, LookML reference: type; lookd)
use Rattle.std.specs.Prelude.{ℕ, Bool, true, false, not, ◌&&◌, ◌||◌, if◌then◌else◌, List, Option, Some, None}
use Rattle.std.specs.List.{list_any}
use Rattle.std.specs.Option.{option_and_then, option_or}
use Rattle.lk_types.specs.Kinds.{every_kind, has_kind, has_time, is_empty, kinds_framed, single}
use Rattle.lk_types.specs.declared.explore.Op.{Op}
use Rattle.lk_types.specs.declared.explore.Op.TheVariants as op
use Rattle.lk_types.specs.declared.kind_set.KindSet.{KindSet}
use Rattle.lk_types.specs.declared.schema.Frame.{Frame}
use Rattle.lk_types.specs.declared.schema.Frame.TheVariants as frame
use Rattle.lk_types.specs.declared.schema.Kind.{Kind}
use Rattle.lk_types.specs.declared.schema.Kind.TheVariants as kind
use Rattle.lk_types.specs.declared.schema.Schema.{Schema}
use Rattle.lk_objects.specs.declared.code.Code.{Code}
use Rattle.lk_objects.specs.declared.code.Code.TheVariants as code
use Rattle.lk_objects.specs.declared.field.DeclaredField.{DeclaredField}
use Rattle.lk_objects.specs.declared.field.DimensionType.{DimensionType}
use Rattle.lk_objects.specs.declared.field.DimensionType.TheVariants as type
use Rattle.lk_objects.specs.declared.field.FieldSort.{FieldSort}
use Rattle.lk_objects.specs.declared.field.FieldSort.TheVariants as field_sort
use Rattle.lk_objects.specs.declared.view.DeclaredView.{DeclaredView}
use Rattle.lk_fields.specs.declared.scope.Found.{Found}
use Rattle.lk_fields.specs.declared.scope.Place.{Place}
use Rattle.lk_fields.specs.declared.scope.Scope.{Scope}
use Rattle.lk_fields.specs.declared.scope.Writer.TheVariants as writer
use Rattle.lk_fields.specs.Existing.{field_at, referred}
use Rattle.lk_formulas.specs.declared.columns.ColumnKinds.{ColumnKinds}
use Rattle.lk_formulas.specs.declared.columns.UnknownColumn.{UnknownColumn}
use Rattle.lk_formulas.specs.FormulaKinds.{kinds_in}
use Rattle.lk_formulas.specs.Formulas.{dated_in, dated_of, ends, is_certain}

-- the kind of a dimension's type; an unknown type has none
abbrev pub kind_of_type : Option DimensionType → Option Kind
kind_of_type None = None
kind_of_type (Some type.Text) = Some kind.Text
kind_of_type (Some type.Number) = Some kind.Number
kind_of_type (Some type.Tier) = Some kind.Number
kind_of_type (Some type.Truth) = Some kind.Truth

-- the kind of a timeframe; a raw one has that of its group
abbrev pub kind_of_frame : Frame → Option Kind
kind_of_frame frame.Raw = None
kind_of_frame frame.Time = Some kind.Moment
kind_of_frame frame.HourOfDay = Some kind.Number
kind_of_frame frame.DayOfMonth = Some kind.Number
kind_of_frame frame.MonthNum = Some kind.Number
kind_of_frame frame.DayOfWeek = Some kind.Text
kind_of_frame f = Some kind.Day

-- a kind, where all that stands in the expression is known
abbrev pub kind_if : Bool → Kind → Option Kind
kind_if certain k = if certain then Some k else None

-- the one of day and moment that an expression may have
abbrev pub single_time : KindSet → Option Kind
single_time kinds = single (kinds_framed frame.Raw kinds)

-- of an expression of these kinds: the one of day and moment, and a moment where it gives neither; none where kinds clash
abbrev pub time_kind : KindSet → Bool → Option Kind
time_kind kinds certain = if is_empty kinds then None else option_or (single_time kinds) (kind_if certain kind.Moment)

-- the one kind, and text where it gives none
abbrev pub value_kind : KindSet → Bool → Option Kind
value_kind kinds certain = if is_empty kinds then None else option_or (single kinds) (kind_if certain kind.Text)

-- the kind of a time group with or without a timeframe, given that of the group
abbrev pub framed_kind : Option Frame → Option Kind → Option Kind
framed_kind None group = group
framed_kind (Some f) group = option_or (kind_of_frame f) group

-- the kind of a dimension by its sort
abbrev pub dimension_kind : FieldSort → Option Frame → Option Kind → Option Kind
dimension_kind (field_sort.Dimension t) f group = kind_of_type t
dimension_kind field_sort.Group f group = framed_kind f group
dimension_kind (field_sort.Measure o) f group = None

-- the kind of a measure by its sort, given that of the values of a `min` or `max`; any other is a number
abbrev pub kind_of_measure : FieldSort → Option Kind → Option Kind
kind_of_measure (field_sort.Measure (Some op.Min)) extreme = extreme
kind_of_measure (field_sort.Measure (Some op.Max)) extreme = extreme
kind_of_measure s extreme = Some kind.Number

abbrev pub is_no_number : Option Kind → Bool
is_no_number None = false
is_no_number (Some kind.Number) = false
is_no_number (Some k) = true

-- a dimension of unknown type is taken as a text
abbrev pub or_text : Option Kind → Kind
or_text None = kind.Text
or_text (Some k) = k

-- a measure of numbers
abbrev pub adds_numbers : Option Op → Bool
adds_numbers (Some op.Sum) = true
adds_numbers (Some op.Average) = true
adds_numbers (Some op.SumDistinct) = true
adds_numbers (Some op.AverageDistinct) = true
adds_numbers o = false

-- a measure of type number
abbrev pub is_number : FieldSort → Bool
is_number (field_sort.Measure (Some op.Number)) = true
is_number s = false

-- an expression of these kinds has not the kind that the type of a field needs
abbrev pub misses_kind : FieldSort → KindSet → Bool
misses_kind (field_sort.Dimension t) kinds = not (has_kind (or_text (kind_of_type t)) kinds)
misses_kind field_sort.Group kinds = not (has_time kinds)
misses_kind (field_sort.Measure o) kinds = if adds_numbers o then not (has_kind kind.Number kinds) else is_empty kinds

module _ (schema : Schema) (views : List DeclaredView) (scope : Scope) (columns : ColumnKinds) (u : UnknownColumn) where
  -- the kinds that a field's expression may have; every kind where it reaches a cycle, so that this gives no further fault
  abbrev pub field_kinds : Place → KindSet
  field_kinds place = if ends views scope place then kinds_in columns (dated_of schema views scope columns u place) else every_kind

  -- all that stands in it is known
  abbrev pub is_sure : Place → Bool
  is_sure place = ends views scope place && is_certain schema views scope columns u place

  -- the kind of a time group: a day or a moment; a moment where its expression gives none
  abbrev pub group_kind : Place → Option Kind
  group_kind place = time_kind (field_kinds place) (is_sure place)

  -- the kind of a dimension's value, if it can be told
  abbrev pub field_kind : Found → Option Kind
  field_kind found =
      option_and_then (λ field. dimension_kind field.sort found.frame (group_kind found.place)) (field_at views scope found.place)

  -- the kind of a `min` or `max`: a text where its expression gives none
  abbrev pub extreme_kind : Place → Option Kind
  extreme_kind place = value_kind (field_kinds place) (is_sure place)

  -- the kind of a measure's value, if it can be told
  abbrev pub measure_kind : Place → Option Kind
  measure_kind place = option_and_then (λ field. kind_of_measure field.sort (extreme_kind place)) (field_at views scope place)

  -- ---- where kinds clash

  -- a measure that is no number, in the expression of a measure of type number
  abbrev pub takes_no_number : Option Found → Bool
  takes_no_number None = false
  takes_no_number (Some found) = is_no_number (measure_kind found.place)

  -- kinds clash in the key; a key that is no expression is another fault
  abbrev pub key_clashes : ℕ → Code → Bool
  key_clashes part (code.Expr written) = is_empty (kinds_in columns (dated_in schema views scope columns u (writer.Field part) (code.Expr written)))
  key_clashes part c = false

  -- the expression has not the kind that the field's type needs
  abbrev pub sort_clashes : Place → DeclaredField → Bool
  sort_clashes place field =
      if is_number field.sort then list_any takes_no_number (referred views scope place.part field) else misses_kind field.sort (field_kinds place)

  -- or kinds clash in the field's key
  abbrev pub field_clashes : Place → DeclaredField → Bool
  field_clashes place field = sort_clashes place field || key_clashes place.part field.key
