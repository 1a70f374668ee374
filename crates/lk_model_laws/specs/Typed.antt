-- The fields of a model whose kinds depend on all that stands in their expressions. (Looker, LookML reference: dimension_group, measure types)
use Rattle.std.specs.Prelude.{Bool, true, false, not, ◌||◌, Some, None, is_none}
use Rattle.std.specs.List.{list_all}
use Rattle.lk_objects.specs.declared.code.Code.{Code}
use Rattle.lk_objects.specs.declared.code.Code.TheVariants as code
use Rattle.lk_objects.specs.declared.field.FieldSort.{FieldSort}
use Rattle.lk_objects.specs.declared.field.FieldSort.TheVariants as sort
use Rattle.lk_types.specs.declared.explore.Explore.{Explore}
use Rattle.lk_types.specs.declared.explore.Field.{Field}
use Rattle.lk_types.specs.declared.explore.Op.{Op}
use Rattle.lk_types.specs.declared.explore.Op.TheVariants as op
use Rattle.lk_types.specs.declared.explore.Shape.{Shape}
use Rattle.lk_types.specs.declared.explore.Shape.TheVariants as shape
use Rattle.lk_types.specs.declared.schema.Frame.TheVariants as frame
use Rattle.lk_semantics.specs.Resolved.{is_time_kind}

-- a timeframe that leaves the time as it is, and so has its kind
abbrev pub is_raw : Shape → Bool
is_raw (shape.Frame group frame.Raw) = true
is_raw s = false

-- where a field is a raw time, it is a day or a moment
abbrev pub is_time_if_raw : Field → Bool
is_time_if_raw f = not (is_raw f.shape) || is_time_kind f.kind

-- each raw time of an explore is one
abbrev pub has_raw_times : Explore → Bool
has_raw_times x = list_all is_time_if_raw x.fields

-- an extreme, which has the kind of its values, and a calculation
abbrev pub is_open : Op → Bool
is_open op.Min = true
is_open op.Max = true
is_open op.Number = true
is_open o = false

-- a field that has an expression of its own: every one but a count and a calculation
abbrev pub takes_expression : FieldSort → Bool
takes_expression (sort.Measure None) = false
takes_expression (sort.Measure (Some op.Count)) = false
takes_expression (sort.Measure (Some op.Number)) = false
takes_expression s = true

-- an expression each of whose calls is known
abbrev pub is_expression : Code → Bool
is_expression (code.Expr written) = is_none written.unknown_call
is_expression c = false

abbrev pub is_calculation : Code → Bool
is_calculation (code.Number written) = true
is_calculation c = false

-- the field has the code that its type takes
abbrev pub has_code : FieldSort → Code → Bool
has_code (sort.Measure None) c = true
has_code (sort.Measure (Some op.Count)) c = true
has_code (sort.Measure (Some op.Number)) c = is_calculation c
has_code s c = is_expression c
