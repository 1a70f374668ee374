-- How the field that a filter names decides what the filter's text says. (Looker, filter expressions; lookd)
use Rattle.std.specs.Prelude.{ℕ, Bool, false, List, Option, Some, None}
use Rattle.std.specs.Option.{option_map}
use Rattle.lk_types.specs.declared.schema.Frame.{Frame}
use Rattle.lk_types.specs.declared.schema.Frame.TheVariants as frame
use Rattle.lk_objects.specs.declared.field.DimensionType.{DimensionType}
use Rattle.lk_objects.specs.declared.field.DimensionType.TheVariants as type
use Rattle.lk_objects.specs.declared.field.FieldSort.{FieldSort}
use Rattle.lk_objects.specs.declared.field.FieldSort.TheVariants as field_sort
use Rattle.lk_objects.specs.declared.filter_text.FilterText.{FilterText}
use Rattle.lk_objects.specs.declared.filter_text.ReadFilter.{ReadFilter}
use Rattle.lk_objects.specs.declared.filter_text.ReadFilter.TheVariants.{Read, Syntax}
use Rattle.lk_objects.specs.declared.view.DeclaredView.{DeclaredView}
use Rattle.lk_fields.specs.declared.scope.Found.{Found}
use Rattle.lk_fields.specs.declared.scope.Scope.{Scope}
use Rattle.lk_fields.specs.Existing.{field_at}

-- a tier is filtered by its lower bound; a dimension of unknown type as a text
abbrev pub reading_of_type : Option DimensionType → FilterText → ReadFilter
reading_of_type (Some type.Number) f = f.as_number
reading_of_type (Some type.Tier) f = f.as_number
reading_of_type (Some type.Truth) f = f.as_truth
reading_of_type t f = f.as_text

-- a timeframe of numbers or of texts is filtered as these, and any other as a date
abbrev pub reading_of_frame : Option Frame → FilterText → ReadFilter
reading_of_frame (Some frame.HourOfDay) f = f.as_number
reading_of_frame (Some frame.DayOfMonth) f = f.as_number
reading_of_frame (Some frame.MonthNum) f = f.as_number
reading_of_frame (Some frame.DayOfWeek) f = f.as_text
reading_of_frame fr f = f.as_date

abbrev pub reading_of_sort : FieldSort → Option Frame → FilterText → ReadFilter
reading_of_sort (field_sort.Dimension t) fr f = reading_of_type t f
reading_of_sort field_sort.Group fr f = reading_of_frame fr f
reading_of_sort (field_sort.Measure o) fr f = f.as_number

-- what a filter on a field says
abbrev pub reading_of : List DeclaredView → Scope → FilterText → Found → Option ReadFilter
reading_of views scope f found =
    option_map (λ field. reading_of_sort field.sort found.frame f) (field_at views scope found.place)

-- the place of the fault in a filter's text
abbrev pub place_in : Option ReadFilter → Option ℕ
place_in (Some (Syntax place)) = Some place
place_in reading = None

-- the filter has a relative date
abbrev pub is_relative : Option ReadFilter → Bool
is_relative (Some (Read filter)) = filter.relative
is_relative reading = false
