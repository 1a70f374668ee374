-- The dimensions and the measures of an explore by their full names: a name's number is its place. (Looker, LookML reference: explore, fields)
use Rattle.std.specs.Prelude.{ℕ, Bool, true, false, List, [], ◌∷◌, map, flat_map, filter, Option, Some, None, unwrap_or}
use Rattle.std.specs.List.{fold, insert, position, position_or_len}
use Rattle.std.specs.Ordering.{is_lt, nat_cmp}
use Rattle.std.specs.Cmp.Lexicographic.{slice_cmp}
use Rattle.lk_val.specs.Texts.{is_same_text}
use Rattle.lk_types.specs.declared.schema.Frame.{Frame}
use Rattle.lk_objects.specs.declared.field.DeclaredField.{DeclaredField}
use Rattle.lk_objects.specs.declared.field.FieldSort.{FieldSort}
use Rattle.lk_objects.specs.declared.field.FieldSort.TheVariants as field_sort
use Rattle.lk_objects.specs.declared.view.DeclaredView.{DeclaredView}
use Rattle.lk_fields.specs.declared.scope.Found.{Found}
use Rattle.lk_fields.specs.declared.scope.Place.{Place}
use Rattle.lk_fields.specs.declared.scope.Scope.{Scope}
use Rattle.lk_fields.specs.declared.scope.Sort.TheVariants as sort
use Rattle.lk_fields.specs.Scopes.{framed_name, has_sort}
use Rattle.lk_fields.specs.Existing.{exists, field_at, is_same_place}
use Rattle.lk_scope.specs.Order.{places_by_name}
use Rattle.lk_scope.specs.Scopes.{full_name, part_name}
use Rattle.lk_resolved.specs.declared.names.NamedDimension.{NamedDimension}
use Rattle.lk_resolved.specs.declared.names.NamedMeasure.{NamedMeasure}

-- ---- in the order of their names

abbrev pub goes_before : NamedDimension → NamedDimension → Bool
goes_before a b = is_lt (slice_cmp nat_cmp a.name b.name)

-- a dimension among those in order: before the first that it goes before, and else at the end
abbrev pub put_in : List NamedDimension → NamedDimension → List NamedDimension
put_in named d = insert named (position_or_len (goes_before d) named) d

abbrev pub by_name : List NamedDimension → List NamedDimension
by_name named = fold put_in [] named

-- ---- what a declared field makes in a part

abbrev pub dimension_made : List ℕ → Place → List ℕ × Option Frame → NamedDimension
dimension_made part place m = record { name = full_name part m.0; found = record { place = place; frame = m.1 } }

-- the dimension that a group makes for a timeframe
abbrev pub frame_dimension : List ℕ → Place → List ℕ → Frame → NamedDimension
frame_dimension part place group f = dimension_made part place (framed_name group f, Some f)

abbrev pub dimensions_by_sort : List ℕ → Place → FieldSort → List ℕ → List Frame → List NamedDimension
dimensions_by_sort part place (field_sort.Measure o) name frames = []
dimensions_by_sort part place (field_sort.Dimension t) name frames = dimension_made part place (name, None) ∷ []
dimensions_by_sort part place field_sort.Group name frames = map (frame_dimension part place name) frames

-- a dimension makes itself, a dimension group one for each of its timeframes, and a measure none
abbrev pub dimensions_with : Scope → Place → Option DeclaredField → List NamedDimension
dimensions_with scope place None = []
dimensions_with scope place (Some field) = dimensions_by_sort (part_name scope place.part) place field.sort field.name field.frames

abbrev pub measures_if : Bool → NamedMeasure → List NamedMeasure
measures_if true m = m ∷ []
measures_if false m = []

-- a measure makes itself
abbrev pub measures_with : Scope → Place → Option DeclaredField → List NamedMeasure
measures_with scope place None = []
measures_with scope place (Some field) =
    measures_if (has_sort sort.Measure field.sort) (record { name = full_name (part_name scope place.part) field.name; place = place })

module _ (views : List DeclaredView) (scope : Scope) where
  -- the declared fields that are fields of the explore, by the names of their parts and then by their own
  abbrev pub existing : List Place
  existing = filter (exists views scope) (places_by_name views scope)

  -- ---- dimensions

  abbrev pub dimensions_at : Place → List NamedDimension
  dimensions_at place = dimensions_with scope place (field_at views scope place)

  abbrev pub dimensions : List NamedDimension
  dimensions = by_name (flat_map dimensions_at existing)

  -- ---- measures, which the places by name have in order

  abbrev pub measures_at : Place → List NamedMeasure
  measures_at place = measures_with scope place (field_at views scope place)

  abbrev pub measures : List NamedMeasure
  measures = flat_map measures_at existing

  -- ---- dimension groups

  abbrev pub is_group_with : Option DeclaredField → Bool
  is_group_with None = false
  is_group_with (Some field) = is_group field.sort where
    is_group : FieldSort → Bool
    is_group field_sort.Group = true
    is_group s = false

  abbrev pub is_group_at : Place → Bool
  is_group_at place = is_group_with (field_at views scope place)

  abbrev pub groups : List Place
  groups = filter is_group_at existing

-- ---- numbers

-- a number, and 0 where there is none, which no project without a fault has
abbrev pub or_zero : Option ℕ → ℕ
or_zero number = unwrap_or number 0

-- the number of a dimension's name
abbrev pub dimension_number : List NamedDimension → List ℕ → ℕ
dimension_number named name = or_zero (position (λ d. is_same_text d.name name) named)

-- the number of the measure at a place
abbrev pub measure_number : List NamedMeasure → Place → ℕ
measure_number named place = or_zero (position (λ m. is_same_place m.place place) named)

-- the number of the dimension group at a place
abbrev pub group_number : List Place → Place → ℕ
group_number groups place = or_zero (position (is_same_place place) groups)
