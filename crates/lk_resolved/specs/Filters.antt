-- The filters of a resolved explore: each with the number of its dimension. (Looker, LookML reference: filters, always_filter, access_filter)
use Rattle.std.specs.Prelude.{ℕ, List, [], ◌∷◌, map, flat_map, Option, Some, None}
use Rattle.lk_types.specs.declared.filter.Filter.{Filter}
use Rattle.lk_objects.specs.declared.filter_text.FilterText.{FilterText}
use Rattle.lk_objects.specs.declared.filter_text.ReadFilter.{ReadFilter}
use Rattle.lk_objects.specs.declared.filter_text.ReadFilter.TheVariants.{Read, Syntax}
use Rattle.lk_objects.specs.declared.view.DeclaredView.{DeclaredView}
use Rattle.lk_fields.specs.declared.scope.Found.{Found}
use Rattle.lk_fields.specs.declared.scope.Scope.{Scope}
use Rattle.lk_fields.specs.declared.scope.Sort.TheVariants as sort
use Rattle.lk_fields.specs.declared.scope.Writer.TheVariants as writer
use Rattle.lk_fields.specs.Scopes.{found_by}
use Rattle.lk_scope.specs.ExploreNames.{dimension_named, full_name_of}
use Rattle.lk_scope.specs.Readings.{reading_of}
use Rattle.lk_resolved.specs.declared.names.NamedDimension.{NamedDimension}
use Rattle.lk_resolved.specs.Names.{dimension_number}

-- a number, if there is one, as a list
abbrev pub listed : Option ℕ → List ℕ
listed None = []
listed (Some n) = n ∷ []

-- a filter on the field of a number, where its text is read
abbrev pub filter_if : ℕ → Option ReadFilter → List (ℕ × Filter)
filter_if number (Some (Read f)) = (number, f) ∷ []
filter_if number (Some (Syntax place)) = []
filter_if number None = []

module _ (views : List DeclaredView) (scope : Scope) (named : List NamedDimension) where
  -- the number of the dimension that a whole name was found to mean
  abbrev pub number_of_found : Found → List ℕ → ℕ
  number_of_found found name = dimension_number named (full_name_of scope found name)

  abbrev pub filter_on : FilterText → Option Found → List (ℕ × Filter)
  filter_on f None = []
  filter_on f (Some found) = filter_if (number_of_found found f.name) (reading_of views scope f found)

  -- a filter in the explore's own text
  abbrev pub filter_named : FilterText → List (ℕ × Filter)
  filter_named f = filter_on f (dimension_named views scope f.name)

  abbrev pub filters_named : List FilterText → List (ℕ × Filter)
  filters_named filters = flat_map filter_named filters

  -- a filter of a measure of a part
  abbrev pub filter_of_part : ℕ → FilterText → List (ℕ × Filter)
  filter_of_part part f = filter_on f (found_by views scope (writer.Field part) f.name sort.Dimension)

  abbrev pub filters_of_part : ℕ → List FilterText → List (ℕ × Filter)
  filters_of_part part filters = flat_map (filter_of_part part) filters

  -- the numbers of the dimension that a whole name means, if it means one
  abbrev pub number_if : List ℕ → Option Found → List ℕ
  number_if name None = []
  number_if name (Some found) = number_of_found found name ∷ []

  abbrev pub dimension_numbers : List ℕ → List ℕ
  dimension_numbers name = number_if name (dimension_named views scope name)

  abbrev pub numbers_of_dimensions : List (List ℕ) → List ℕ
  numbers_of_dimensions names = flat_map dimension_numbers names
