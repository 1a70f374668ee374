-- What the texts of filters are read as: filters of a kind, whose mark says whether they have a relative date.
use Rattle.std.proofs.Common.{◌≡◌, ◌∙◌, ℕ, Bool, true, false, ◌&&◌, ◌||◌, List, [], ◌∷◌, refl, sym, Option, Some, None}
use Rattle.std.specs.Prelude.{if◌then◌else◌, not}
use Rattle.std.specs.List.{AllByRecursion, list_all, list_any}
use Rattle.std.proofs.lemmas.Bool.{false≢true}
use Rattle.lk_types.specs.Filters.{has_relative, is_exclude_of, is_filter_of, is_include_of, is_placed}
use Rattle.lk_types.specs.Filters as tests
use Rattle.lk_types.specs.declared.schema.Frame.{Frame}
use Rattle.lk_types.specs.declared.schema.Frame.TheVariants as frame
use Rattle.lk_types.specs.declared.schema.Kind.{Kind}
use Rattle.lk_types.specs.declared.schema.Kind.TheVariants as kind
use Rattle.lk_filter.specs.declared.reading.FilterKind.TheVariants as filter_kind
use Rattle.lk_objects.specs.declared.field.DimensionType.TheVariants as type
use Rattle.lk_objects.specs.declared.field.FieldSort.{FieldSort}
use Rattle.lk_objects.specs.declared.field.FieldSort.TheVariants as field_sort
use Rattle.lk_objects.specs.declared.filter_text.FilterText.{FilterText}
use Rattle.lk_objects.specs.declared.filter_text.ReadFilter.{ReadFilter}
use Rattle.lk_objects.specs.declared.filter_text.ReadFilter.TheVariants.{Read, Syntax}
use Rattle.lk_query.proofs.KindLaws.{kind_read}
use Rattle.lk_scope.specs.Readings.{reading_of_sort}
use Rattle.lk_semantics.proofs.EveryLaws.{second}
use Rattle.lk_written.specs.ReadFilters.{AreFilters, IsFilterText, IsReadAs}

-- a filter of the kind, where the text spells one
abbrev pub IsReadOf : Kind → ReadFilter → Type 0
IsReadOf k (Read f) = is_filter_of k f ≡ true
IsReadOf k (Syntax place) = Unit {0}

-- the readings of a filter's text are filters of their kinds
pub record IsOfKinds (f : FilterText) : Type 0 where
  pub as_text : IsReadOf kind.Text f.as_text
  pub as_number : IsReadOf kind.Number f.as_number
  pub as_truth : IsReadOf kind.Truth f.as_truth
  pub as_day : IsReadOf kind.Day f.as_date
  pub as_moment : IsReadOf kind.Moment f.as_date

text_of : (text : List ℕ) (r : ReadFilter) → IsReadAs filter_kind.Text text r → IsReadOf kind.Text r
text_of text (Read f) h = kind_read kind.Text f text h
text_of text (Syntax place) h = tt

number_of : (text : List ℕ) (r : ReadFilter) → IsReadAs filter_kind.Number text r → IsReadOf kind.Number r
number_of text (Read f) h = kind_read kind.Number f text h
number_of text (Syntax place) h = tt

truth_of : (text : List ℕ) (r : ReadFilter) → IsReadAs filter_kind.Truth text r → IsReadOf kind.Truth r
truth_of text (Read f) h = kind_read kind.Truth f text h
truth_of text (Syntax place) h = tt

day_of : (text : List ℕ) (r : ReadFilter) → IsReadAs filter_kind.Date text r → IsReadOf kind.Day r
day_of text (Read f) h = kind_read kind.Day f text h
day_of text (Syntax place) h = tt

moment_of : (text : List ℕ) (r : ReadFilter) → IsReadAs filter_kind.Date text r → IsReadOf kind.Moment r
moment_of text (Read f) h = kind_read kind.Moment f text h
moment_of text (Syntax place) h = tt

of_kinds : (pair : List ℕ × List ℕ) (f : FilterText) → IsFilterText pair f → IsOfKinds f
of_kinds pair f h = record {
  as_text = text_of pair.1 f.as_text h.text_read;
  as_number = number_of pair.1 f.as_number h.number_read;
  as_truth = truth_of pair.1 f.as_truth h.truth_read;
  as_day = day_of pair.1 f.as_date h.date_read;
  as_moment = moment_of pair.1 f.as_date h.date_read;
}

pub filters_of_kinds : (pairs : List (List ℕ × List ℕ)) (filters : List FilterText) → AreFilters pairs filters → AllByRecursion IsOfKinds filters
filters_of_kinds [] [] h = tt
filters_of_kinds [] (f ∷ filters) h = absurd h
filters_of_kinds (pair ∷ pairs) [] h = absurd h
filters_of_kinds (pair ∷ pairs) (f ∷ filters) h = (of_kinds pair f h.0, filters_of_kinds pairs filters h.1)

-- ---- whichever is taken

module _ (P : ReadFilter → Type 0) (f : FilterText) (text : P f.as_text) (number : P f.as_number) (date : P f.as_date) (truth : P f.as_truth) where
  -- what holds of all four readings holds of the one that is taken
  pub any_reading : (s : FieldSort) (fr : Option Frame) → P (reading_of_sort s fr f)
  any_reading (field_sort.Dimension None) fr = text
  any_reading (field_sort.Dimension (Some type.Text)) fr = text
  any_reading (field_sort.Dimension (Some type.Number)) fr = number
  any_reading (field_sort.Dimension (Some type.Tier)) fr = number
  any_reading (field_sort.Dimension (Some type.Truth)) fr = truth
  any_reading field_sort.Group None = date
  any_reading field_sort.Group (Some frame.Raw) = date
  any_reading field_sort.Group (Some frame.Time) = date
  any_reading field_sort.Group (Some frame.Date) = date
  any_reading field_sort.Group (Some frame.Week) = date
  any_reading field_sort.Group (Some frame.Month) = date
  any_reading field_sort.Group (Some frame.Quarter) = date
  any_reading field_sort.Group (Some frame.Year) = date
  any_reading field_sort.Group (Some frame.HourOfDay) = number
  any_reading field_sort.Group (Some frame.DayOfWeek) = text
  any_reading field_sort.Group (Some frame.DayOfMonth) = number
  any_reading field_sort.Group (Some frame.MonthNum) = number
  any_reading (field_sort.Measure o) fr = number

-- ---- relative dates

-- where it is not marked, it has none
abbrev pub IsMarked : ReadFilter → Type 0
IsMarked (Read f) = f.relative ≡ false → is_placed f ≡ true
IsMarked (Syntax place) = Unit {0}

placed_by : (a b mark : Bool) → (if a || b then mark else not mark) ≡ true → mark ≡ false → (not a && not b) ≡ true
placed_by true b mark h is = absurd (false≢true (sym is ∙ h))
placed_by false true mark h is = absurd (false≢true (sym is ∙ h))
placed_by false false mark h is = refl

kind_marked : (k : Kind) (r : ReadFilter) → IsReadOf k r → IsMarked r
kind_marked k (Read f) h = λ is. placed_by (list_any tests.is_relative f.include) (list_any tests.is_relative f.exclude) f.relative (second (list_all (is_include_of k) f.include && list_all (is_exclude_of k) f.exclude) (if has_relative f then f.relative else not f.relative) h) is
kind_marked k (Syntax place) h = tt

-- the reading that a field takes is marked rightly
pub reading_marked : (f : FilterText) → IsOfKinds f → (s : FieldSort) (fr : Option Frame) → IsMarked (reading_of_sort s fr f)
reading_marked f is =
    any_reading IsMarked f (kind_marked kind.Text f.as_text is.as_text) (kind_marked kind.Number f.as_number is.as_number) (kind_marked kind.Day f.as_date is.as_day) (kind_marked kind.Truth f.as_truth is.as_truth)
