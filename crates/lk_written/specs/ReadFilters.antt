-- What the texts of filters are read as, in each of the four grammars. (Looker, filter expressions)
use Rattle.std.specs.Prelude.{◌≡◌, ℕ, List, [], ◌∷◌}
use Rattle.lk_types.specs.declared.filter.Filter.{Filter}
use Rattle.lk_filter.specs.declared.reading.FilterKind.{FilterKind}
use Rattle.lk_filter.specs.declared.reading.FilterKind.TheVariants as kind
use Rattle.lk_filter.specs.FilterTexts as texts
use Rattle.lk_objects.specs.declared.filter_text.FilterText.{FilterText}
use Rattle.lk_objects.specs.declared.filter_text.ReadFilter.{ReadFilter}
use Rattle.lk_objects.specs.declared.filter_text.ReadFilter.TheVariants as read

-- the filter of a kind that the text spells, or else the place of the fault, where it spells none
abbrev pub IsReadAs : FilterKind → List ℕ → ReadFilter → Type 0
IsReadAs k text (read.Read filter) = texts.IsFilterText k filter text
IsReadAs k text (read.Syntax place) =
    ((filter : Filter) → texts.IsFilterText k filter text → ⊥) × texts.IsFaultPlace k text place

-- the filter is a pair of a name and a text, with the text's four readings
pub record IsFilterText (pair : List ℕ × List ℕ) (filter : FilterText) : Type 0 where
  pub name_is : filter.name ≡ pair.0
  pub text_is : filter.text ≡ pair.1
  pub text_read : IsReadAs kind.Text pair.1 filter.as_text
  pub number_read : IsReadAs kind.Number pair.1 filter.as_number
  pub date_read : IsReadAs kind.Date pair.1 filter.as_date
  pub truth_read : IsReadAs kind.Truth pair.1 filter.as_truth

-- as many filters as pairs, in order
abbrev pub AreFilters : List (List ℕ × List ℕ) → List FilterText → Type 0
AreFilters [] [] = Unit {0}
AreFilters (p ∷ ps) (f ∷ fs) = IsFilterText p f × AreFilters ps fs
AreFilters ps fs = ⊥
