-- Which texts are filters of a kind, what they are read as, and the place of one that is none.
use Rattle.std.specs.Prelude.{◌≡◌, ℕ, ◌≤◌, ◌<◌, List, length, Result, Ok, Err}
use Rattle.lk_grammar.specs.Places.{IsPlace}
use Rattle.lk_types.specs.declared.filter.Filter.{Filter}
use Rattle.lk_filter_text.specs.Texts.{IsTextFilter, IsTexts}
use Rattle.lk_filter_number.specs.Numbers.{IsNumberFilter, IsNumbersPlace}
use Rattle.lk_filter_number.specs.Truths.{IsTruthFilter, IsTruth}
use Rattle.lk_filter_date.specs.Dates.{IsDateFilter, IsDates}
use Rattle.lk_filter.specs.declared.reading.FilterKind.{FilterKind}
use Rattle.lk_filter.specs.declared.reading.FilterKind.TheVariants as kind
use Rattle.lk_filter.specs.declared.reading.FilterFault.{FilterFault}
use Rattle.lk_filter.specs.declared.reading.FilterFault.TheVariants.{Syntax, NoMemory}

-- the text spells the filter, whatever its length
abbrev pub IsFilterOf : FilterKind → Filter → List ℕ → Type 0
IsFilterOf kind.Text f text = IsTextFilter f text
IsFilterOf kind.Number f text = IsNumberFilter f text
IsFilterOf kind.Date f text = IsDateFilter f text
IsFilterOf kind.Truth f text = IsTruthFilter f text

-- the text spells the filter, in at most 4,096 bytes
abbrev pub IsFilterText : FilterKind → Filter → List ℕ → Type 0
IsFilterText k f text = (length text ≤ 4096) × IsFilterOf k f text

-- the place of a text that is no filter of the kind: the longest prefix that begins one, or a number before it that is not read
abbrev pub IsPlaceOf : FilterKind → List ℕ → ℕ → Type 0
IsPlaceOf kind.Text text place = IsPlace IsTexts text place
IsPlaceOf kind.Number text place = IsNumbersPlace text place
IsPlaceOf kind.Date text place = IsPlace IsDates text place
IsPlaceOf kind.Truth text place = IsPlace IsTruth text place

-- the same, and 4,096 for a longer text
pub record IsFaultPlace (k : FilterKind) (text : List ℕ) (place : ℕ) : Type 0 where
  pub long : 4096 < length text → place ≡ 4096
  pub short : length text ≤ 4096 → IsPlaceOf k text place

-- what holds of the place of a refusal
abbrev pub IfSyntax : {T : Type 0} → Result T FilterFault → (ℕ → Type 0) → Type 0
IfSyntax (Ok value) P = Unit {0}
IfSyntax (Err (Syntax place)) P = P place
IfSyntax (Err NoMemory) P = Unit {0}
