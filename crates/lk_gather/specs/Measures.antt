-- Measures, ready to be computed on joined rows.
use Rattle.std.specs.Prelude.{◌≡◌, ℕ, Bool, true, ◌&&◌, List, [], ◌∷◌, Option, Some, None, option_map}
use Rattle.std.specs.List.{list_all}
use Rattle.lk_types.specs.Expressions.{value_of}
use Rattle.lk_types.specs.declared.answer.KeyValue.{KeyValue}
use Rattle.lk_types.specs.declared.explore.Explore.{Explore}
use Rattle.lk_types.specs.declared.explore.Measure.{Measure}
use Rattle.lk_types.specs.declared.explore.Part.{Part}
use Rattle.lk_types.specs.declared.rows.Joined.{Joined}
use Rattle.lk_semantics.specs.Answers.{has_part, key_value, measure_at, optional_value}
use Rattle.lk_semantics.specs.DatedRows.{is_condition_dated}
use Rattle.lk_gather.specs.Dims.{are_fine_tests, is_fine_field, is_met_by}
use Rattle.lk_gather.specs.declared.measures.Taken.{Taken}

-- ---- what an explore's measures and keys have to be: their literals are of the years 1 to 9999

abbrev pub is_fine_measure : Measure → Bool
is_fine_measure m = is_condition_dated m.value && is_condition_dated m.key

abbrev pub is_fine_part : Part → Bool
is_fine_part part = is_condition_dated part.key

-- all that a query can compute
unfoldable pub is_fine_explore : Explore → Bool
is_fine_explore x = list_all is_fine_field x.fields && (list_all is_fine_measure x.measures && list_all is_fine_part x.parts)

-- ---- measures

-- the view that has to be there, if there is one, is not null
abbrev pub has_wanted : Option ℕ → Joined → Bool
has_wanted None row = true
has_wanted (Some part) row = has_part part row

-- what a row gives to the measure
abbrev pub taken_of : Taken → Joined → KeyValue
taken_of t row = record {
  key = option_map (λ e. value_of e.now row) t.key;
  value = optional_value (option_map (λ e. e.now) t.value) row;
  counts = list_all (is_met_by row) t.tests && has_wanted t.wanted row;
}

abbrev pub is_fine_taken : Taken → Bool
is_fine_taken t =
    is_condition_dated (option_map (λ e. e.now) t.key) && (is_condition_dated (option_map (λ e. e.now) t.value) && are_fine_tests t.tests)

-- it gives on each row what the row gives to a measure
pub record IsTaken (x : Explore) (m : Measure) (t : Taken) : Type 0 where
  pub value : (row : Joined) → taken_of t row ≡ key_value x m row
  pub fine : is_fine_taken t ≡ true

-- and each of some to that of a number
abbrev pub AreTaken : Explore → List ℕ → List Taken → Type 0
AreTaken x [] [] = Unit {0}
AreTaken x (n ∷ ns) (t ∷ ts) = IsTaken x (measure_at x n) t × AreTaken x ns ts
AreTaken x ns ts = ⊥
