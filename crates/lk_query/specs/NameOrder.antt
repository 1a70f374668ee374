-- Fields, or measures, that stand by the bytes of their names.
use Rattle.std.specs.Prelude.{◌≡◌, ℕ, Bool, false, List, length}
use Rattle.std.specs.Ordering.{nat_cmp, is_lt}
use Rattle.std.specs.Cmp.Lexicographic.{slice_cmp}
use Rattle.std.specs.List.{AllAdjacentBelow}
use Rattle.lk_types.specs.declared.explore.Field.{Field}
use Rattle.lk_types.specs.declared.explore.Measure.{Measure}

-- the first name stands before the second, byte by byte
abbrev pub is_before : List ℕ → List ℕ → Bool
is_before a b = is_lt (slice_cmp nat_cmp a b)

-- no name of a field stands before that of the field in front of it
abbrev pub FieldsAscend : List Field → Type 0
FieldsAscend fields = AllAdjacentBelow (λ f g. is_before g.name f.name ≡ false) fields (length fields)

-- the same of measures
abbrev pub MeasuresAscend : List Measure → Type 0
MeasuresAscend measures = AllAdjacentBelow (λ m n. is_before n.name m.name ≡ false) measures (length measures)
