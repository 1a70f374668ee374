-- Counts that are kept beside the marks that say which of them are present.
use Rattle.std.specs.Prelude.{ℤ, Bool, if◌then◌else◌, List, [], ◌∷◌, Option, Some, None}

-- the counts that are present, and none in place of each other
abbrev pub counts_in : List Bool → List ℤ → List (Option ℤ)
counts_in (is_present ∷ present) (count ∷ counts) = (if is_present then Some count else None) ∷ counts_in present counts
counts_in present counts = []
