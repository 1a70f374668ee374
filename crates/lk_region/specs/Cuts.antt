-- Bytes that are cut into texts, each of which begins where the one before it ends.
use Rattle.std.specs.Prelude.{ℕ, ◌≡◌, ◌≤◌, List, [], ◌∷◌}
use Rattle.std.specs.List.{slice_range}

-- the texts that end at these places, where the first begins at `start`
abbrev pub cut : ℕ → List ℕ → List ℕ → List (List ℕ)
cut start [] bytes = []
cut start (end ∷ ends) bytes = slice_range bytes start end ∷ cut end ends bytes

-- no text ends before it begins, and the last ends where the bytes do
abbrev pub IsCut : ℕ → List ℕ → ℕ → Type 0
IsCut start [] size = start ≡ size
IsCut start (end ∷ ends) size = (start ≤ end) × IsCut end ends size
