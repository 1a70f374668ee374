-- What saves leave in a store.
use Rattle.std.specs.Prelude.{ℕ, Bool, true, false, nat_eq, nat_lt, nat_le, ◌&&◌, if◌then◌else◌, ◌≡◌, List, [], ◌∷◌, length, IsTrue}
use Rattle.lk_ledger.specs.declared.kept.Kept.{Kept}
use Rattle.lk_ledger.specs.declared.kept.KeptId.{KeptId}

-- the numbers of the loads rise, from above the one before to the last save's
abbrev pub are_rising : ℕ → ℕ → List KeptId → Bool
are_rising before last [] = true
are_rising before last (id ∷ ids) = nat_lt before id.number && nat_le id.number last && are_rising id.number last ids

-- each number is that of a load, in their order; behind a load whose batch is gone stands one that has its own, since
-- only a later load takes a batch's place
abbrev pub are_batches_of : List KeptId → List ℕ → Bool
are_batches_of [] numbers = nat_eq (length numbers) 0
are_batches_of (id ∷ ids) [] = false
are_batches_of (id ∷ ids) (number ∷ numbers) =
    if nat_eq number id.number then are_batches_of ids numbers else are_batches_of ids (number ∷ numbers)

-- loads with numbers from 1 to the last save's, and batches with some of these numbers
abbrev pub are_saves : ℕ → List KeptId → List ℕ → Bool
are_saves last ids numbers = are_rising 0 last ids && are_batches_of ids numbers

-- what saves can have left: some numbers of its batches are those of its loads
pub record IsSaved (kept : Kept) : Type 0 where
  pub numbers : List ℕ
  pub each : length numbers ≡ length kept.chunks
  pub saves : IsTrue (are_saves kept.number kept.ids numbers)
