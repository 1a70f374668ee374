-- The index of interned texts: a hash leads to the last text that has it, and each text to the one before it of the
-- same hash.
use Rattle.std.specs.Prelude.{ℕ, zero, suc, ◌≡◌, ◌<◌, nat_eq, if◌then◌else◌, List, length, Option, None, Some}
use Rattle.std.specs.List.{slice_index_or}
use Rattle.std.specs.Hash.FoldHasher.{initial, write, finish}
use Rattle.std.specs.HashMap.{HashMap, get}
use Rattle.lk_region.specs.Regions.{text_at}

-- 64 bits of the bytes, by the hasher of the library's maps
unfoldable pub hash_of : List ℕ → ℕ
hash_of text = finish (write initial text)

-- of the first `count` texts, the number of the last that has this hash
abbrev pub last_of : List (List ℕ) → ℕ → ℕ → Option ℕ
last_of texts hash zero = None
last_of texts hash (suc count) =
    if nat_eq (hash_of (text_at texts count)) hash then Some count else last_of texts hash count

-- each hash leads to its last text, and each text to the last before it of its own hash
pub record IsChained {S : Type 0} (texts : List (List ℕ)) (latest : HashMap ℕ ℕ S) (earlier : List (Option ℕ))
    : Type 0 where
  pub last : (hash : ℕ) → get nat_eq latest hash ≡ last_of texts hash (length texts)
  pub before : (number : ℕ) → number < length texts
      → slice_index_or earlier number None ≡ last_of texts (hash_of (text_at texts number)) number
  pub one_each : length earlier ≡ length texts
