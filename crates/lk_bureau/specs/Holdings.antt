-- What lies under the lock, and how the list of what readers were shown grows. (lookd)
use Rattle.std.specs.Prelude.{◌≡◌, ℕ, zero, suc, List, [], ◌∷◌, ◌++◌}
use Rattle.lk_edition.specs.Standings.{Standing}

-- the store, the present edition, and each edition that readers were shown, as often as it was
pub record Held (K : Type 0) : Type 0 where
  pub keeper : K
  pub standing : Standing
  pub shown : List Standing

abbrev pub held : {K : Type 0} → K → Standing → List Standing → Held K
held keeper standing shown = record { keeper = keeper; standing = standing; shown = shown }

-- so many times the same
abbrev pub times : {A : Type 0} → ℕ → A → List A
times zero x = []
times (suc n) x = times n x ++ x ∷ []

-- behind some editions stands one more often, and nothing else
pub record IsPadded (e : Standing) (shown shown' : List Standing) : Type 0 where
  pub count : ℕ
  pub is : shown' ≡ shown ++ times count e

-- behind some editions, one so often as is needed, and then a last one
pub record IsShown (e last : Standing) (shown shown' : List Standing) : Type 0 where
  pub between : List Standing
  pub padded : IsPadded e shown between
  pub is : shown' ≡ between ++ last ∷ []
