-- The list of numbers that a desk keeps of its looks, and how it grows. (lookd)
use Rattle.std.specs.Prelude.{ℕ, ◌≡◌, ◌==◌, true, List, [], ◌∷◌, ◌++◌, length, MatchBool}
use Rattle.logbook.specs.Pages.{Cell, Step, View}

-- the first word of the book is how many numbers there are; the other one is not used
pub record IsCountOf (cells : List Cell) (numbers : List ℕ) : Type 0 where
  pub words : cells ≡ (length numbers, true) ∷ (0, true) ∷ []

-- where the word was the count that was expected, the number stands behind all that had been seen; else nothing is said
abbrev pub Grows : Step ℕ → View ℕ ℕ → ℕ → View ℕ ℕ → Type 0
Grows step seen found now = MatchBool (found == step.old) (now.0 ≡ seen.0 ++ step.ask ∷ []) (Unit {0})
