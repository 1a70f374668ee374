-- How the list of a shelf is counted, and what a step that adds to it comes to. (lookd)
use Rattle.std.specs.Prelude.{ℕ, ◌≡◌, ◌==◌, true, List, [], ◌∷◌, ◌++◌, length, MatchBool}
use Rattle.logbook.specs.Pages.{Book, Cell, Named, Step, View}
use Rattle.lk_front.specs.Chains.{IsChain}

-- the word of a book that counts its list
abbrev pub word_of : Book → Named
word_of book = record { tracked = true; key = 0; book = book }

module _ {T : Type 0} (begins : T → Type 0) (follows : T → T → Type 0) where
  -- the word is the number of the values, and these are a chain
  pub record IsCounted (cells : List Cell) (values : List T) : Type 0 where
    pub words : cells ≡ (length values, true) ∷ (0, true) ∷ []
    pub chain : IsChain begins follows values

  -- where the word was the number that was expected, the value stands behind all that had been seen; else nothing is said
  abbrev pub Adds : Step T → View T ℕ → ℕ → View T ℕ → Type 0
  Adds step seen found now = MatchBool (found == step.old) (now.0 ≡ seen.0 ++ step.ask ∷ []) (Unit {0})
