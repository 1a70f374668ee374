-- What the bytes of a file read as.
use Rattle.std.specs.Prelude.{ℕ, List}
use Rattle.std.specs.List.{AllByRecursion}
use Rattle.lk_read.specs.Grammar.{IsFile}
use Rattle.lk_read.specs.Outcome.{Outcome}
use Rattle.lk_read.specs.Outline.{Outline}
use Rattle.lk_read.proofs.OneOutcome.{some_outcome}

-- the outcome of the bytes: the tree that they spell with at most 32 blocks and lists open at once, or their fault.
-- That there is one, and only one, is a law (`texts_have_readings`)
unfoldable pub reading_of : List ℕ → Outcome
reading_of text = (some_outcome 32 text).0

-- some text spells the tree, with at most 32 blocks and lists open at once
pub record IsRead (tree : Outline) : Type 0 where
  pub text : List ℕ
  pub spells : IsFile 32 text tree

-- each tree of these files is so
abbrev pub AreRead : List (List ℕ × Outline) → Type 0
AreRead files = AllByRecursion (λ file. IsRead file.1) files
