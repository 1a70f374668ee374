-- A tree as the lines of its canonical text.
use Rattle.std.specs.Prelude.{ℕ, List, [], ◌∷◌, ◌++◌, Option}
use Rattle.lk_read.specs.Outline.{Plain, Outline, no_more, leaf, branch}

-- a parameter with its name, its place and its value; or one whose value is a block, with the block's name: the lines
-- of the block follow, and then the line that closes it
pub data Line : Type 0 where
  plain : List ℕ → ℕ → Plain → Line
  block : List ℕ → ℕ → Option (List ℕ) → Line
  closing : Line

abbrev pub lines : Outline → List Line
lines no_more = []
lines (leaf name place value rest) = plain name place value ∷ lines rest
lines (branch name place title inner rest) = block name place title ∷ (lines inner ++ closing ∷ lines rest)
