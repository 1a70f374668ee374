-- What clauses see of a tree: its parameters, in order.
use Rattle.std.specs.Prelude.{ℕ, Bool, true, false, List, Option}
use Rattle.lk_read.specs.Entry.{Entry}

-- a value that is no block: a bare word, a string's text, a list's entries, or code
pub data Plain : Type 0 where
  word : List ℕ → Plain
  quoted : List ℕ → Plain
  list : List Entry → Plain
  code : List ℕ → Plain

-- a parameter's name, its place and its value, and the parameters behind it; the value may be a block, with the block's
-- name and its own parameters
pub data Outline : Type 0 where
  no_more : Outline
  leaf : List ℕ → ℕ → Plain → Outline → Outline
  branch : List ℕ → ℕ → Option (List ℕ) → Outline → Outline → Outline

abbrev pub is_no_more : Outline → Bool
is_no_more no_more = true
is_no_more (leaf name place value rest) = false
is_no_more (branch name place title inner rest) = false
