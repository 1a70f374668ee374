-- What clauses see of an entry of a list.
use Rattle.std.specs.Prelude.{ℕ, suc, ◌+◌, List, [], ◌∷◌, length}

-- a bare word, a string's text, or a name with a text; or another value, as a list or a block, with its canonical text:
-- no text has one in a list
pub data Entry : Type 0 where
  word : List ℕ → Entry
  quoted : List ℕ → Entry
  pair : List ℕ → List ℕ → Entry
  other : List ℕ → Entry

abbrev pub entry_size : Entry → ℕ
entry_size (word w) = 1
entry_size (quoted q) = 1
entry_size (pair key v) = 1
entry_size (other text) = suc (length text)

-- how many entries there are, and how long the texts of other values are
abbrev pub entries_size : List Entry → ℕ
entries_size [] = 0
entries_size (e ∷ es) = entry_size e + entries_size es
