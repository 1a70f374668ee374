-- What a parameter's value says. (Looker, LookML reference; lookd)
use Rattle.std.specs.Prelude.{ℕ, List, [], ◌∷◌, ◌++◌, Option, Some, None}
use Rattle.lk_read.specs.Entry as entry
use Rattle.lk_read.specs.Entry.{Entry}
use Rattle.lk_read.specs.declared.tree.Node.{Node}
use Rattle.lk_read.specs.declared.tree.Node.TheVariants as node

-- the text of a word or a string; either may stand for the other (lookd)
abbrev pub scalar : Node → Option (List ℕ)
scalar (node.Word text) = Some text
scalar (node.Quoted text) = Some text
scalar value = None

-- the text of code
abbrev pub code : Node → Option (List ℕ)
code (node.Code text) = Some text
code value = None

-- the name of a block that has one
abbrev pub title_of : Node → Option (List ℕ)
title_of (node.Block title inner) = title
title_of value = None

-- one more item before others, if there are both
abbrev pub before_all : {A : Type 0} → Option A → Option (List A) → Option (List A)
before_all (Some x) (Some xs) = Some (x ∷ xs)
before_all x xs = None

-- more items before others, if there are those
abbrev pub prefixed : {A : Type 0} → List A → Option (List A) → Option (List A)
prefixed front None = None
prefixed front (Some ys) = Some (front ++ ys)

-- the text of an entry that is a word or a string
abbrev pub entry_scalar : Entry → Option (List ℕ)
entry_scalar (entry.word text) = Some text
entry_scalar (entry.quoted text) = Some text
entry_scalar e = None

-- the texts of entries that are all words and strings
abbrev pub entry_words : List Entry → Option (List (List ℕ))
entry_words [] = Some []
entry_words (e ∷ es) = before_all (entry_scalar e) (entry_words es)

-- the texts of a list of words and strings
abbrev pub words : Node → Option (List (List ℕ))
words (node.List entries) = entry_words entries
words value = None

-- the name and the text of an entry that is a pair
abbrev pub entry_pair : Entry → Option (List ℕ × List ℕ)
entry_pair (entry.pair name text) = Some (name, text)
entry_pair e = None

-- the names and texts of entries that are all pairs
abbrev pub entry_pairs : List Entry → Option (List (List ℕ × List ℕ))
entry_pairs [] = Some []
entry_pairs (e ∷ es) = before_all (entry_pair e) (entry_pairs es)

-- the names and texts of a list of pairs
abbrev pub pairs : Node → Option (List (List ℕ × List ℕ))
pairs (node.List entries) = entry_pairs entries
pairs value = None
