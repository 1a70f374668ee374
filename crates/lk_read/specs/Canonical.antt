-- The canonical text of a tree: one parameter a line, two spaces for each block that it stands in. (lookd)
use Rattle.std.specs.Prelude.{◌≡◌, ℕ, List, [], ◌∷◌, ◌++◌, Option, Some, None, codes, if◌then◌else◌}
use Rattle.lk_read.specs.Entry.{Entry}
use Rattle.lk_read.specs.Entry as entry
use Rattle.lk_read.specs.Outline.{Plain, word, quoted, list, code, Outline, no_more, leaf, branch, is_no_more}
use Rattle.lk_read.specs.Grammar.{IsFile, is_escaped}

-- a character of a string: a quote and a backslash have a backslash before them
abbrev pub escaped : ℕ → List ℕ
escaped b = if is_escaped b then 92 ∷ b ∷ [] else b ∷ []

abbrev pub characters : List ℕ → List ℕ
characters [] = []
characters (b ∷ text) = escaped b ++ characters text

abbrev pub string_text : List ℕ → List ℕ
string_text text = 34 ∷ (characters text ++ 34 ∷ [])

abbrev pub entry_text : Entry → List ℕ
entry_text (entry.word w) = w
entry_text (entry.quoted q) = string_text q
entry_text (entry.pair key v) = key ++ codes ": " ++ string_text v
entry_text (entry.other text) = text

-- the entries behind the first, each with a comma before it
abbrev pub further_entries : List Entry → List ℕ
further_entries [] = []
further_entries (e ∷ es) = codes ", " ++ entry_text e ++ further_entries es

abbrev pub entries_text : List Entry → List ℕ
entries_text [] = []
entries_text (e ∷ es) = entry_text e ++ further_entries es

abbrev pub plain_text : Plain → List ℕ
plain_text (word w) = w
plain_text (quoted q) = string_text q
plain_text (list es) = 91 ∷ (entries_text es ++ 93 ∷ [])
plain_text (code c) = c ++ codes " ;;"

-- a block's name and a space, if it has a name
abbrev pub title_text : Option (List ℕ) → List ℕ
title_text None = []
title_text (Some title) = title ++ 32 ∷ []

-- a line's margin, the parameter's name and its colon
abbrev pub start_text : List ℕ → List ℕ → List ℕ
start_text margin name = margin ++ name ++ codes ": "

-- a block whose lines are this text: `{ }` where it is empty, else a brace, the lines, and a line with the other brace
abbrev pub block_text : List ℕ → Outline → List ℕ → List ℕ
block_text margin inner inner_text =
    if is_no_more inner then codes "{ }" ++ 10 ∷ [] else 123 ∷ 10 ∷ (inner_text ++ margin ++ 125 ∷ 10 ∷ [])

-- the lines of the parameters of a tree, each behind a margin of spaces
abbrev pub text_at : List ℕ → Outline → List ℕ
text_at margin no_more = []
text_at margin (leaf name place value rest) = start_text margin name ++ plain_text value ++ 10 ∷ text_at margin rest
text_at margin (branch name place title inner rest) =
    start_text margin name ++ title_text title ++ block_text margin inner (text_at (margin ++ 32 ∷ 32 ∷ []) inner) ++ text_at margin rest

abbrev pub canonical : Outline → List ℕ
canonical tree = text_at [] tree

-- the tree with each place 0
abbrev pub unplaced : Outline → Outline
unplaced no_more = no_more
unplaced (leaf name place value rest) = leaf name 0 value (unplaced rest)
unplaced (branch name place title inner rest) = branch name 0 title (unplaced inner) (unplaced rest)

-- where some text spells the tree, this text spells it too, places aside
abbrev pub SpellsAgain : ℕ → List ℕ → Outline → Type 0
SpellsAgain most text tree =
    (source : List ℕ) → IsFile most source tree → (again : Outline) × IsFile most text again × (unplaced again ≡ unplaced tree)
