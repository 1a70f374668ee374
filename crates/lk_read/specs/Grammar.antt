-- The grammar of LookML text: which bytes spell a tree, line by line. White space and comments may stand between any two
-- pieces. `IsX text x rest` says that the text, up to its rest, spells x.
use Rattle.std.specs.Prelude.{◌≡◌, ℕ, suc, pred, Bool, true, false, ◌||◌, ◌==◌, ◌+◌, ◌<◌, List, [], ◌∷◌, ◌++◌, ◌⊎◌, Option, Some, None, length, if◌then◌else◌}
use Rattle.lk_read.specs.Entry.{Entry}
use Rattle.lk_read.specs.Entry as entry
use Rattle.lk_read.specs.Outline.{Outline, Plain, word, quoted, list, code}
use Rattle.lk_read.specs.Lines.{Line, lines, plain, block, closing}
use Rattle.lk_read.specs.Bytes.{is_space, is_name_byte, is_word_byte, is_title, is_key, is_code_name}
use Rattle.lk_utf8.specs.Utf8.{is_text}

-- ---- between pieces

abbrev mutual
  -- white space and comments
  pub IsGap : List ℕ → List ℕ → Type 0
  IsGap [] rest = rest ≡ []
  IsGap (b ∷ text) rest = (rest ≡ b ∷ text) ⊎ (((is_space b ≡ true) × IsGap text rest) ⊎ ((b ≡ 35) × IsComment text rest))

  -- a comment behind its `#`: it ends with a line feed, or with the text
  pub IsComment : List ℕ → List ℕ → Type 0
  IsComment [] rest = rest ≡ []
  IsComment (b ∷ text) rest = ((b ≡ 10) × IsGap text rest) ⊎ (((b == 10) ≡ false) × IsComment text rest)

-- the text, behind white space and comments, is a colon and then this
abbrev pub IsColon : List ℕ → List ℕ → Type 0
IsColon text rest = IsGap text (58 ∷ rest)

-- ---- names and words

-- the bytes of a kind that the text begins with: all of them
abbrev pub IsRun : (ℕ → Bool) → List ℕ → List ℕ → List ℕ → Type 0
IsRun is_kind [] run rest = (run ≡ []) × (rest ≡ [])
IsRun is_kind (b ∷ text) run rest =
    ((is_kind b ≡ true) × (more : List ℕ) × (run ≡ b ∷ more) × IsRun is_kind text more rest)
    ⊎ ((is_kind b ≡ false) × (run ≡ []) × (rest ≡ b ∷ text))

-- one byte of the kind, and then all that follow it
abbrev pub IsWhole : (ℕ → Bool) → List ℕ → List ℕ → List ℕ → Type 0
IsWhole is_kind [] run rest = ⊥
IsWhole is_kind (b ∷ text) run rest = (is_kind b ≡ true) × (more : List ℕ) × (run ≡ b ∷ more) × IsRun is_kind text more rest

abbrev pub IsName : List ℕ → List ℕ → List ℕ → Type 0
IsName text name rest = IsWhole is_name_byte text name rest

abbrev pub IsWord : List ℕ → List ℕ → List ℕ → Type 0
IsWord text run rest = IsWhole is_word_byte text run rest

-- ---- strings and code

-- a quote or a backslash
abbrev pub is_escaped : ℕ → Bool
is_escaped b = b == 34 || b == 92

-- what a backslash and this byte stand for: `\"` and `\\` for the byte alone, and any other for both
abbrev pub unescaped : ℕ → List ℕ
unescaped b = if is_escaped b then b ∷ [] else 92 ∷ b ∷ []

abbrev mutual
  -- a string behind its first quote: it ends with the first quote that has no backslash
  pub IsQuoted : List ℕ → List ℕ → List ℕ → Type 0
  IsQuoted [] text rest = ⊥
  IsQuoted (b ∷ raw) text rest =
      ((b ≡ 34) × (text ≡ []) × (rest ≡ raw))
      ⊎ (((b ≡ 92) × IsEscape raw text rest)
      ⊎ ((is_escaped b ≡ false) × (more : List ℕ) × (text ≡ b ∷ more) × IsQuoted raw more rest))

  -- a string behind a backslash
  pub IsEscape : List ℕ → List ℕ → List ℕ → Type 0
  IsEscape [] text rest = ⊥
  IsEscape (b ∷ raw) text rest = (more : List ℕ) × (text ≡ unescaped b ++ more) × IsQuoted raw more rest

-- a string whose characters are this text
abbrev pub IsString : List ℕ → List ℕ → List ℕ → Type 0
IsString text string rest = (raw : List ℕ) × (text ≡ 34 ∷ raw) × IsQuoted raw string rest × (is_text string ≡ true)

abbrev mutual
  -- code up to the first `;;`
  pub IsCode : List ℕ → List ℕ → List ℕ → Type 0
  IsCode [] kept rest = ⊥
  IsCode (b ∷ raw) kept rest =
      ((b ≡ 59) × IsSemicolon raw kept rest)
      ⊎ (((b == 59) ≡ false) × (more : List ℕ) × (kept ≡ b ∷ more) × IsCode raw more rest)

  -- code behind a semicolon: a second one ends it
  pub IsSemicolon : List ℕ → List ℕ → List ℕ → Type 0
  IsSemicolon [] kept rest = ⊥
  IsSemicolon (b ∷ raw) kept rest =
      ((b ≡ 59) × (kept ≡ []) × (rest ≡ raw))
      ⊎ (((b == 59) ≡ false) × (more : List ℕ) × (kept ≡ 59 ∷ b ∷ more) × IsCode raw more rest)

abbrev pub without_front : List ℕ → List ℕ
without_front [] = []
without_front (b ∷ text) = if is_space b then without_front text else b ∷ text

-- the byte before a text, unless it is white space and nothing follows
abbrev pub with_front : ℕ → List ℕ → List ℕ
with_front b [] = if is_space b then [] else b ∷ []
with_front b (c ∷ text) = b ∷ c ∷ text

abbrev pub without_end : List ℕ → List ℕ
without_end [] = []
without_end (b ∷ text) = with_front b (without_end text)

-- the text without the white space at its front and at its end
abbrev pub trimmed : List ℕ → List ℕ
trimmed text = without_end (without_front text)

-- ---- values

-- a word or a string
abbrev pub IsScalar : List ℕ → List ℕ → List ℕ → Type 0
IsScalar text scalar rest = IsWord text scalar rest ⊎ IsString text scalar rest

-- an entry of a list: a word, a string, or a pair of a name and a word or a string
abbrev pub IsEntry : List ℕ → Entry → List ℕ → Type 0
IsEntry text (entry.word w) rest = IsWord text w rest
IsEntry text (entry.quoted q) rest = IsString text q rest
IsEntry text (entry.pair key scalar) rest =
    (behind colon start : List ℕ) × IsWord text key behind × (is_key key ≡ true) × IsColon behind colon × IsGap colon start
    × IsScalar start scalar rest
IsEntry text (entry.other value) rest = ⊥

-- the entries of a list and its `]`: commas stand between them, and one may follow the last
abbrev pub AreEntries : List ℕ → List Entry → List ℕ → Type 0
AreEntries text [] rest = text ≡ 93 ∷ rest
AreEntries text (e ∷ es) rest =
    (behind next : List ℕ) × IsEntry text e behind × IsGap behind next
    × (((es ≡ []) × (next ≡ 93 ∷ rest))
    ⊎ ((comma start : List ℕ) × (next ≡ 44 ∷ comma) × IsGap comma start × AreEntries start es rest))

-- a value where this many blocks are open: a list counts as one more, and may stand where fewer than `most` are open
abbrev pub IsValue : ℕ → ℕ → List ℕ → Plain → List ℕ → Type 0
IsValue most depth text (word w) rest = IsWord text w rest
IsValue most depth text (quoted q) rest = IsString text q rest
IsValue most depth text (list es) rest =
    (depth < most) × (inside start : List ℕ) × (text ≡ 91 ∷ inside) × IsGap inside start × AreEntries start es rest
IsValue most depth text (code c) rest = ⊥

-- what follows a parameter's colon: code, where the name wants it, and else white space and another value
abbrev pub IsContent : ℕ → ℕ → List ℕ → List ℕ → Plain → List ℕ → Type 0
IsContent most depth name text (code c) rest =
    (is_code_name name ≡ true) × (raw : List ℕ) × IsCode text raw rest × (is_text raw ≡ true) × (c ≡ trimmed raw)
IsContent most depth name text value rest =
    (is_code_name name ≡ false) × (start : List ℕ) × IsGap text start × IsValue most depth start value rest

-- a block's name, if it has one, and its `{`
abbrev pub IsOpening : List ℕ → Option (List ℕ) → List ℕ → Type 0
IsOpening text None rest = text ≡ 123 ∷ rest
IsOpening text (Some title) rest =
    (behind : List ℕ) × IsWord text title behind × (is_title title ≡ true) × IsGap behind (123 ∷ rest)

-- ---- lines

-- a name, whose place is the number of bytes before it in a file of this size, and its colon
abbrev pub IsNamed : ℕ → List ℕ → List ℕ → ℕ → List ℕ → Type 0
IsNamed size text name place rest =
    (behind : List ℕ) × (place + length text ≡ size) × IsName text name behind × IsColon behind rest

-- a line where this many blocks are open
abbrev pub IsLine : ℕ → ℕ → ℕ → List ℕ → Line → List ℕ → Type 0
IsLine most size depth text (plain name place value) rest =
    (content : List ℕ) × IsNamed size text name place content × IsContent most depth name content value rest
IsLine most size depth text (block name place title) rest =
    (depth < most) × (content start : List ℕ) × IsNamed size text name place content × (is_code_name name ≡ false)
    × IsGap content start × IsOpening start title rest
IsLine most size depth text closing rest = (0 < depth) × (text ≡ 125 ∷ rest)

-- the blocks that are open behind the line
abbrev pub depth_after : ℕ → Line → ℕ
depth_after depth (plain name place value) = depth
depth_after depth (block name place title) = suc depth
depth_after depth closing = pred depth

-- the lines of a file, up to its end, from where this many blocks are open
abbrev pub AreLines : ℕ → ℕ → ℕ → List ℕ → List Line → Type 0
AreLines most size depth text [] = (depth ≡ 0) × (text ≡ [])
AreLines most size depth text (line ∷ more) =
    (rest next : List ℕ) × IsLine most size depth text line rest × IsGap rest next × AreLines most size (depth_after depth line) next more

-- the text spells these lines, from its front to its end, and at most so many blocks and lists are open at once
abbrev pub SpellsLines : ℕ → List ℕ → List Line → Type 0
SpellsLines most text all = (start : List ℕ) × IsGap text start × AreLines most (length text) 0 start all

-- the text spells the tree
abbrev pub IsFile : ℕ → List ℕ → Outline → Type 0
IsFile most text tree = SpellsLines most text (lines tree)
