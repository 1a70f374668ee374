-- Texts that break off: whole lines, and then a part of a line. The innermost open construct names the fault.
use Rattle.std.specs.Prelude.{◌≡◌, ℕ, suc, true, false, ◌+◌, ◌<◌, List, [], ◌∷◌, ◌⊎◌, length}
use Rattle.lk_read.specs.Entry.{Entry}
use Rattle.lk_read.specs.declared.read_fault.ReadFault.{ReadFault}
use Rattle.lk_read.specs.declared.read_fault.ReadFault.TheVariants as fault
use Rattle.lk_read.specs.Lines.{Line, plain, block, closing}
use Rattle.lk_read.specs.Bytes.{is_key, is_code_name}
use Rattle.lk_read.specs.Grammar.{IsGap, IsColon, IsName, IsWord, IsQuoted, IsCode, IsEntry, IsNamed, IsLine}

-- ---- whole lines

-- the places of the braces that are open behind a line, the innermost first; a block's own is the byte before the rest
abbrev pub IsOpenBehind : ℕ → List ℕ → Line → List ℕ → List ℕ → Type 0
IsOpenBehind size braces (plain name place value) rest behind = behind ≡ braces
IsOpenBehind size braces (block name place title) rest behind = (brace : ℕ) × (brace + suc (length rest) ≡ size) × (behind ≡ brace ∷ braces)
IsOpenBehind size braces closing rest behind = (brace : ℕ) × (braces ≡ brace ∷ behind)

-- the text begins with these lines, and goes on here, with these braces open
abbrev pub Passes : ℕ → ℕ → List ℕ → List ℕ → List Line → List ℕ → List ℕ → Type 0
Passes most size braces text [] now here = (now ≡ braces) × (here ≡ text)
Passes most size braces text (line ∷ more) now here =
    (rest next behind : List ℕ) × IsLine most size (length braces) text line rest × IsOpenBehind size braces line rest behind
    × IsGap rest next × Passes most size behind next more now here

-- ---- a part of a line

-- a value is missing: the innermost open brace is the fault, or the end of the text where none is open
abbrev pub IsMissing : ℕ → List ℕ → ReadFault → Type 0
IsMissing size [] why = why ≡ fault.R4 size
IsMissing size (brace ∷ braces) why = why ≡ fault.R2 brace

-- a string begins here, and no quote ends it
abbrev pub IsOpenString : ℕ → List ℕ → ReadFault → Type 0
IsOpenString size text why =
    (raw : List ℕ) × (place : ℕ) × (text ≡ 34 ∷ raw) × (place + length text ≡ size)
    × ((string rest : List ℕ) → IsQuoted raw string rest → ⊥) × (why ≡ fault.R1 place)

-- the text begins with these entries and their commas, and goes on here
abbrev pub PassesEntries : List ℕ → List Entry → List ℕ → Type 0
PassesEntries text [] here = here ≡ text
PassesEntries text (e ∷ es) here =
    (behind next comma start : List ℕ) × IsEntry text e behind × IsGap behind next × (next ≡ 44 ∷ comma) × IsGap comma start
    × PassesEntries start es here

-- where a list's text ends: before an entry, behind one, in a string, or in a pair; this is the place of its `[`
abbrev pub IsCutEntry : ℕ → ℕ → List ℕ → ReadFault → Type 0
IsCutEntry size bracket text why =
    ((text ≡ []) × (why ≡ fault.R2 bracket))
    ⊎ (((e : Entry) × (behind : List ℕ) × IsEntry text e behind × IsGap behind [] × (why ≡ fault.R2 bracket))
    ⊎ (IsOpenString size text why
    ⊎ ((key behind colon value : List ℕ) × IsWord text key behind × (is_key key ≡ true) × IsColon behind colon × IsGap colon value
    × (((value ≡ []) × (why ≡ fault.R2 bracket)) ⊎ IsOpenString size value why))))

-- the entries of a list, which no `]` ends
abbrev pub AreCutEntries : ℕ → ℕ → List ℕ → ReadFault → Type 0
AreCutEntries size bracket text why = (es : List Entry) × (here : List ℕ) × PassesEntries text es here × IsCutEntry size bracket here why

-- a list begins here, and no `]` ends it
abbrev pub IsOpenList : ℕ → List ℕ → ReadFault → Type 0
IsOpenList size text why =
    (inside start : List ℕ) × (bracket : ℕ) × (text ≡ 91 ∷ inside) × (bracket + length text ≡ size) × IsGap inside start
    × AreCutEntries size bracket start why

-- a value that breaks off
abbrev pub IsCutValue : ℕ → ℕ → List ℕ → List ℕ → ReadFault → Type 0
IsCutValue most size braces text why =
    ((text ≡ []) × IsMissing size braces why) ⊎ (IsOpenString size text why ⊎ ((length braces < most) × IsOpenList size text why))

-- what follows a parameter's colon, and breaks off; the parameter's name stands at this place
abbrev pub IsCutContent : ℕ → ℕ → List ℕ → List ℕ → ℕ → List ℕ → ReadFault → Type 0
IsCutContent most size braces name place text why =
    ((is_code_name name ≡ true) × ((kept rest : List ℕ) → IsCode text kept rest → ⊥) × (why ≡ fault.R3 place))
    ⊎ ((is_code_name name ≡ false) × (start : List ℕ) × IsGap text start × IsCutValue most size braces start why)

-- a line that breaks off, where these braces are open
abbrev pub IsCutLine : ℕ → ℕ → List ℕ → List ℕ → ReadFault → Type 0
IsCutLine most size braces text why =
    ((text ≡ []) × (brace : ℕ) × (outer : List ℕ) × (braces ≡ brace ∷ outer) × (why ≡ fault.R2 brace))
    ⊎ (((name rest : List ℕ) × IsName text name rest × IsGap rest [] × IsMissing size braces why)
    ⊎ ((name : List ℕ) × (place : ℕ) × (content : List ℕ) × IsNamed size text name place content
    × IsCutContent most size braces name place content why))

-- the text is whole lines and a part of a line, and this is its fault
abbrev pub BreaksOff : ℕ → List ℕ → ReadFault → Type 0
BreaksOff most text why =
    (start : List ℕ) × IsGap text start × (whole : List Line) × (now here : List ℕ)
    × Passes most (length text) [] start whole now here × IsCutLine most (length text) now here why
