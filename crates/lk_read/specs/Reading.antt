-- How a text is read, byte by byte from the front. This is the code written again; `Grammar` says what it means.
use Rattle.std.specs.Prelude.{◌≡◌, ℕ, Bool, true, false, not, ◌&&◌, ◌==◌, ◌+◌, nat_lt, List, [], ◌∷◌, ◌++◌, Option, Some, None, Result, Ok, Err, length, if◌then◌else◌}
use Rattle.lk_read.specs.Entry.{Entry}
use Rattle.lk_read.specs.Entry as entry
use Rattle.lk_read.specs.declared.read_fault.ReadFault.{ReadFault}
use Rattle.lk_read.specs.declared.read_fault.ReadFault.TheVariants as fault
use Rattle.lk_read.specs.declared.phase.Param.{Param}
use Rattle.lk_read.specs.declared.phase.OpenList.{OpenList}
use Rattle.lk_read.specs.declared.phase.Slot.{Slot}
use Rattle.lk_read.specs.declared.phase.Slot.TheVariants as slot
use Rattle.lk_read.specs.declared.phase.Phase.{Phase}
use Rattle.lk_read.specs.declared.phase.Phase.TheVariants as phase
use Rattle.lk_read.specs.declared.reader.Reader.{Reader}
use Rattle.lk_utf8.specs.declared.utf8.Utf8.{Utf8}
use Rattle.lk_utf8.specs.declared.utf8.Utf8.TheVariants as utf
use Rattle.lk_read.specs.Outline.{Outline, Plain, word, quoted, list, code}
use Rattle.lk_read.specs.Lines.{Line, lines, plain}
use Rattle.lk_read.specs.Built.{Built, nothing_built, with_lines, with_block, closed_of, first_of}
use Rattle.lk_read.specs.Bytes.{is_space, is_name_byte, is_word_byte, is_title, is_key, is_code_name}
use Rattle.lk_utf8.specs.Utf8.{utf8_after, is_whole}
use Rattle.lk_read.specs.Grammar.{unescaped, trimmed}

-- a step: the reader behind one more byte, or the fault at it
abbrev pub Step : Type 0
Step = Result Reader ReadFault

abbrev pub in_phase : Built → Phase → Step
in_phase built now = Ok (record { builder = built; phase = now; comment = false })

-- with a line whose value is no block
abbrev pub with_plain : Built → Param → Plain → Built
with_plain built param value = with_lines built (plain param.name param.place value ∷ [])

-- ---- pieces

abbrev pub closed_to : Option Built → ℕ → Step
closed_to None place = Err (fault.R4 place)
closed_to (Some outer) place = in_phase outer phase.Between

-- where a parameter may begin or a block may end
abbrev pub between_at : Built → ℕ → ℕ → Step
between_at built place b =
    if is_name_byte b then in_phase built (phase.Name (b ∷ []) place) else
    (if b == 125 then closed_to (closed_of built built.open_braces) place else Err (fault.R4 place))

-- behind the colon there is code, where the name wants it
abbrev pub behind_colon : Param → Bool → Phase
behind_colon param true = phase.Code param [] utf.Whole
behind_colon param false = phase.Start param slot.Value

abbrev pub colon_at : Built → Param → ℕ → ℕ → Step
colon_at built param place b =
    if b == 58 then in_phase built (behind_colon param (is_code_name param.name)) else Err (fault.R4 place)

-- what a block or a list opens, where fewer than `most` are open
abbrev pub opened : ℕ → Built → ℕ → Built → Phase → Step
opened most built place next now = if nat_lt (length built.open_braces) most then in_phase next now else Err (fault.R5 place)

abbrev pub block_opened : ℕ → Built → Param → Option (List ℕ) → ℕ → Step
block_opened most built param title place = opened most built place (with_block built param.name param.place title place) phase.Between

abbrev pub list_opened : ℕ → Built → Param → ℕ → Step
list_opened most built param place =
    opened most built place built (phase.Start param (slot.Entry (record { bracket = place; entries = [] })))

abbrev pub list_ended : Built → Param → OpenList → Step
list_ended built param open_list = in_phase (with_plain built param (list open_list.entries)) phase.Between

abbrev pub with_entry : OpenList → Entry → OpenList
with_entry open_list e = record { bracket = open_list.bracket; entries = open_list.entries ++ e ∷ [] }

-- a bracket where a value or an entry may begin
abbrev pub bracket_at : ℕ → Built → Param → Slot → ℕ → ℕ → Step
bracket_at most built param slot.Value place b =
    if b == 91 then list_opened most built param place else
    (if b == 123 then block_opened most built param None place else Err (fault.R4 place))
bracket_at most built param (slot.Entry open_list) place b = if b == 93 then list_ended built param open_list else Err (fault.R4 place)
bracket_at most built param (slot.Pair open_list key) place b = Err (fault.R4 place)

abbrev pub start_at : ℕ → Built → Param → Slot → ℕ → ℕ → Step
start_at most built param spot place b =
    if is_word_byte b then in_phase built (phase.Word param spot (b ∷ [])) else
    (if b == 34 then in_phase built (phase.Quoted param spot place [] utf.Whole) else bracket_at most built param spot place b)

abbrev pub comma_at : Built → Param → OpenList → ℕ → ℕ → Step
comma_at built param open_list place b =
    if b == 44 then in_phase built (phase.Start param (slot.Entry open_list)) else
    (if b == 93 then list_ended built param open_list else Err (fault.R4 place))

abbrev pub behind_at : ℕ → Built → Param → Slot → List ℕ → ℕ → ℕ → Step
behind_at most built param slot.Value text place b =
    if b == 123 && is_title text then block_opened most built param (Some text) place
    else between_at (with_plain built param (word text)) place b
behind_at most built param (slot.Entry open_list) text place b =
    if b == 58 && is_key text then in_phase built (phase.Start param (slot.Pair open_list text))
    else comma_at built param (with_entry open_list (entry.word text)) place b
behind_at most built param (slot.Pair open_list key) text place b = comma_at built param (with_entry open_list (entry.pair key text)) place b

abbrev pub piece_at : ℕ → Built → Phase → ℕ → ℕ → Step
piece_at most built phase.Between place b = between_at built place b
piece_at most built (phase.Colon param) place b = colon_at built param place b
piece_at most built (phase.Start param spot) place b = start_at most built param spot place b
piece_at most built (phase.Behind param spot text) place b = behind_at most built param spot text place b
piece_at most built (phase.Comma param open_list) place b = comma_at built param open_list place b
piece_at most built now place b = Err (fault.R4 place)

-- white space, a comment's beginning, or the next piece
abbrev pub gap_at : ℕ → Built → Phase → ℕ → ℕ → Step
gap_at most built now place b =
    if is_space b then in_phase built now else
    (if b == 35 then Ok (record { builder = built; phase = now; comment = true }) else piece_at most built now place b)

-- ---- in strings and code

abbrev pub goes_to : Built → Option Utf8 → (Utf8 → Phase) → ℕ → Step
goes_to built None now place = Err (fault.R4 place)
goes_to built (Some next) now place = in_phase built (now next)

abbrev pub string_ended : Built → Param → Slot → List ℕ → Step
string_ended built param slot.Value text = in_phase (with_plain built param (quoted text)) phase.Between
string_ended built param (slot.Entry open_list) text = in_phase built (phase.Comma param (with_entry open_list (entry.quoted text)))
string_ended built param (slot.Pair open_list key) text = in_phase built (phase.Comma param (with_entry open_list (entry.pair key text)))

abbrev pub quoted_at : Built → Param → Slot → ℕ → List ℕ → Utf8 → ℕ → ℕ → Step
quoted_at built param spot quote text utf8 place b =
    if is_whole utf8 && b == 34 then string_ended built param spot text else
    (if is_whole utf8 && b == 92 then in_phase built (phase.Escape param spot quote text) else
    goes_to built (utf8_after utf8 b) (λ next. phase.Quoted param spot quote (text ++ b ∷ []) next) place)

abbrev pub escape_at : Built → Param → Slot → ℕ → List ℕ → ℕ → ℕ → Step
escape_at built param spot quote text place b =
    goes_to built (utf8_after utf.Whole b) (λ next. phase.Quoted param spot quote (text ++ unescaped b) next) place

abbrev pub code_at : Built → Param → List ℕ → Utf8 → ℕ → ℕ → Step
code_at built param raw utf8 place b =
    if is_whole utf8 && b == 59 then in_phase built (phase.Semicolon param raw) else
    goes_to built (utf8_after utf8 b) (λ next. phase.Code param (raw ++ b ∷ []) next) place

abbrev pub semicolon_at : Built → Param → List ℕ → ℕ → ℕ → Step
semicolon_at built param raw place b =
    if b == 59 then in_phase (with_plain built param (code (trimmed raw))) phase.Between else
    goes_to built (utf8_after utf.Whole b) (λ next. phase.Code param (raw ++ 59 ∷ b ∷ []) next) place

-- ---- steps

abbrev pub name_at : ℕ → Built → List ℕ → ℕ → ℕ → ℕ → Step
name_at most built name start place b =
    if is_name_byte b then in_phase built (phase.Name (name ++ b ∷ []) start)
    else gap_at most built (phase.Colon (record { name = name; place = start })) place b

abbrev pub word_at : ℕ → Built → Param → Slot → List ℕ → ℕ → ℕ → Step
word_at most built param spot text place b =
    if is_word_byte b then in_phase built (phase.Word param spot (text ++ b ∷ []))
    else gap_at most built (phase.Behind param spot text) place b

abbrev pub step_at : ℕ → Built → Phase → ℕ → ℕ → Step
step_at most built (phase.Name name start) place b = name_at most built name start place b
step_at most built (phase.Word param spot text) place b = word_at most built param spot text place b
step_at most built (phase.Quoted param spot quote text utf8) place b = quoted_at built param spot quote text utf8 place b
step_at most built (phase.Escape param spot quote text) place b = escape_at built param spot quote text place b
step_at most built (phase.Code param raw utf8) place b = code_at built param raw utf8 place b
step_at most built (phase.Semicolon param raw) place b = semicolon_at built param raw place b
step_at most built now place b = gap_at most built now place b

abbrev pub step : ℕ → Reader → ℕ → ℕ → Step
step most reader place b =
    if reader.comment then Ok (record { builder = reader.builder; phase = reader.phase; comment = not (b == 10) })
    else step_at most reader.builder reader.phase place b

-- ---- the end

-- the tree, where no block is open
abbrev pub whole : Built → Option ℕ → Result (List Line) ReadFault
whole built None = Ok built.lines
whole built (Some brace) = Err (fault.R2 brace)

-- a value is missing at the end
abbrev pub missing : Option ℕ → ℕ → Result (List Line) ReadFault
missing None place = Err (fault.R4 place)
missing (Some brace) place = Err (fault.R2 brace)

-- a text that ends where a value may begin, and behind a word
abbrev pub start_end : Built → Slot → ℕ → Result (List Line) ReadFault
start_end built slot.Value place = missing (first_of built.open_braces) place
start_end built (slot.Entry open_list) place = Err (fault.R2 open_list.bracket)
start_end built (slot.Pair open_list key) place = Err (fault.R2 open_list.bracket)

abbrev pub word_end : Built → Param → Slot → List ℕ → Result (List Line) ReadFault
word_end built param slot.Value text = whole (with_plain built param (word text)) (first_of built.open_braces)
word_end built param (slot.Entry open_list) text = Err (fault.R2 open_list.bracket)
word_end built param (slot.Pair open_list key) text = Err (fault.R2 open_list.bracket)

abbrev pub end_at : Built → Phase → ℕ → Result (List Line) ReadFault
end_at built phase.Between place = whole built (first_of built.open_braces)
end_at built (phase.Name name start) place = missing (first_of built.open_braces) place
end_at built (phase.Colon param) place = missing (first_of built.open_braces) place
end_at built (phase.Start param spot) place = start_end built spot place
end_at built (phase.Word param spot text) place = word_end built param spot text
end_at built (phase.Behind param spot text) place = word_end built param spot text
end_at built (phase.Comma param open_list) place = Err (fault.R2 open_list.bracket)
end_at built (phase.Quoted param spot quote text utf8) place = Err (fault.R1 quote)
end_at built (phase.Escape param spot quote text) place = Err (fault.R1 quote)
end_at built (phase.Code param raw utf8) place = Err (fault.R3 param.place)
end_at built (phase.Semicolon param raw) place = Err (fault.R3 param.place)

abbrev pub then_read : Step → (Reader → Result (List Line) ReadFault) → Result (List Line) ReadFault
then_read (Ok reader) rest = rest reader
then_read (Err why) rest = Err why

-- the lines that the rest of a text makes of what is read, or the first fault; the rest begins at this place
abbrev pub read_from : ℕ → ℕ → Reader → List ℕ → Result (List Line) ReadFault
read_from most place reader [] = end_at reader.builder reader.phase place
read_from most place reader (b ∷ text) = then_read (step most reader place b) (λ next. read_from most (place + 1) next text)

abbrev pub start_of_file : Reader
start_of_file = record { builder = nothing_built; phase = phase.Between; comment = false }

-- the lines of a text, or its first fault
unfoldable pub read_lines : ℕ → List ℕ → Result (List Line) ReadFault
read_lines most text = read_from most 0 start_of_file text

-- ---- answers

-- an answer of the program is this one, want of memory aside
abbrev pub Gives : {A : Type 0} → Result A ReadFault → Result A ReadFault → Type 0
Gives (Err fault.NoMemory) expected = Unit {0}
Gives (Ok x) expected = expected ≡ Ok x
Gives (Err why) expected = expected ≡ Err why

-- an answer with the lines in place of the tree
abbrev pub with_lines_of : Result Outline ReadFault → Result (List Line) ReadFault
with_lines_of (Ok tree) = Ok (lines tree)
with_lines_of (Err why) = Err why

-- the program answers with the tree of these lines, or with this fault
abbrev pub GivesLines : Result Outline ReadFault → Result (List Line) ReadFault → Type 0
GivesLines answer expected = Gives (with_lines_of answer) expected
