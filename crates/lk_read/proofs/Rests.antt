-- What may follow a front of a text, from what the reader is in: the rest of each piece, and then the rest of the grammar.
use Rattle.std.proofs.Common.{◌≡◌, ℕ, Bool, true, false, ◌==◌, ◌<◌, List, [], ◌∷◌, ◌++◌, ◌⊎◌, Option, Some, length}
use Rattle.lk_read.specs.Entry.{Entry}
use Rattle.lk_read.specs.Entry as entry
use Rattle.lk_read.specs.declared.phase.Param.{Param}
use Rattle.lk_read.specs.declared.phase.OpenList.{OpenList}
use Rattle.lk_read.specs.declared.phase.Slot.{Slot}
use Rattle.lk_read.specs.declared.phase.Slot.TheVariants as slot
use Rattle.lk_read.specs.declared.phase.Phase.{Phase}
use Rattle.lk_read.specs.declared.phase.Phase.TheVariants as phase
use Rattle.lk_read.specs.declared.reader.Reader.{Reader}
use Rattle.lk_utf8.specs.declared.utf8.Utf8.TheVariants as utf
use Rattle.lk_read.specs.Outline.{Plain, word, quoted, list, code}
use Rattle.lk_read.specs.Lines.{Line, plain, block}
use Rattle.lk_read.specs.Built.{Built}
use Rattle.lk_read.specs.Bytes.{is_name_byte, is_word_byte, is_title, is_key, is_code_name}
use Rattle.lk_utf8.specs.Utf8.{completes}
use Rattle.lk_read.specs.Grammar.{IsGap, IsRun, IsQuoted, IsEscape, IsCode, IsSemicolon, trimmed, IsScalar, AreEntries, IsValue, IsContent, IsOpening, depth_after, AreLines}
use Rattle.lk_read.specs.Reading.{with_entry}

module _ (most size depth : ℕ) where
  -- the line, whose text ends here, and the lines behind it
  abbrev pub Emits : Line → List ℕ → List Line → Type 0
  Emits line rest more =
      (lines : List Line) × (more ≡ line ∷ lines) × (next : List ℕ) × IsGap rest next × AreLines most size (depth_after depth line) next lines

  -- behind an entry of a list and the white space there
  abbrev pub AtComma : Param → OpenList → List ℕ → List Line → Type 0
  AtComma param open_list next more =
      (es : List Entry) × (rest : List ℕ)
      × (((es ≡ []) × (next ≡ 93 ∷ rest)) ⊎ ((comma start : List ℕ) × (next ≡ 44 ∷ comma) × IsGap comma start × AreEntries start es rest))
      × Emits (plain param.name param.place (list (open_list.entries ++ es))) rest more

  abbrev pub BehindEntry : Param → OpenList → List ℕ → List Line → Type 0
  BehindEntry param open_list rest more = (next : List ℕ) × IsGap rest next × AtComma param open_list next more

  -- where a value or an entry begins
  abbrev pub AtStart : Param → Slot → List ℕ → List Line → Type 0
  AtStart param slot.Value start more =
      ((value : Plain) × (rest : List ℕ) × IsValue most depth start value rest × Emits (plain param.name param.place value) rest more)
      ⊎ ((title : Option (List ℕ)) × (rest : List ℕ) × (depth < most) × IsOpening start title rest × Emits (block param.name param.place title) rest more)
  AtStart param (slot.Entry open_list) start more =
      (es : List Entry) × (rest : List ℕ) × AreEntries start es rest
      × Emits (plain param.name param.place (list (open_list.entries ++ es))) rest more
  AtStart param (slot.Pair open_list key) start more =
      (scalar rest : List ℕ) × IsScalar start scalar rest × BehindEntry param (with_entry open_list (entry.pair key scalar)) rest more

  -- behind a word and the white space there
  abbrev pub AtBehind : Param → Slot → List ℕ → List ℕ → List Line → Type 0
  AtBehind param slot.Value text start more =
      ((lines : List Line) × (more ≡ plain param.name param.place (word text) ∷ lines) × AreLines most size depth start lines)
      ⊎ ((rest : List ℕ) × (depth < most) × (is_title text ≡ true) × (start ≡ 123 ∷ rest) × Emits (block param.name param.place (Some text)) rest more)
  AtBehind param (slot.Entry open_list) text start more =
      AtComma param (with_entry open_list (entry.word text)) start more
      ⊎ ((colon first : List ℕ) × (scalar rest : List ℕ) × (is_key text ≡ true) × (start ≡ 58 ∷ colon) × IsGap colon first
      × IsScalar first scalar rest × BehindEntry param (with_entry open_list (entry.pair text scalar)) rest more)
  AtBehind param (slot.Pair open_list key) text start more = AtComma param (with_entry open_list (entry.pair key text)) start more

  -- behind a string
  abbrev pub BehindString : Param → Slot → List ℕ → List ℕ → List Line → Type 0
  BehindString param slot.Value text rest more = Emits (plain param.name param.place (quoted text)) rest more
  BehindString param (slot.Entry open_list) text rest more = BehindEntry param (with_entry open_list (entry.quoted text)) rest more
  BehindString param (slot.Pair open_list key) text rest more = BehindEntry param (with_entry open_list (entry.pair key text)) rest more

  -- behind a parameter's colon
  abbrev pub BehindColon : Param → List ℕ → List Line → Type 0
  BehindColon param content more =
      ((value : Plain) × (rest : List ℕ) × IsContent most depth param.name content value rest × Emits (plain param.name param.place value) rest more)
      ⊎ ((title : Option (List ℕ)) × (start rest : List ℕ) × (depth < most) × (is_code_name param.name ≡ false) × IsGap content start
      × IsOpening start title rest × Emits (block param.name param.place title) rest more)

  -- behind the white space
  abbrev pub At : Phase → List ℕ → List Line → Type 0
  At phase.Between start more = AreLines most size depth start more
  At (phase.Colon param) start more = (content : List ℕ) × (start ≡ 58 ∷ content) × BehindColon param content more
  At (phase.Start param spot) start more = AtStart param spot start more
  At (phase.Behind param spot text) start more = AtBehind param spot text start more
  At (phase.Comma param open_list) start more = AtComma param open_list start more
  At now start more = ⊥

  abbrev pub AtGap : Phase → List ℕ → List Line → Type 0
  AtGap now text more = (start : List ℕ) × IsGap text start × At now start more

  -- the text finishes what the reader is in, and has these lines
  abbrev pub RestOf : Phase → List ℕ → List Line → Type 0
  RestOf (phase.Name name place) text more =
      (run rest : List ℕ) × IsRun is_name_byte text run rest × AtGap (phase.Colon (record { name = name ++ run; place = place })) rest more
  RestOf (phase.Word param spot text0) text more =
      (run rest : List ℕ) × IsRun is_word_byte text run rest × AtGap (phase.Behind param spot (text0 ++ run)) rest more
  RestOf (phase.Quoted param spot quote text0 utf8) text more =
      (string rest : List ℕ) × IsQuoted text string rest × (completes utf8 string ≡ true) × BehindString param spot (text0 ++ string) rest more
  RestOf (phase.Escape param spot quote text0) text more =
      (string rest : List ℕ) × IsEscape text string rest × (completes utf.Whole string ≡ true) × BehindString param spot (text0 ++ string) rest more
  RestOf (phase.Code param raw utf8) text more =
      (kept rest : List ℕ) × IsCode text kept rest × (completes utf8 kept ≡ true)
      × Emits (plain param.name param.place (code (trimmed (raw ++ kept)))) rest more
  RestOf (phase.Semicolon param raw) text more =
      (kept rest : List ℕ) × IsSemicolon text kept rest × (completes utf.Whole kept ≡ true)
      × Emits (plain param.name param.place (code (trimmed (raw ++ kept)))) rest more
  RestOf now text more = AtGap now text more

-- behind the line feed of a comment, or at the text's end
abbrev pub BehindComment : (List ℕ → Type 0) → List ℕ → Type 0
BehindComment Rest [] = Rest []
BehindComment Rest (b ∷ text) = ((b ≡ 10) × Rest text) ⊎ (((b == 10) ≡ false) × BehindComment Rest text)

abbrev pub WithComment : Bool → (List ℕ → Type 0) → List ℕ → Type 0
WithComment true Rest text = BehindComment Rest text
WithComment false Rest text = Rest text

-- these are the lines so far and those of the rest
abbrev pub AllLines : Built → (ℕ → List Line → Type 0) → List Line → Type 0
AllLines built Rest all = (more : List Line) × (all ≡ built.lines ++ more) × Rest (length built.open_braces) more

-- the text finishes what the reader has begun, and gives these lines
abbrev pub IsRest : ℕ → ℕ → Reader → List ℕ → List Line → Type 0
IsRest most size reader text all =
    AllLines reader.builder (λ depth more. WithComment reader.comment (λ t. RestOf most size depth reader.phase t more) text) all
