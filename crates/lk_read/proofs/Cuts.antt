-- What a front of a text may lead to where the text breaks off: the rest of each piece, and then the part of a line.
use Rattle.std.proofs.Common.{◌≡◌, ℕ, suc, true, false, ◌+◌, ◌<◌, List, [], ◌∷◌, ◌++◌, ◌⊎◌, Option, length}
use Rattle.lk_read.specs.Entry.{Entry}
use Rattle.lk_read.specs.declared.read_fault.ReadFault.{ReadFault}
use Rattle.lk_read.specs.declared.read_fault.ReadFault.TheVariants as fault
use Rattle.lk_read.specs.declared.phase.Param.{Param}
use Rattle.lk_read.specs.declared.phase.Slot.{Slot}
use Rattle.lk_read.specs.declared.phase.Slot.TheVariants as slot
use Rattle.lk_read.specs.declared.phase.Phase.{Phase}
use Rattle.lk_read.specs.declared.phase.Phase.TheVariants as phase
use Rattle.lk_read.specs.declared.reader.Reader.{Reader}
use Rattle.lk_utf8.specs.declared.utf8.Utf8.TheVariants as utf
use Rattle.lk_read.specs.Outline.{Plain}
use Rattle.lk_read.specs.Lines.{Line}
use Rattle.lk_read.specs.Bytes.{is_name_byte, is_word_byte, is_title, is_key, is_code_name}
use Rattle.lk_utf8.specs.Utf8.{completes}
use Rattle.lk_read.specs.Grammar.{IsGap, IsRun, IsQuoted, IsEscape, IsCode, IsSemicolon, IsScalar, AreEntries, IsValue, IsContent, IsOpening}
use Rattle.lk_read.specs.BreaksOff.{Passes, IsCutLine, IsMissing, IsOpenString, AreCutEntries, IsCutValue, IsCutContent}
use Rattle.lk_read.proofs.Rests.{WithComment}

module _ (most size : ℕ) (why : ReadFault) where
  -- whole lines, and then a part of a line
  abbrev pub CutLines : List ℕ → List ℕ → Type 0
  CutLines braces text = (whole : List Line) × (now here : List ℕ) × Passes most size braces text whole now here × IsCutLine most size now here why

  abbrev pub After : List ℕ → List ℕ → Type 0
  After braces rest = (next : List ℕ) × IsGap rest next × CutLines braces next

  module _ (braces : List ℕ) where
    -- behind an entry of a list and the white space there
    abbrev pub CutComma : ℕ → List ℕ → Type 0
    CutComma bracket next =
        ((es : List Entry) × (rest : List ℕ)
        × (((es ≡ []) × (next ≡ 93 ∷ rest)) ⊎ ((comma start : List ℕ) × (next ≡ 44 ∷ comma) × IsGap comma start × AreEntries start es rest))
        × After braces rest)
        ⊎ (((next ≡ []) × (why ≡ fault.R2 bracket))
        ⊎ ((comma start : List ℕ) × (next ≡ 44 ∷ comma) × IsGap comma start × AreCutEntries size bracket start why))

    abbrev pub CutBehindEntry : ℕ → List ℕ → Type 0
    CutBehindEntry bracket rest = (next : List ℕ) × IsGap rest next × CutComma bracket next

    -- behind a pair's colon and the white space there
    abbrev pub CutPair : ℕ → List ℕ → Type 0
    CutPair bracket start =
        ((scalar rest : List ℕ) × IsScalar start scalar rest × CutBehindEntry bracket rest)
        ⊎ (((start ≡ []) × (why ≡ fault.R2 bracket)) ⊎ IsOpenString size start why)

    abbrev pub CutEntries : ℕ → List ℕ → Type 0
    CutEntries bracket start =
        ((es : List Entry) × (rest : List ℕ) × AreEntries start es rest × After braces rest) ⊎ AreCutEntries size bracket start why

    -- where a value or an entry begins
    abbrev pub CutStart : Slot → List ℕ → Type 0
    CutStart slot.Value start =
        ((value : Plain) × (rest : List ℕ) × IsValue most (length braces) start value rest × After braces rest)
        ⊎ (((title : Option (List ℕ)) × (rest : List ℕ) × (brace : ℕ) × (length braces < most) × IsOpening start title rest
        × (brace + suc (length rest) ≡ size) × After (brace ∷ braces) rest)
        ⊎ IsCutValue most size braces start why)
    CutStart (slot.Entry open_list) start = CutEntries open_list.bracket start
    CutStart (slot.Pair open_list key) start = CutPair open_list.bracket start

    -- behind a word and the white space there
    abbrev pub CutBehind : Slot → List ℕ → List ℕ → Type 0
    CutBehind slot.Value text start =
        CutLines braces start
        ⊎ ((rest : List ℕ) × (brace : ℕ) × (length braces < most) × (is_title text ≡ true) × (start ≡ 123 ∷ rest)
        × (brace + suc (length rest) ≡ size) × After (brace ∷ braces) rest)
    CutBehind (slot.Entry open_list) text start =
        CutComma open_list.bracket start
        ⊎ ((colon first : List ℕ) × (is_key text ≡ true) × (start ≡ 58 ∷ colon) × IsGap colon first × CutPair open_list.bracket first)
    CutBehind (slot.Pair open_list key) text start = CutComma open_list.bracket start

    -- behind a string
    abbrev pub CutString : Slot → List ℕ → Type 0
    CutString slot.Value rest = After braces rest
    CutString (slot.Entry open_list) rest = CutBehindEntry open_list.bracket rest
    CutString (slot.Pair open_list key) rest = CutBehindEntry open_list.bracket rest

    -- behind a parameter's colon
    abbrev pub CutColon : Param → List ℕ → Type 0
    CutColon param content =
        ((value : Plain) × (rest : List ℕ) × IsContent most (length braces) param.name content value rest × After braces rest)
        ⊎ (((title : Option (List ℕ)) × (start rest : List ℕ) × (brace : ℕ) × (length braces < most) × (is_code_name param.name ≡ false)
        × IsGap content start × IsOpening start title rest × (brace + suc (length rest) ≡ size) × After (brace ∷ braces) rest)
        ⊎ IsCutContent most size braces param.name param.place content why)

    abbrev pub CutAt : Phase → List ℕ → Type 0
    CutAt phase.Between start = CutLines braces start
    CutAt (phase.Colon param) start =
        ((content : List ℕ) × (start ≡ 58 ∷ content) × CutColon param content) ⊎ ((start ≡ []) × IsMissing size braces why)
    CutAt (phase.Start param spot) start = CutStart spot start
    CutAt (phase.Behind param spot text) start = CutBehind spot text start
    CutAt (phase.Comma param open_list) start = CutComma open_list.bracket start
    CutAt now start = ⊥

    abbrev pub CutGap : Phase → List ℕ → Type 0
    CutGap now text = (start : List ℕ) × IsGap text start × CutAt now start

    -- the text goes on with what the reader is in, and breaks off
    abbrev pub CutRest : Phase → List ℕ → Type 0
    CutRest (phase.Name name place) text =
        (run rest : List ℕ) × IsRun is_name_byte text run rest × CutGap (phase.Colon (record { name = name ++ run; place = place })) rest
    CutRest (phase.Word param spot text0) text =
        (run rest : List ℕ) × IsRun is_word_byte text run rest × CutGap (phase.Behind param spot (text0 ++ run)) rest
    CutRest (phase.Quoted param spot quote text0 utf8) text =
        ((string rest : List ℕ) × IsQuoted text string rest × (completes utf8 string ≡ true) × CutString spot rest)
        ⊎ (((string rest : List ℕ) → IsQuoted text string rest → ⊥) × (why ≡ fault.R1 quote))
    CutRest (phase.Escape param spot quote text0) text =
        ((string rest : List ℕ) × IsEscape text string rest × (completes utf.Whole string ≡ true) × CutString spot rest)
        ⊎ (((string rest : List ℕ) → IsEscape text string rest → ⊥) × (why ≡ fault.R1 quote))
    CutRest (phase.Code param raw utf8) text =
        ((kept rest : List ℕ) × IsCode text kept rest × (completes utf8 kept ≡ true) × After braces rest)
        ⊎ (((kept rest : List ℕ) → IsCode text kept rest → ⊥) × (why ≡ fault.R3 param.place))
    CutRest (phase.Semicolon param raw) text =
        ((kept rest : List ℕ) × IsSemicolon text kept rest × (completes utf.Whole kept ≡ true) × After braces rest)
        ⊎ (((kept rest : List ℕ) → IsSemicolon text kept rest → ⊥) × (why ≡ fault.R3 param.place))
    CutRest now text = CutGap now text

  -- the text goes on with what the reader has begun, and breaks off with the fault
  abbrev pub IsCut : Reader → List ℕ → Type 0
  IsCut reader text = WithComment reader.comment (λ t. CutRest reader.builder.open_braces reader.phase t) text
