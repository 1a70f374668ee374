-- A refused text stops at a byte, or is read to its end and breaks off.
use Rattle.std.proofs.Common.{◌≡◌, ℕ, nat_lt, Bool, true, false, ◌&&◌, ◌==◌, cond, List, [], ◌∷◌, ◌++◌, ◌⊎◌, inl, inr, Option, Some, None, length, Ok, Err, refl}
use Rattle.lk_read.specs.Entry as entry
use Rattle.lk_read.specs.declared.read_fault.ReadFault.TheVariants as fault
use Rattle.lk_read.specs.declared.phase.Param.{Param}
use Rattle.lk_read.specs.declared.phase.OpenList.{OpenList}
use Rattle.lk_read.specs.declared.phase.Slot.{Slot}
use Rattle.lk_read.specs.declared.phase.Slot.TheVariants as slot
use Rattle.lk_read.specs.declared.phase.Phase.{Phase}
use Rattle.lk_read.specs.declared.phase.Phase.TheVariants as phase
use Rattle.lk_read.specs.declared.reader.Reader.{Reader}
use Rattle.lk_utf8.specs.declared.utf8.Utf8.{Utf8}
use Rattle.lk_utf8.specs.declared.utf8.Utf8.TheVariants as utf
use Rattle.lk_read.specs.Outline.{word, code}
use Rattle.lk_read.specs.Built.{Built, closed_of}
use Rattle.lk_read.specs.Bytes.{is_space, is_name_byte, is_word_byte, is_title, is_key, is_code_name}
use Rattle.lk_utf8.specs.Utf8.{utf8_after, is_whole}
use Rattle.lk_read.specs.Grammar.{unescaped, trimmed}
use Rattle.lk_read.specs.Reading.{Step, in_phase, with_entry, with_plain, closed_to, between_at, colon_at, behind_colon, opened, block_opened, list_opened, list_ended, bracket_at, start_at, comma_at, behind_at, piece_at, gap_at, goes_to, string_ended, step_at, step}

-- a step, for any bound on what may be open: it goes on, or the byte may not stand here, or it opens a block or a list
abbrev pub Kind : ℕ → (ℕ → Step) → Type 0
Kind place f =
    ((next : Reader) × ((most : ℕ) → f most ≡ Ok next))
    ⊎ (((most : ℕ) → f most ≡ Err (fault.R4 place))
    ⊎ ((next : Reader) × (open_ : ℕ) × ((most : ℕ) → f most ≡ cond (nat_lt open_ most) (Ok next) (Err (fault.R5 place)))))

kind_test : (place : ℕ) (c : Bool) (f g : ℕ → Step) → Kind place f → Kind place g → Kind place (λ most. cond c (f most) (g most))
kind_test place true f g p q = p
kind_test place false f g p q = q

module _ (place b : ℕ) where
  goes : (next : Reader) → Kind place (λ most. Ok next)
  goes next = inl (next, λ most. refl)

  wrong : Kind place (λ most. Err (fault.R4 place))
  wrong = inr (inl (λ most. refl))

  opens : (built next : Built) (now : Phase) → Kind place (λ most. opened most built place next now)
  opens built next now = inr (inr (record { builder = next; phase = now; comment = false }, length built.open_braces, λ most. refl))

  closed_kind : (built : Option Built) → Kind place (λ most. closed_to built place)
  closed_kind None = wrong
  closed_kind (Some outer) = goes _

  between_kind : (built : Built) → Kind place (λ most. between_at built place b)
  between_kind built =
      kind_test place (is_name_byte b) (λ _. in_phase built (phase.Name (b ∷ []) place)) _ (goes _)
      (kind_test place (b == 125) (λ _. closed_to (closed_of built built.open_braces) place) (λ _. Err (fault.R4 place)) (closed_kind (closed_of built built.open_braces)) wrong)

  colon_kind : (built : Built) (param : Param) → Kind place (λ most. colon_at built param place b)
  colon_kind built param =
      kind_test place (b == 58) (λ _. in_phase built (behind_colon param (is_code_name param.name))) (λ _. Err (fault.R4 place)) (goes _) wrong

  bracket_kind : (built : Built) (param : Param) (spot : Slot) → Kind place (λ most. bracket_at most built param spot place b)
  bracket_kind built param slot.Value =
      kind_test place (b == 91) (λ most. list_opened most built param place) _ (opens built built _)
      (kind_test place (b == 123) (λ most. block_opened most built param None place) (λ _. Err (fault.R4 place)) (opens built _ phase.Between) wrong)
  bracket_kind built param (slot.Entry open_list) =
      kind_test place (b == 93) (λ _. list_ended built param open_list) (λ _. Err (fault.R4 place)) (goes _) wrong
  bracket_kind built param (slot.Pair open_list key) = wrong

  start_kind : (built : Built) (param : Param) (spot : Slot) → Kind place (λ most. start_at most built param spot place b)
  start_kind built param spot =
      kind_test place (is_word_byte b) (λ _. in_phase built (phase.Word param spot (b ∷ []))) _ (goes _)
      (kind_test place (b == 34) (λ _. in_phase built (phase.Quoted param spot place [] utf.Whole)) (λ most. bracket_at most built param spot place b) (goes _)
      (bracket_kind built param spot))

  comma_kind : (built : Built) (param : Param) (open_list : OpenList) → Kind place (λ most. comma_at built param open_list place b)
  comma_kind built param open_list =
      kind_test place (b == 44) (λ _. in_phase built (phase.Start param (slot.Entry open_list))) _ (goes _)
      (kind_test place (b == 93) (λ _. list_ended built param open_list) (λ _. Err (fault.R4 place)) (goes _) wrong)

  behind_kind : (built : Built) (param : Param) (spot : Slot) (text : List ℕ) → Kind place (λ most. behind_at most built param spot text place b)
  behind_kind built param slot.Value text =
      kind_test place (b == 123 && is_title text) (λ most. block_opened most built param (Some text) place) (λ _. between_at (with_plain built param (word text)) place b)
      (opens built _ phase.Between) (between_kind (with_plain built param (word text)))
  behind_kind built param (slot.Entry open_list) text =
      kind_test place (b == 58 && is_key text) (λ _. in_phase built (phase.Start param (slot.Pair open_list text))) (λ _. comma_at built param (with_entry open_list (entry.word text)) place b)
      (goes _) (comma_kind built param (with_entry open_list (entry.word text)))
  behind_kind built param (slot.Pair open_list key) text = comma_kind built param (with_entry open_list (entry.pair key text))

  piece_kind : (built : Built) (now : Phase) → Kind place (λ most. piece_at most built now place b)
  piece_kind built phase.Between = between_kind built
  piece_kind built (phase.Colon param) = colon_kind built param
  piece_kind built (phase.Start param spot) = start_kind built param spot
  piece_kind built (phase.Behind param spot text) = behind_kind built param spot text
  piece_kind built (phase.Comma param open_list) = comma_kind built param open_list
  piece_kind built (phase.Name name start) = wrong
  piece_kind built (phase.Word param spot text) = wrong
  piece_kind built (phase.Quoted param spot quote text utf8) = wrong
  piece_kind built (phase.Escape param spot quote text) = wrong
  piece_kind built (phase.Code param raw utf8) = wrong
  piece_kind built (phase.Semicolon param raw) = wrong

  gap_kind : (built : Built) (now : Phase) → Kind place (λ most. gap_at most built now place b)
  gap_kind built now =
      kind_test place (is_space b) (λ _. in_phase built now) _ (goes _)
      (kind_test place (b == 35) (λ _. Ok (record { builder = built; phase = now; comment = true })) (λ most. piece_at most built now place b) (goes _) (piece_kind built now))

  next_kind : (built : Built) (next : Option Utf8) (now : Utf8 → Phase) → Kind place (λ most. goes_to built next now place)
  next_kind built None now = wrong
  next_kind built (Some v) now = goes _

  string_kind : (built : Built) (param : Param) (spot : Slot) (text : List ℕ) → Kind place (λ most. string_ended built param spot text)
  string_kind built param slot.Value text = goes _
  string_kind built param (slot.Entry open_list) text = goes _
  string_kind built param (slot.Pair open_list key) text = goes _

  step_at_kind : (built : Built) (now : Phase) → Kind place (λ most. step_at most built now place b)
  step_at_kind built (phase.Name name start) =
      kind_test place (is_name_byte b) (λ _. in_phase built (phase.Name (name ++ b ∷ []) start)) (λ most. gap_at most built (phase.Colon (record { name = name; place = start })) place b)
      (goes _) (gap_kind built (phase.Colon (record { name = name; place = start })))
  step_at_kind built (phase.Word param spot text) =
      kind_test place (is_word_byte b) (λ _. in_phase built (phase.Word param spot (text ++ b ∷ []))) (λ most. gap_at most built (phase.Behind param spot text) place b)
      (goes _) (gap_kind built (phase.Behind param spot text))
  step_at_kind built (phase.Quoted param spot quote text utf8) =
      kind_test place (is_whole utf8 && b == 34) (λ _. string_ended built param spot text) _ (string_kind built param spot text)
      (kind_test place (is_whole utf8 && b == 92) (λ _. in_phase built (phase.Escape param spot quote text))
      (λ _. goes_to built (utf8_after utf8 b) (λ next. phase.Quoted param spot quote (text ++ b ∷ []) next) place) (goes _)
      (next_kind built (utf8_after utf8 b) (λ next. phase.Quoted param spot quote (text ++ b ∷ []) next)))
  step_at_kind built (phase.Escape param spot quote text) =
      next_kind built (utf8_after utf.Whole b) (λ next. phase.Quoted param spot quote (text ++ unescaped b) next)
  step_at_kind built (phase.Code param raw utf8) =
      kind_test place (is_whole utf8 && b == 59) (λ _. in_phase built (phase.Semicolon param raw))
      (λ _. goes_to built (utf8_after utf8 b) (λ next. phase.Code param (raw ++ b ∷ []) next) place) (goes _)
      (next_kind built (utf8_after utf8 b) (λ next. phase.Code param (raw ++ b ∷ []) next))
  step_at_kind built (phase.Semicolon param raw) =
      kind_test place (b == 59) (λ _. in_phase (with_plain built param (code (trimmed raw))) phase.Between) (λ _. goes_to built (utf8_after utf.Whole b) (λ next. phase.Code param (raw ++ 59 ∷ b ∷ []) next) place)
      (goes _) (next_kind built (utf8_after utf.Whole b) (λ next. phase.Code param (raw ++ 59 ∷ b ∷ []) next))
  step_at_kind built phase.Between = gap_kind built phase.Between
  step_at_kind built (phase.Colon param) = gap_kind built (phase.Colon param)
  step_at_kind built (phase.Start param spot) = gap_kind built (phase.Start param spot)
  step_at_kind built (phase.Behind param spot text) = gap_kind built (phase.Behind param spot text)
  step_at_kind built (phase.Comma param open_list) = gap_kind built (phase.Comma param open_list)

  pub step_kind : (built : Built) (now : Phase) (comment : Bool) → Kind place (λ most. step most (record { builder = built; phase = now; comment = comment }) place b)
  step_kind built now true = goes _
  step_kind built now false = step_at_kind built now
