-- Whatever a front of a text has begun can be finished.
use Rattle.std.proofs.Common.{◌≡◌, ℕ, zero, suc, Bool, true, false, List, [], ◌∷◌, ◌++◌, inl, inr, length, refl, arith}
use Rattle.lk_read.specs.Entry as entry
use Rattle.lk_read.specs.declared.phase.OpenList.{OpenList}
use Rattle.lk_read.specs.declared.phase.Param.{Param}
use Rattle.lk_read.specs.declared.phase.Slot.{Slot}
use Rattle.lk_read.specs.declared.phase.Slot.TheVariants as slot
use Rattle.lk_read.specs.declared.phase.Phase.{Phase}
use Rattle.lk_read.specs.declared.phase.Phase.TheVariants as phase
use Rattle.lk_read.specs.declared.reader.Reader.{Reader}
use Rattle.lk_utf8.specs.declared.utf8.Utf8.{Utf8}
use Rattle.lk_utf8.specs.declared.utf8.Utf8.TheVariants as utf
use Rattle.lk_read.specs.Outline.{Plain, word, quoted, list, code}
use Rattle.lk_read.specs.Lines.{Line, plain, closing}
use Rattle.lk_read.specs.Bytes.{is_name_byte, is_word_byte, is_code_name}
use Rattle.lk_utf8.specs.Utf8.{completes}
use Rattle.lk_read.specs.Grammar.{IsGap, IsRun, IsQuoted, IsCode, trimmed, AreLines}
use Rattle.lk_read.proofs.Rests.{Emits, AtComma, AtGap, BehindString, RestOf, IsRest}

gap_none : (text : List ℕ) → IsGap text text
gap_none [] = refl
gap_none (b ∷ text) = inl refl

-- a brace for each open block
closers : ℕ → List ℕ
closers zero = []
closers (suc depth) = 125 ∷ closers depth

close_lines : ℕ → List Line
close_lines zero = []
close_lines (suc depth) = closing ∷ close_lines depth

-- no word goes on with them
run_ends : (depth : ℕ) → IsRun is_word_byte (closers depth) [] (closers depth)
unfolding closers
run_ends zero = (refl, refl)
run_ends (suc depth) = inr (refl, refl, refl)

module _ (most size : ℕ) where
  closes : (depth : ℕ) → AreLines most size depth (closers depth) (close_lines depth)
  unfolding closers close_lines
  closes zero = (refl, refl)
  closes (suc depth) = (closers depth, closers depth, (omega arith, refl), gap_none (closers depth), closes depth)

  emits : (depth : ℕ) (param : Param) (value : Plain) → Emits most size depth (plain param.name param.place value) (closers depth) (plain param.name param.place value ∷ close_lines depth)
  emits depth param value = (close_lines depth, refl, closers depth, gap_none (closers depth), closes depth)

-- the bytes that a character owes
tail : Utf8 → List ℕ
tail utf.Whole = []
tail utf.One = 128 ∷ []
tail utf.Two = 128 ∷ 128 ∷ []
tail utf.Three = 128 ∷ 128 ∷ 128 ∷ []
tail utf.BehindE0 = 160 ∷ 128 ∷ []
tail utf.BehindEd = 128 ∷ 128 ∷ []
tail utf.BehindF0 = 144 ∷ 128 ∷ 128 ∷ []
tail utf.BehindF4 = 128 ∷ 128 ∷ 128 ∷ []

tail_completes : (u : Utf8) → completes u (tail u) ≡ true
unfolding tail
tail_completes utf.Whole = refl
tail_completes utf.One = refl
tail_completes utf.Two = refl
tail_completes utf.Three = refl
tail_completes utf.BehindE0 = refl
tail_completes utf.BehindEd = refl
tail_completes utf.BehindF0 = refl
tail_completes utf.BehindF4 = refl

-- bytes from 128 on and a quote end a string
quote_after : (bytes rest : List ℕ) → List ℕ
quote_after bytes rest = bytes ++ 34 ∷ rest

tail_quoted : (u : Utf8) (rest : List ℕ) → IsQuoted (tail u ++ 34 ∷ rest) (tail u) rest
unfolding tail
tail_quoted utf.Whole rest = inl (refl, refl, refl)
tail_quoted utf.One rest = inr (inr (refl, _, refl, inl (refl, refl, refl)))
tail_quoted utf.Two rest = inr (inr (refl, _, refl, inr (inr (refl, _, refl, inl (refl, refl, refl)))))
tail_quoted utf.Three rest = inr (inr (refl, _, refl, inr (inr (refl, _, refl, inr (inr (refl, _, refl, inl (refl, refl, refl)))))))
tail_quoted utf.BehindE0 rest = inr (inr (refl, _, refl, inr (inr (refl, _, refl, inl (refl, refl, refl)))))
tail_quoted utf.BehindEd rest = inr (inr (refl, _, refl, inr (inr (refl, _, refl, inl (refl, refl, refl)))))
tail_quoted utf.BehindF0 rest = inr (inr (refl, _, refl, inr (inr (refl, _, refl, inr (inr (refl, _, refl, inl (refl, refl, refl)))))))
tail_quoted utf.BehindF4 rest = inr (inr (refl, _, refl, inr (inr (refl, _, refl, inr (inr (refl, _, refl, inl (refl, refl, refl)))))))

tail_code : (u : Utf8) (rest : List ℕ) → IsCode (tail u ++ 59 ∷ 59 ∷ rest) (tail u) rest
unfolding tail
tail_code utf.Whole rest = inl (refl, inl (refl, refl, refl))
tail_code utf.One rest = inr (refl, _, refl, inl (refl, inl (refl, refl, refl)))
tail_code utf.Two rest = inr (refl, _, refl, inr (refl, _, refl, inl (refl, inl (refl, refl, refl))))
tail_code utf.Three rest = inr (refl, _, refl, inr (refl, _, refl, inr (refl, _, refl, inl (refl, inl (refl, refl, refl)))))
tail_code utf.BehindE0 rest = inr (refl, _, refl, inr (refl, _, refl, inl (refl, inl (refl, refl, refl))))
tail_code utf.BehindEd rest = inr (refl, _, refl, inr (refl, _, refl, inl (refl, inl (refl, refl, refl))))
tail_code utf.BehindF0 rest = inr (refl, _, refl, inr (refl, _, refl, inr (refl, _, refl, inl (refl, inl (refl, refl, refl)))))
tail_code utf.BehindF4 rest = inr (refl, _, refl, inr (refl, _, refl, inr (refl, _, refl, inl (refl, inl (refl, refl, refl)))))

module _ (most depth : ℕ) where
  -- some text and some lines finish it, in a file of any size
  abbrev Finishes : (ℕ → List ℕ → List Line → Type 0) → Type 0
  Finishes Rest = (rest : List ℕ) × (more : List Line) × ((size : ℕ) → Rest size rest more)

  -- the list ends
  comma_alive : (param : Param) (open_list : OpenList) → Finishes (λ size rest more. AtComma most size depth param open_list rest more)
  comma_alive param open_list = (93 ∷ closers depth, _, λ size. ([], closers depth, inl (refl, refl), emits most size depth param (list (open_list.entries ++ []))))

  behind_alive : (param : Param) (spot : Slot) (text : List ℕ) → (rest : List ℕ) × (more : List Line) × IsRun is_word_byte rest [] rest × ((size : ℕ) → AtGap most size depth (phase.Behind param spot text) rest more)
  unfolding comma_alive
  behind_alive param slot.Value text =
      (closers depth, _, run_ends depth, λ size. (closers depth, gap_none (closers depth), inl (close_lines depth, refl, closes most size depth)))
  behind_alive param (slot.Entry open_list) text =
      let c = comma_alive param (record { bracket = open_list.bracket; entries = open_list.entries ++ entry.word text ∷ [] }) in
      (93 ∷ closers depth, c.1, inr (refl, refl, refl), λ size. (93 ∷ closers depth, gap_none (93 ∷ closers depth), inl (c.2 size)))
  behind_alive param (slot.Pair open_list key) text =
      let c = comma_alive param (record { bracket = open_list.bracket; entries = open_list.entries ++ entry.pair key text ∷ [] }) in
      (93 ∷ closers depth, c.1, inr (refl, refl, refl), λ size. (93 ∷ closers depth, gap_none (93 ∷ closers depth), c.2 size))

  string_alive : (param : Param) (spot : Slot) (text : List ℕ) → Finishes (λ size rest more. BehindString most size depth param spot text rest more)
  unfolding comma_alive
  string_alive param slot.Value text = (closers depth, _, λ size. emits most size depth param (quoted text))
  string_alive param (slot.Entry open_list) text =
      let c = comma_alive param (record { bracket = open_list.bracket; entries = open_list.entries ++ entry.quoted text ∷ [] }) in
      (93 ∷ closers depth, c.1, λ size. (93 ∷ closers depth, gap_none (93 ∷ closers depth), c.2 size))
  string_alive param (slot.Pair open_list key) text =
      let c = comma_alive param (record { bracket = open_list.bracket; entries = open_list.entries ++ entry.pair key text ∷ [] }) in
      (93 ∷ closers depth, c.1, λ size. (93 ∷ closers depth, gap_none (93 ∷ closers depth), c.2 size))

  colon_alive : (param : Param) (c : Bool) → is_code_name param.name ≡ c → (rest : List ℕ) × (more : List Line) × IsRun is_name_byte rest [] rest × ((size : ℕ) → AtGap most size depth (phase.Colon param) rest more)
  colon_alive param true h = (
    58 ∷ 59 ∷ 59 ∷ closers depth,
    _,
    inr (refl, refl, refl),
    λ size. (
      58 ∷ 59 ∷ 59 ∷ closers depth,
      inl refl,
      (
        59 ∷ 59 ∷ closers depth,
        refl,
        inl (code [], closers depth, (h, [], inl (refl, inl (refl, refl, refl)), refl, refl), emits most size depth param (code [])),
      ),
    ),
  )
  colon_alive param false h = (
    58 ∷ 120 ∷ closers depth,
    _,
    inr (refl, refl, refl),
    λ size. (
      58 ∷ 120 ∷ closers depth,
      inl refl,
      (
        120 ∷ closers depth,
        refl,
        inl (word (120 ∷ []), closers depth, (h, 120 ∷ closers depth, inl refl, (refl, [], refl, run_ends depth)), emits most size depth param (word (120 ∷ []))),
      ),
    ),
  )

  start_alive : (param : Param) (spot : Slot) → Finishes (λ size rest more. AtGap most size depth (phase.Start param spot) rest more)
  unfolding comma_alive
  start_alive param slot.Value = (
    120 ∷ closers depth,
    _,
    λ size. (
      120 ∷ closers depth,
      inl refl,
      inl (word (120 ∷ []), closers depth, (refl, [], refl, run_ends depth), emits most size depth param (word (120 ∷ []))),
    ),
  )
  start_alive param (slot.Entry open_list) =
      (93 ∷ closers depth, _, λ size. (93 ∷ closers depth, inl refl, ([], closers depth, refl, emits most size depth param (list (open_list.entries ++ [])))))
  start_alive param (slot.Pair open_list key) =
      let c = comma_alive param (record { bracket = open_list.bracket; entries = open_list.entries ++ entry.pair key (120 ∷ []) ∷ [] }) in (
        120 ∷ 93 ∷ closers depth,
        c.1,
        λ size. (
          120 ∷ 93 ∷ closers depth,
          inl refl,
          (120 ∷ [], 93 ∷ closers depth, inl (refl, [], refl, inr (refl, refl, refl)), (93 ∷ closers depth, gap_none (93 ∷ closers depth), c.2 size)),
        ),
      )

  phase_alive : (now : Phase) → Finishes (λ size rest more. RestOf most size depth now rest more)
  phase_alive phase.Between = (closers depth, close_lines depth, λ size. (closers depth, gap_none (closers depth), closes most size depth))
  phase_alive (phase.Name name place) =
      let param : Param = record { name = name ++ []; place = place } in
      let c = colon_alive param (is_code_name (name ++ [])) refl in
      (c.0, c.1, λ size. ([], c.0, c.2, c.3 size))
  phase_alive (phase.Colon param) = let c = colon_alive param (is_code_name param.name) refl in (c.0, c.1, c.3)
  phase_alive (phase.Start param spot) = start_alive param spot
  phase_alive (phase.Word param spot text) =
      let c = behind_alive param spot (text ++ []) in (c.0, c.1, λ size. ([], c.0, c.2, c.3 size))
  phase_alive (phase.Behind param spot text) = let c = behind_alive param spot text in (c.0, c.1, c.3)
  phase_alive (phase.Comma param open_list) =
      let c = comma_alive param open_list in (c.0, c.1, λ size. (c.0, gap_none c.0, c.2 size))
  phase_alive (phase.Quoted param spot quote text utf8) =
      let c = string_alive param spot (text ++ tail utf8) in
      (tail utf8 ++ 34 ∷ c.0, c.1, λ size. (tail utf8, c.0, tail_quoted utf8 c.0, tail_completes utf8, c.2 size))
  phase_alive (phase.Escape param spot quote text) =
      let c = string_alive param spot (text ++ 92 ∷ 120 ∷ []) in
      (120 ∷ 34 ∷ c.0, c.1, λ size. (92 ∷ 120 ∷ [], c.0, ([], refl, inl (refl, refl, refl)), refl, c.2 size))
  phase_alive (phase.Code param raw utf8) = (
    tail utf8 ++ 59 ∷ 59 ∷ closers depth,
    _,
    λ size. (
      tail utf8,
      closers depth,
      tail_code utf8 (closers depth),
      tail_completes utf8,
      emits most size depth param (code (trimmed (raw ++ tail utf8))),
    ),
  )
  phase_alive (phase.Semicolon param raw) =
      (59 ∷ closers depth, _, λ size. ([], closers depth, inl (refl, refl, refl), refl, emits most size depth param (code (trimmed (raw ++ [])))))

-- whatever the reader has begun can be finished, in a file of any size
pub alive : (most : ℕ) (reader : Reader) → (rest : List ℕ) × (all : List Line) × ((size : ℕ) → IsRest most size reader rest all)
alive most reader = by_comment reader.comment
  where
    c : (rest : List ℕ) × (more : List Line) × ((size : ℕ) → RestOf most size (length reader.builder.open_braces) reader.phase rest more)
    c = phase_alive most (length reader.builder.open_braces) reader.phase

    by_comment : (comment : Bool) → (rest : List ℕ) × (all : List Line) × ((size : ℕ) → IsRest most size (record { builder = reader.builder; phase = reader.phase; comment = comment }) rest all)
    by_comment true = (10 ∷ c.0, reader.builder.lines ++ c.1, λ size. (c.1, refl, inl (refl, c.2 size)))
    by_comment false = (c.0, reader.builder.lines ++ c.1, λ size. (c.1, refl, c.2 size))
