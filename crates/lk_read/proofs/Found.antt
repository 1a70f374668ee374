-- What is read is spelled so.
use Rattle.std.proofs.Common.{◌≡◌, ℕ, nat_lt, Bool, true, false, not, ◌&&◌, ◌==◌, ◌+◌, ◌<◌, List, [], ◌∷◌, ◌++◌, inl, inr, Option, Some, None, length, Result, Ok, Err, refl, sym, ap, ◌∙◌, subst, arith, append_assoc}
use Rattle.std.proofs.lemmas.Bool.{eqb-true, ltb-true}
use Rattle.std.proofs.lemmas.List.{append-nil}
use Rattle.lk_read.specs.Entry.{Entry}
use Rattle.lk_read.specs.Entry as entry
use Rattle.lk_read.specs.declared.read_fault.ReadFault.{ReadFault}
use Rattle.lk_read.specs.declared.phase.Param.{Param}
use Rattle.lk_read.specs.declared.phase.OpenList.{OpenList}
use Rattle.lk_read.specs.declared.phase.Slot.{Slot}
use Rattle.lk_read.specs.declared.phase.Slot.TheVariants as slot
use Rattle.lk_read.specs.declared.phase.Phase.{Phase}
use Rattle.lk_read.specs.declared.phase.Phase.TheVariants as phase
use Rattle.lk_read.specs.declared.reader.Reader.{Reader}
use Rattle.lk_utf8.specs.declared.utf8.Utf8.{Utf8}
use Rattle.lk_utf8.specs.declared.utf8.Utf8.TheVariants as utf
use Rattle.lk_read.specs.Outline.{Plain, word, quoted, list, code}
use Rattle.lk_read.specs.Lines.{Line, plain, block, closing}
use Rattle.lk_read.specs.Built.{Built, first_of, closed_of}
use Rattle.lk_read.specs.Bytes.{is_space, is_name_byte, is_word_byte, is_title, is_key, is_code_name}
use Rattle.lk_utf8.specs.Utf8.{completes, utf8_after, is_whole}
use Rattle.lk_read.specs.Grammar.{IsGap, IsComment, IsRun, IsQuoted, trimmed, IsValue, IsContent, IsNamed, IsLine, AreLines, SpellsLines, unescaped}
use Rattle.lk_read.specs.Reading.{Step, read_lines, read_from, then_read, start_of_file, whole, missing, word_end, start_end, end_at, with_entry, with_plain, closed_to, between_at, colon_at, behind_colon, block_opened, bracket_at, start_at, comma_at, behind_at, piece_at, gap_at, string_ended, quoted_at, escape_at, code_at, semicolon_at, name_at, word_at, step_at, step}
use Rattle.lk_read.proofs.Rests.{Emits, AtStart, AtBehind, BehindString, BehindColon, At, AtGap, RestOf, BehindComment, AllLines, IsRest}
use Rattle.lk_utf8.proofs.CompletionLaws.{whole_is, completes_more, apart}
use Rattle.lk_read.proofs.Steps.{by_test, Back, back_by, both, headed, by_next, no_quote, no_backslash, no_semicolon, neither, completes_unescaped}

-- ---- lines

from_emits : (most size depth : ℕ) (line : Line) (text rest : List ℕ) (more : List Line) → IsLine most size depth text line rest → Emits most size depth line rest more → AreLines most size depth text more
from_emits most size depth line text rest more l e = subst (AreLines most size depth text) (sym e.1) (rest, e.2, l, e.3, e.4)

line_of : (most size depth : ℕ) (param : Param) (text content : List ℕ) (more : List Line) → IsNamed size text param.name param.place content → BehindColon most size depth param content more → AreLines most size depth text more
line_of most size depth param text content more named (inl w) =
    from_emits most size depth (plain param.name param.place w.0) text w.1 more (content, named, w.2) w.3
line_of most size depth param text content more named (inr w) =
    from_emits most size depth (block param.name param.place w.0) text w.2 more (w.3, content, w.1, named, w.4, w.5, w.6) w.7

-- the lines so far with one more, and those that follow it
regroup : (so_far more : List Line) (line : Line) (all : List Line) → all ≡ (so_far ++ line ∷ []) ++ more → all ≡ so_far ++ line ∷ more
regroup so_far more line all e = e ∙ append_assoc so_far (line ∷ []) more

module _ (most size : ℕ) (t : List ℕ) (all : List Line) where
  abbrev Rest : Reader → Type 0
  Rest next = IsRest most size next t all

  -- what finishes the text from the byte b on, where the phase wants it behind the white space
  abbrev From : Built → Phase → ℕ → Type 0
  From built now b = AllLines built (λ depth more. At most size depth now (b ∷ t) more) all

  named_line : (lines : List Line) (braces : List ℕ) (place b : ℕ) → place + length (b ∷ t) ≡ size → is_name_byte b ≡ true → Rest (record { builder = record { lines = lines; open_braces = braces }; phase = phase.Name (b ∷ []) place; comment = false }) → From (record { lines = lines; open_braces = braces }) phase.Between b
  named_line lines braces place b at h w =
      let rest = w.2 in (
        w.0,
        w.1,
        line_of most size (length braces) (record { name = b ∷ rest.0; place = place }) (b ∷ t) rest.3.2.0 w.0
            (rest.1, at, (h, rest.0, refl, rest.2), subst (IsGap rest.1) rest.3.2.1 rest.3.1) rest.3.2.2,
      )

  closed_back : (lines : List Line) (braces : List ℕ) (place b : ℕ) → (b == 125) ≡ true → Back Rest (From (record { lines = lines; open_braces = braces }) phase.Between b) (closed_to (closed_of (record { lines = lines; open_braces = braces }) braces) place)
  closed_back lines [] place b h = tt
  closed_back lines (brace ∷ outer) place b h = λ w.
      (closing ∷ w.0, regroup lines w.0 closing all w.1, (t, w.2.0, (omega arith, headed b 125 t h), w.2.1, w.2.2))

  between_back : (built : Built) (place b : ℕ) → place + length (b ∷ t) ≡ size → Back Rest (From built phase.Between b) (between_at built place b)
  between_back built place b at =
      by_test (Back Rest (From built phase.Between b)) (is_name_byte b) _ _
      (λ h. named_line built.lines built.open_braces place b at h)
      (λ _. by_test (Back Rest (From built phase.Between b)) (b == 125) _ _
      (λ h. closed_back built.lines built.open_braces place b h)
      (λ _. tt))

  -- ---- the colon

  content_of : (depth : ℕ) (name text start rest : List ℕ) (value : Plain) → is_code_name name ≡ false → IsGap text start → IsValue most depth start value rest → IsContent most depth name text value rest
  content_of depth name text start rest (word w) h gap v = (h, start, gap, v)
  content_of depth name text start rest (quoted q) h gap v = (h, start, gap, v)
  content_of depth name text start rest (list es) h gap v = (h, start, gap, v)
  content_of depth name text start rest (code c) h gap v = absurd v

  colon_next : (built : Built) (param : Param) (c : Bool) → is_code_name param.name ≡ c → Rest (record { builder = built; phase = behind_colon param c; comment = false }) → AllLines built (λ depth more. BehindColon most size depth param t more) all
  colon_next built param true h w =
      (w.0, w.1, inl (code (trimmed w.2.0), w.2.1, (h, w.2.0, w.2.2, w.2.3, refl), w.2.4))
  colon_next built param false h w =
      (w.0, w.1, by_value w.2.2)
    where
      by_value : AtStart most size (length built.open_braces) param slot.Value w.2.0 w.0 → BehindColon most size (length built.open_braces) param t w.0
      by_value (inl v) = inl (v.0, v.1, content_of (length built.open_braces) param.name t w.2.0 v.1 v.0 h w.2.1 v.2, v.3)
      by_value (inr o) = inr (o.0, w.2.0, o.1, o.2, h, w.2.1, o.3, o.4)

  colon_back : (built : Built) (param : Param) (place b : ℕ) → Back Rest (From built (phase.Colon param) b) (colon_at built param place b)
  colon_back built param place b =
      by_test (Back Rest (From built (phase.Colon param) b)) (b == 58) _ _
      (λ h w. let r = colon_next built param (is_code_name param.name) refl w in (r.0, r.1, (t, headed b 58 t h, r.2)))
      (λ _. tt)

  -- ---- lists

  -- a list that has one entry more before the others
  listed : (depth : ℕ) (param : Param) (open_list : OpenList) (e : Entry) (es : List Entry) (rest : List ℕ) (more : List Line) → Emits most size depth (plain param.name param.place (list ((open_list.entries ++ e ∷ []) ++ es))) rest more → Emits most size depth (plain param.name param.place (list (open_list.entries ++ e ∷ es))) rest more
  listed depth param open_list e es rest more h =
      subst (λ x. Emits most size depth (plain param.name param.place (list x)) rest more) (append_assoc open_list.entries (e ∷ []) es) h

  list_ends : (built : Built) (param : Param) (open_list : OpenList) → Rest (record { builder = with_plain built param (list open_list.entries); phase = phase.Between; comment = false }) → AllLines built (λ depth more. Emits most size depth (plain param.name param.place (list (open_list.entries ++ []))) t more) all
  list_ends built param open_list w =
      let line = plain param.name param.place (list open_list.entries) in (
        line ∷ w.0,
        regroup built.lines w.0 line all w.1,
        (w.0, ap (λ x. plain param.name param.place (list x) ∷ w.0) (sym (append-nil open_list.entries)), w.2.0, w.2.1, w.2.2),
      )

  comma_back : (built : Built) (param : Param) (open_list : OpenList) (place b : ℕ) → Back Rest (From built (phase.Comma param open_list) b) (comma_at built param open_list place b)
  comma_back built param open_list place b =
      by_test (Back Rest (From built (phase.Comma param open_list) b)) (b == 44) _ _
      (λ h w. (w.0, w.1, (w.2.2.0, w.2.2.1, inr (t, w.2.0, headed b 44 t h, w.2.1, w.2.2.2), w.2.2.3)))
      (λ _. by_test (Back Rest (From built (phase.Comma param open_list) b)) (b == 93) _ _
      (λ h w. let r = list_ends built param open_list w in (r.0, r.1, ([], t, inl (refl, headed b 93 t h), r.2)))
      (λ _. tt))

  -- ---- where a value or an entry begins

  word_start : (depth b : ℕ) (param : Param) (spot : Slot) (run rest start : List ℕ) (more : List Line) → is_word_byte b ≡ true → IsRun is_word_byte t run rest → IsGap rest start → AtBehind most size depth param spot (b ∷ run) start more → AtStart most size depth param spot (b ∷ t) more
  word_start depth b param slot.Value run rest start more h r gap (inl v) =
      inl (word (b ∷ run), rest, (h, run, refl, r), (v.0, v.1, start, gap, v.2))
  word_start depth b param slot.Value run rest start more h r gap (inr v) =
      inr (Some (b ∷ run), v.0, v.1, (rest, (h, run, refl, r), v.2, subst (IsGap rest) v.3 gap), v.4)
  word_start depth b param (slot.Entry open_list) run rest start more h r gap (inl v) =
      (entry.word (b ∷ run) ∷ v.0, v.1, (rest, start, (h, run, refl, r), gap, v.2), listed depth param open_list (entry.word (b ∷ run)) v.0 v.1 more v.3)
  word_start depth b param (slot.Entry open_list) run rest start more h r gap (inr v) =
      let e = entry.pair (b ∷ run) v.2 in
      let next = v.8 in (
        e ∷ next.2.0,
        next.2.1,
        (v.3, next.0, (rest, v.0, v.1, (h, run, refl, r), v.4, subst (IsGap rest) v.5 gap, v.6, v.7), next.1, next.2.2),
        listed depth param open_list e next.2.0 next.2.1 more next.2.3,
      )
  word_start depth b param (slot.Pair open_list key) run rest start more h r gap v =
      (b ∷ run, rest, inl (h, run, refl, r), (start, gap, v))

  string_start : (depth b : ℕ) (param : Param) (spot : Slot) (string rest : List ℕ) (more : List Line) → (b == 34) ≡ true → IsQuoted t string rest → completes utf.Whole string ≡ true → BehindString most size depth param spot string rest more → AtStart most size depth param spot (b ∷ t) more
  string_start depth b param slot.Value string rest more h q u v = inl (quoted string, rest, (t, headed b 34 t h, q, u), v)
  string_start depth b param (slot.Entry open_list) string rest more h q u v = (
    entry.quoted string ∷ v.2.0,
    v.2.1,
    (rest, v.0, (t, headed b 34 t h, q, u), v.1, v.2.2),
    listed depth param open_list (entry.quoted string) v.2.0 v.2.1 more v.2.3,
  )
  string_start depth b param (slot.Pair open_list key) string rest more h q u v = (string, rest, inr (t, headed b 34 t h, q, u), v)

  block_back : (built : Built) (param : Param) (title : Option (List ℕ)) (Goal : Type 0) (place : ℕ)
      → (length built.open_braces < most → AllLines built (λ depth more. Emits most size depth (block param.name param.place title) t more) all → Goal)
      → Back Rest Goal (block_opened most built param title place)
  block_back built param title Goal place f =
      by_test (Back Rest Goal) (nat_lt (length built.open_braces) most) _ _
      (λ h w. let line = block param.name param.place title in
      f (ltb-true (length built.open_braces) most h) (line ∷ w.0, regroup built.lines w.0 line all w.1, (w.0, refl, w.2.0, w.2.1, w.2.2)))
      (λ _. tt)

  bracket_back : (built : Built) (param : Param) (spot : Slot) (place b : ℕ) → Back Rest (From built (phase.Start param spot) b) (bracket_at most built param spot place b)
  bracket_back built param slot.Value place b =
      by_test (Back Rest (From built (phase.Start param slot.Value) b)) (b == 91) _ _
      (λ h. by_test (Back Rest (From built (phase.Start param slot.Value) b)) (nat_lt (length built.open_braces) most) _ _
      (λ few w. (w.0, w.1, inl (list w.2.2.0, w.2.2.1, (ltb-true (length built.open_braces) most few, t, w.2.0, headed b 91 t h, w.2.1, w.2.2.2), w.2.2.3)))
      (λ _. tt))
      (λ _. by_test (Back Rest (From built (phase.Start param slot.Value) b)) (b == 123) _ _
      (λ h. block_back built param None (From built (phase.Start param slot.Value) b) place
      (λ few r. (r.0, r.1, inr (None, t, few, headed b 123 t h, r.2))))
      (λ _. tt))
  bracket_back built param (slot.Entry open_list) place b =
      by_test (Back Rest (From built (phase.Start param (slot.Entry open_list)) b)) (b == 93) _ _
      (λ h w. let r = list_ends built param open_list w in (r.0, r.1, ([], t, headed b 93 t h, r.2)))
      (λ _. tt)
  bracket_back built param (slot.Pair open_list key) place b = tt

  start_back : (built : Built) (param : Param) (spot : Slot) (place b : ℕ) → Back Rest (From built (phase.Start param spot) b) (start_at most built param spot place b)
  start_back built param spot place b =
      by_test (Back Rest (From built (phase.Start param spot) b)) (is_word_byte b) _ _
      (λ h w. (w.0, w.1, word_start (length built.open_braces) b param spot w.2.0 w.2.1 w.2.3.0 w.0 h w.2.2 w.2.3.1 w.2.3.2))
      (λ _. by_test (Back Rest (From built (phase.Start param spot) b)) (b == 34) _ _
      (λ h w. (w.0, w.1, string_start (length built.open_braces) b param spot w.2.0 w.2.1 w.0 h w.2.2 w.2.3 w.2.4))
      (λ _. bracket_back built param spot place b))

  -- ---- behind a word

  behind_back : (built : Built) (param : Param) (spot : Slot) (text : List ℕ) (place b : ℕ) → place + length (b ∷ t) ≡ size → Back Rest (From built (phase.Behind param spot text) b) (behind_at most built param spot text place b)
  behind_back built param slot.Value text place b at =
      by_test (Back Rest (From built (phase.Behind param slot.Value text) b)) (b == 123 && is_title text) _ _
      (λ h. let parts = both (b == 123) (is_title text) h in
      block_back built param (Some text) (From built (phase.Behind param slot.Value text) b) place
      (λ few r. (r.0, r.1, inr (t, few, parts.1, headed b 123 t parts.0, r.2))))
      (λ _. let line = plain param.name param.place (word text) in
      back_by Rest (between_at (with_plain built param (word text)) place b)
      (λ w. (line ∷ w.0, regroup built.lines w.0 line all w.1, inl (w.0, refl, w.2)))
      (between_back (with_plain built param (word text)) place b at))
  behind_back built param (slot.Entry open_list) text place b at =
      by_test (Back Rest (From built (phase.Behind param (slot.Entry open_list) text) b)) (b == 58 && is_key text) _ _
      (λ h w. let parts = both (b == 58) (is_key text) h in
      (w.0, w.1, inr (t, w.2.0, w.2.2.0, w.2.2.1, parts.1, headed b 58 t parts.0, w.2.1, w.2.2.2, w.2.2.3)))
      (λ _. back_by Rest (comma_at built param (with_entry open_list (entry.word text)) place b)
      (λ w. (w.0, w.1, inl w.2))
      (comma_back built param (with_entry open_list (entry.word text)) place b))
  behind_back built param (slot.Pair open_list key) text place b at =
      comma_back built param (with_entry open_list (entry.pair key text)) place b

  -- ---- white space and comments

  comment_gap : (depth : ℕ) (now : Phase) (more : List Line) → ((text : List ℕ) → RestOf most size depth now text more → AtGap most size depth now text more) → (text : List ℕ) → BehindComment (λ x. RestOf most size depth now x more) text → (start : List ℕ) × IsComment text start × At most size depth now start more
  comment_gap depth now more gap [] r = gap [] r
  comment_gap depth now more gap (b ∷ text) (inl r) = let g = gap text r.1 in (g.0, inl (r.0, g.1), g.2)
  comment_gap depth now more gap (b ∷ text) (inr r) = let g = comment_gap depth now more gap text r.1 in (g.0, inr (r.0, g.1), g.2)

  abbrev FromGap : Built → Phase → ℕ → Type 0
  FromGap built now b = AllLines built (λ depth more. AtGap most size depth now (b ∷ t) more) all

  gap_back : (built : Built) (now : Phase) (place b : ℕ) → ((depth : ℕ) (text : List ℕ) (more : List Line) → RestOf most size depth now text more → AtGap most size depth now text more) → Back Rest (From built now b) (piece_at most built now place b) → Back Rest (FromGap built now b) (gap_at most built now place b)
  gap_back built now place b gap piece =
      by_test (Back Rest (FromGap built now b)) (is_space b) _ _
      (λ h w. let g = gap (length built.open_braces) t w.0 w.2 in (w.0, w.1, (g.0, inr (inl (h, g.1)), g.2)))
      (λ _. by_test (Back Rest (FromGap built now b)) (b == 35) _ _
      (λ h w. let g = comment_gap (length built.open_braces) now w.0 (λ x. gap (length built.open_braces) x w.0) t w.2 in
      (w.0, w.1, (g.0, inr (inr (eqb-true b 35 h, g.1)), g.2)))
      (λ _. back_by Rest (piece_at most built now place b) (λ w. (w.0, w.1, (b ∷ t, inl refl, w.2))) piece))

  -- ---- names and words

  name_back : (built : Built) (name : List ℕ) (start place b : ℕ) → Back Rest (AllLines built (λ depth more. RestOf most size depth (phase.Name name start) (b ∷ t) more) all) (name_at most built name start place b)
  name_back built name start place b =
      by_test (Back Rest (AllLines built (λ depth more. RestOf most size depth (phase.Name name start) (b ∷ t) more) all)) (is_name_byte b) _ _
      (λ h w. (
        w.0,
        w.1,
        (
          b ∷ w.2.0,
          w.2.1,
          inl (h, w.2.0, refl, w.2.2),
          subst (λ x. AtGap most size (length built.open_braces) (phase.Colon (record { name = x; place = start })) w.2.1 w.0) (append_assoc name (b ∷ []) w.2.0) w.2.3,
        ),
      ))
      (λ h. back_by Rest (gap_at most built (phase.Colon (record { name = name; place = start })) place b)
      (λ w. (
        w.0,
        w.1,
        (
          [],
          b ∷ t,
          inr (h, refl, refl),
          subst (λ x. AtGap most size (length built.open_braces) (phase.Colon (record { name = x; place = start })) (b ∷ t) w.0) (sym (append-nil name)) w.2,
        ),
      ))
      (gap_back built (phase.Colon (record { name = name; place = start })) place b (λ _ _ _ r. r) (colon_back built (record { name = name; place = start }) place b)))

  word_back : (built : Built) (param : Param) (spot : Slot) (text : List ℕ) (place b : ℕ) → place + length (b ∷ t) ≡ size → Back Rest (AllLines built (λ depth more. RestOf most size depth (phase.Word param spot text) (b ∷ t) more) all) (word_at most built param spot text place b)
  word_back built param spot text place b at =
      by_test (Back Rest (AllLines built (λ depth more. RestOf most size depth (phase.Word param spot text) (b ∷ t) more) all)) (is_word_byte b) _ _
      (λ h w. (
        w.0,
        w.1,
        (
          b ∷ w.2.0,
          w.2.1,
          inl (h, w.2.0, refl, w.2.2),
          subst (λ x. AtGap most size (length built.open_braces) (phase.Behind param spot x) w.2.1 w.0) (append_assoc text (b ∷ []) w.2.0) w.2.3,
        ),
      ))
      (λ h. back_by Rest (gap_at most built (phase.Behind param spot text) place b)
      (λ w. (
        w.0,
        w.1,
        (
          [],
          b ∷ t,
          inr (h, refl, refl),
          subst (λ x. AtGap most size (length built.open_braces) (phase.Behind param spot x) (b ∷ t) w.0) (sym (append-nil text)) w.2,
        ),
      ))
      (gap_back built (phase.Behind param spot text) place b (λ _ _ _ r. r) (behind_back built param spot text place b at)))

  -- ---- strings

  string_back : (built : Built) (param : Param) (spot : Slot) (text : List ℕ) → Back Rest (AllLines built (λ depth more. BehindString most size depth param spot text t more) all) (string_ended built param spot text)
  string_back built param slot.Value text = λ w.
      let line = plain param.name param.place (quoted text) in
      (line ∷ w.0, regroup built.lines w.0 line all w.1, (w.0, refl, w.2.0, w.2.1, w.2.2))
  string_back built param (slot.Entry open_list) text = λ w. w
  string_back built param (slot.Pair open_list key) text = λ w. w

  abbrev FromQuoted : Built → Param → Slot → ℕ → List ℕ → Utf8 → ℕ → Type 0
  FromQuoted built param spot quote text utf8 b = AllLines built (λ depth more. RestOf most size depth (phase.Quoted param spot quote text utf8) (b ∷ t) more) all

  quoted_back : (built : Built) (param : Param) (spot : Slot) (quote : ℕ) (text : List ℕ) (utf8 : Utf8) (place b : ℕ) → Back Rest (FromQuoted built param spot quote text utf8 b) (quoted_at built param spot quote text utf8 place b)
  quoted_back built param spot quote text utf8 place b =
      by_test (Back Rest (FromQuoted built param spot quote text utf8 b)) (is_whole utf8 && b == 34) _ _
      (λ h. let parts = both (is_whole utf8) (b == 34) h in
      back_by Rest (string_ended built param spot text)
      (λ w. (
        w.0,
        w.1,
        (
          [],
          t,
          inl (eqb-true b 34 parts.1, refl, refl),
          parts.0,
          subst (λ x. BehindString most size (length built.open_braces) param spot x t w.0) (sym (append-nil text)) w.2,
        ),
      ))
      (string_back built param spot text))
      (λ going. by_test (Back Rest (FromQuoted built param spot quote text utf8 b)) (is_whole utf8 && b == 92) _ _
      (λ h w. let parts = both (is_whole utf8) (b == 92) h in (
        w.0,
        w.1,
        (
          w.2.0,
          w.2.1,
          inr (inl (eqb-true b 92 parts.1, w.2.2)),
          subst (λ u. completes u w.2.0 ≡ true) (sym (whole_is utf8 parts.0)) w.2.3,
          w.2.4,
        ),
      ))
      (λ plain_. by_next (Back Rest (FromQuoted built param spot quote text utf8 b)) built (utf8_after utf8 b) _ place tt
      (λ v e w. (
        w.0,
        w.1,
        (
          b ∷ w.2.0,
          w.2.1,
          inr (inr (neither (b == 34) (b == 92) (apart utf8 v b 34 no_quote going e) (apart utf8 v b 92 no_backslash plain_ e), w.2.0, refl, w.2.2)),
          completes_more utf8 v b w.2.0 e w.2.3,
          subst (λ x. BehindString most size (length built.open_braces) param spot x w.2.1 w.0) (append_assoc text (b ∷ []) w.2.0) w.2.4,
        ),
      ))))

  abbrev FromEscape : Built → Param → Slot → ℕ → List ℕ → ℕ → Type 0
  FromEscape built param spot quote text b = AllLines built (λ depth more. RestOf most size depth (phase.Escape param spot quote text) (b ∷ t) more) all

  escape_back : (built : Built) (param : Param) (spot : Slot) (quote : ℕ) (text : List ℕ) (place b : ℕ) → Back Rest (FromEscape built param spot quote text b) (escape_at built param spot quote text place b)
  escape_back built param spot quote text place b =
      by_next (Back Rest (FromEscape built param spot quote text b)) built (utf8_after utf.Whole b) _ place tt
      (λ v e w. (
        w.0,
        w.1,
        (
          unescaped b ++ w.2.0,
          w.2.1,
          (w.2.0, refl, w.2.2),
          completes_unescaped v b w.2.0 e w.2.3,
          subst (λ x. BehindString most size (length built.open_braces) param spot x w.2.1 w.0) (append_assoc text (unescaped b) w.2.0) w.2.4,
        ),
      ))

  -- ---- code

  abbrev FromCode : Built → Param → List ℕ → Utf8 → ℕ → Type 0
  FromCode built param raw utf8 b = AllLines built (λ depth more. RestOf most size depth (phase.Code param raw utf8) (b ∷ t) more) all

  code_back : (built : Built) (param : Param) (raw : List ℕ) (utf8 : Utf8) (place b : ℕ) → Back Rest (FromCode built param raw utf8 b) (code_at built param raw utf8 place b)
  code_back built param raw utf8 place b =
      by_test (Back Rest (FromCode built param raw utf8 b)) (is_whole utf8 && b == 59) _ _
      (λ h w. let parts = both (is_whole utf8) (b == 59) h in (
        w.0,
        w.1,
        (
          w.2.0,
          w.2.1,
          inl (eqb-true b 59 parts.1, w.2.2),
          subst (λ u. completes u w.2.0 ≡ true) (sym (whole_is utf8 parts.0)) w.2.3,
          w.2.4,
        ),
      ))
      (λ going. by_next (Back Rest (FromCode built param raw utf8 b)) built (utf8_after utf8 b) _ place tt
      (λ v e w. (
        w.0,
        w.1,
        (
          b ∷ w.2.0,
          w.2.1,
          inr (apart utf8 v b 59 no_semicolon going e, w.2.0, refl, w.2.2),
          completes_more utf8 v b w.2.0 e w.2.3,
          subst (λ x. Emits most size (length built.open_braces) (plain param.name param.place (code (trimmed x))) w.2.1 w.0) (append_assoc raw (b ∷ []) w.2.0) w.2.4,
        ),
      )))

  abbrev FromSemicolon : Built → Param → List ℕ → ℕ → Type 0
  FromSemicolon built param raw b = AllLines built (λ depth more. RestOf most size depth (phase.Semicolon param raw) (b ∷ t) more) all

  semicolon_back : (built : Built) (param : Param) (raw : List ℕ) (place b : ℕ) → Back Rest (FromSemicolon built param raw b) (semicolon_at built param raw place b)
  semicolon_back built param raw place b =
      by_test (Back Rest (FromSemicolon built param raw b)) (b == 59) _ _
      (λ h w. let line = plain param.name param.place (code (trimmed raw)) in (
        line ∷ w.0,
        regroup built.lines w.0 line all w.1,
        (
          [],
          t,
          inl (eqb-true b 59 h, refl, refl),
          refl,
          (w.0, ap (λ x. plain param.name param.place (code (trimmed x)) ∷ w.0) (sym (append-nil raw)), w.2.0, w.2.1, w.2.2),
        ),
      ))
      (λ h. by_next (Back Rest (FromSemicolon built param raw b)) built (utf8_after utf.Whole b) _ place tt
      (λ v e w. (
        w.0,
        w.1,
        (
          59 ∷ b ∷ w.2.0,
          w.2.1,
          inr (h, w.2.0, refl, w.2.2),
          completes_more utf.Whole v b w.2.0 e w.2.3,
          subst (λ x. Emits most size (length built.open_braces) (plain param.name param.place (code (trimmed x))) w.2.1 w.0) (append_assoc raw (59 ∷ b ∷ []) w.2.0) w.2.4,
        ),
      )))

  -- ---- steps

  step_at_back : (built : Built) (now : Phase) (place b : ℕ) → place + length (b ∷ t) ≡ size → Back Rest (AllLines built (λ depth more. RestOf most size depth now (b ∷ t) more) all) (step_at most built now place b)
  step_at_back built (phase.Name name start) place b at = name_back built name start place b
  step_at_back built (phase.Word param spot text) place b at = word_back built param spot text place b at
  step_at_back built (phase.Quoted param spot quote text utf8) place b at = quoted_back built param spot quote text utf8 place b
  step_at_back built (phase.Escape param spot quote text) place b at = escape_back built param spot quote text place b
  step_at_back built (phase.Code param raw utf8) place b at = code_back built param raw utf8 place b
  step_at_back built (phase.Semicolon param raw) place b at = semicolon_back built param raw place b
  step_at_back built phase.Between place b at = gap_back built phase.Between place b (λ _ _ _ r. r) (between_back built place b at)
  step_at_back built (phase.Colon param) place b at = gap_back built (phase.Colon param) place b (λ _ _ _ r. r) (colon_back built param place b)
  step_at_back built (phase.Start param spot) place b at = gap_back built (phase.Start param spot) place b (λ _ _ _ r. r) (start_back built param spot place b)
  step_at_back built (phase.Behind param spot text) place b at = gap_back built (phase.Behind param spot text) place b (λ _ _ _ r. r) (behind_back built param spot text place b at)
  step_at_back built (phase.Comma param open_list) place b at = gap_back built (phase.Comma param open_list) place b (λ _ _ _ r. r) (comma_back built param open_list place b)

  comment_back : (built : Built) (now : Phase) (b : ℕ) (c : Bool) → (b == 10) ≡ c → Rest (record { builder = built; phase = now; comment = not c }) → IsRest most size (record { builder = built; phase = now; comment = true }) (b ∷ t) all
  comment_back built now b true h w = (w.0, w.1, inl (eqb-true b 10 h, w.2))
  comment_back built now b false h w = (w.0, w.1, inr (h, w.2))

  step_back : (built : Built) (now : Phase) (comment : Bool) (place b : ℕ) → place + length (b ∷ t) ≡ size → Back Rest (IsRest most size (record { builder = built; phase = now; comment = comment }) (b ∷ t) all) (step most (record { builder = built; phase = now; comment = comment }) place b)
  step_back built now true place b at = comment_back built now b (b == 10) refl
  step_back built now false place b at = step_at_back built now place b at

-- ---- the end of the text

module _ (most size : ℕ) where
  whole_ended : (lines : List Line) (braces : List ℕ) (all : List Line) → whole (record { lines = lines; open_braces = braces }) (first_of braces) ≡ Ok all → (all ≡ lines) × (length braces ≡ 0)
  whole_ended lines [] all h = (cc, refl)
  whole_ended lines (brace ∷ outer) all h = cc

  missing_never : (brace : Option ℕ) (place : ℕ) (all : List Line) → missing brace place ≡ Ok all → ⊥
  missing_never None place all h = cc
  missing_never (Some brace) place all h = cc

  word_ended : (built : Built) (param : Param) (spot : Slot) (text : List ℕ) (all : List Line) → word_end built param spot text ≡ Ok all → AllLines built (λ depth more. AtGap most size depth (phase.Behind param spot text) [] more) all
  word_ended built param slot.Value text all h =
      let w = whole_ended (built.lines ++ plain param.name param.place (word text) ∷ []) built.open_braces all h in
      (plain param.name param.place (word text) ∷ [], w.0, ([], refl, inl ([], refl, (w.1, refl))))
  word_ended built param (slot.Entry open_list) text all h = cc
  word_ended built param (slot.Pair open_list key) text all h = cc

  start_never : (built : Built) (spot : Slot) (place : ℕ) (all : List Line) → start_end built spot place ≡ Ok all → ⊥
  start_never built slot.Value place all h = missing_never (first_of built.open_braces) place all h
  start_never built (slot.Entry open_list) place all h = cc
  start_never built (slot.Pair open_list key) place all h = cc

  ended : (built : Built) (now : Phase) (place : ℕ) (all : List Line) → end_at built now place ≡ Ok all → AllLines built (λ depth more. RestOf most size depth now [] more) all
  ended built phase.Between place all h =
      let w = whole_ended built.lines built.open_braces all h in
      ([], w.0 ∙ sym (append-nil built.lines), ([], refl, (w.1, refl)))
  ended built (phase.Name name start) place all h = absurd (missing_never (first_of built.open_braces) place all h)
  ended built (phase.Colon param) place all h = absurd (missing_never (first_of built.open_braces) place all h)
  ended built (phase.Start param spot) place all h = absurd (start_never built spot place all h)
  ended built (phase.Word param spot text) place all h =
      let w = word_ended built param spot text all h in
      (w.0, w.1, ([], [], (refl, refl), subst (λ x. AtGap most size (length built.open_braces) (phase.Behind param spot x) [] w.0) (sym (append-nil text)) w.2))
  ended built (phase.Behind param spot text) place all h = word_ended built param spot text all h
  ended built (phase.Comma param open_list) place all h = cc
  ended built (phase.Quoted param spot quote text utf8) place all h = cc
  ended built (phase.Escape param spot quote text) place all h = cc
  ended built (phase.Code param raw utf8) place all h = cc
  ended built (phase.Semicolon param raw) place all h = cc

  with_comment : (built : Built) (now : Phase) (comment : Bool) (all : List Line) → AllLines built (λ depth more. RestOf most size depth now [] more) all → IsRest most size (record { builder = built; phase = now; comment = comment }) [] all
  with_comment built now true all h = h
  with_comment built now false all h = h

  goes_back : (s : Step) (text : List ℕ) (all : List Line) (Goal : Type 0) (rest : Reader → Result (List Line) ReadFault) → then_read s rest ≡ Ok all → Back (λ next. IsRest most size next text all) Goal s → ((next : Reader) → rest next ≡ Ok all → IsRest most size next text all) → Goal
  goes_back (Ok next) text all Goal rest h back again = back (again next h)
  goes_back (Err why) text all Goal rest h back again = cc

  found_from : (text : List ℕ) (place : ℕ) (reader : Reader) (all : List Line) → place + length text ≡ size → read_from most place reader text ≡ Ok all → IsRest most size reader text all
  found_from [] place reader all at h = with_comment reader.builder reader.phase reader.comment all (ended reader.builder reader.phase place all h)
  found_from (b ∷ text) place reader all at h =
      goes_back (step most reader place b) text all (IsRest most size reader (b ∷ text) all) (λ next. read_from most (place + 1) next text) h
      (step_back most size text all reader.builder reader.phase reader.comment place b at)
      (λ next again. found_from text (place + 1) next all (omega arith) again)

-- what is read is spelled so
pub found : (most : ℕ) (text : List ℕ) (lines : List Line) → read_lines most text ≡ Ok lines → SpellsLines most text lines
unfolding read_lines
found most text lines h =
    let w = found_from most (length text) text 0 start_of_file lines (omega arith) h in
    (w.2.0, w.2.1, subst (AreLines most (length text) 0 w.2.0) (sym w.1) w.2.2)
