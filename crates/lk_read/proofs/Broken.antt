-- A text that is read to its end and refused there breaks off.
use Rattle.std.proofs.Common.{◌≡◌, ℕ, nat_lt, Bool, true, false, not, ◌&&◌, ◌==◌, ◌+◌, ◌<◌, List, [], ◌∷◌, ◌++◌, inl, inr, Option, Some, None, length, Err, refl, sym, subst, arith, append_assoc}
use Rattle.std.proofs.lemmas.Bool.{eqb-true, eq-eqb, ltb-true}
use Rattle.std.proofs.lemmas.List.{append-nil}
use Rattle.lk_read.specs.Entry.{Entry}
use Rattle.lk_read.specs.Entry as entry
use Rattle.lk_read.specs.declared.read_fault.ReadFault.{ReadFault}
use Rattle.lk_read.specs.declared.read_fault.ReadFault.TheVariants as fault
use Rattle.lk_read.specs.declared.phase.Param.{Param}
use Rattle.lk_read.specs.declared.phase.OpenList.{OpenList}
use Rattle.lk_read.specs.declared.phase.Slot.{Slot}
use Rattle.lk_read.specs.declared.phase.Slot.TheVariants as slot
use Rattle.lk_read.specs.declared.phase.Phase.{Phase}
use Rattle.lk_read.specs.declared.phase.Phase.TheVariants as phase
use Rattle.lk_read.specs.declared.reader.Reader.{Reader}
use Rattle.lk_utf8.specs.declared.utf8.Utf8.{Utf8}
use Rattle.lk_utf8.specs.declared.utf8.Utf8.TheVariants as utf
use Rattle.lk_read.specs.Outline.{Plain, word, quoted, list, code}
use Rattle.lk_read.specs.Lines.{Line, plain, block, closing}
use Rattle.lk_read.specs.Built.{Built, first_of, closed_of}
use Rattle.lk_read.specs.Bytes.{is_space, is_name_byte, is_word_byte, is_title, is_key, is_code_name}
use Rattle.lk_utf8.specs.Utf8.{completes, utf8_after, is_whole}
use Rattle.lk_read.specs.Grammar.{IsGap, IsComment, IsRun, IsWord, IsEntry, IsQuoted, IsEscape, IsCode, IsSemicolon, trimmed, IsValue, IsContent, IsNamed, IsLine, is_escaped, unescaped}
use Rattle.lk_read.specs.BreaksOff.{IsOpenBehind, IsCutLine, IsMissing}
use Rattle.lk_read.specs.Reading.{whole, missing, word_end, start_end, end_at, with_entry, with_plain, closed_to, between_at, colon_at, behind_colon, block_opened, bracket_at, start_at, comma_at, behind_at, piece_at, gap_at, string_ended, quoted_at, escape_at, code_at, semicolon_at, name_at, word_at, step_at, step}
use Rattle.lk_read.proofs.Rests.{BehindComment}
use Rattle.lk_read.proofs.Cuts.{CutLines, After, CutComma, CutPair, CutEntries, CutStart, CutBehind, CutString, CutColon, CutAt, CutGap, CutRest, IsCut}
use Rattle.lk_utf8.proofs.CompletionLaws.{whole_is, completes_more, apart}
use Rattle.lk_read.proofs.Steps.{by_test, Back, back_by, both, headed, by_next, no_quote, no_backslash, no_semicolon, neither, completes_unescaped}

module _ (most size : ℕ) (why : ReadFault) where
  -- ---- lines

  from_line : (braces behind : List ℕ) (line : Line) (text rest : List ℕ) → IsLine most size (length braces) text line rest → IsOpenBehind size braces line rest behind → After most size why behind rest → CutLines most size why braces text
  from_line braces behind line text rest l o (next, gap, (whole_, now, here, passes, cut)) =
      (line ∷ whole_, now, here, (rest, next, behind, l, o, gap, passes), cut)

  this_line : (braces text : List ℕ) → IsCutLine most size braces text why → CutLines most size why braces text
  this_line braces text cut = ([], braces, text, (refl, refl), cut)

  line_of : (braces : List ℕ) (param : Param) (text content : List ℕ) → IsNamed size text param.name param.place content → CutColon most size why braces param content → CutLines most size why braces text
  line_of braces param text content named (inl (value, rest, is, after)) =
      from_line braces braces (plain param.name param.place value) text rest (content, named, is) refl after
  line_of braces param text content named (inr (inl (title, start, rest, brace, few, no_code, gap, opening, at, after))) =
      from_line braces (brace ∷ braces) (block param.name param.place title) text rest (few, content, start, named, no_code, gap, opening) (brace, at, refl) after
  line_of braces param text content named (inr (inr cut)) =
      this_line braces text (inr (inr (param.name, param.place, content, named, cut)))

module _ (most size : ℕ) (why : ReadFault) (t : List ℕ) where
  abbrev Rest : Reader → Type 0
  Rest next = IsCut most size why next t

  abbrev From : Built → Phase → ℕ → Type 0
  From built now b = CutAt most size why built.open_braces now (b ∷ t)

  name_line : (braces : List ℕ) (place b : ℕ) (run rest start : List ℕ) → place + length (b ∷ t) ≡ size → is_name_byte b ≡ true → IsRun is_name_byte t run rest → IsGap rest start → CutAt most size why braces (phase.Colon (record { name = b ∷ run; place = place })) start → CutLines most size why braces (b ∷ t)
  name_line braces place b run rest start at h r gap (inl (content, begins, cut)) =
      line_of most size why braces (record { name = b ∷ run; place = place }) (b ∷ t) content
      (rest, at, (h, run, refl, r), subst (IsGap rest) begins gap) cut
  name_line braces place b run rest start at h r gap (inr (none, cut)) =
      this_line most size why braces (b ∷ t) (inr (inl (b ∷ run, rest, (h, run, refl, r), subst (IsGap rest) none gap, cut)))

  closed_back : (lines : List Line) (braces : List ℕ) (place b : ℕ) → (b == 125) ≡ true → Back Rest (CutLines most size why braces (b ∷ t)) (closed_to (closed_of (record { lines = lines; open_braces = braces }) braces) place)
  closed_back lines [] place b h = tt
  closed_back lines (brace ∷ outer) place b h = λ w.
      from_line most size why (brace ∷ outer) outer closing (b ∷ t) t (omega arith, headed b 125 t h) (brace, refl) w

  between_back : (built : Built) (place b : ℕ) → place + length (b ∷ t) ≡ size → Back Rest (CutLines most size why built.open_braces (b ∷ t)) (between_at built place b)
  between_back built place b at =
      by_test (Back Rest (CutLines most size why built.open_braces (b ∷ t))) (is_name_byte b) _ _
      (λ h w. name_line built.open_braces place b w.0 w.1 w.3.0 at h w.2 w.3.1 w.3.2)
      (λ _. by_test (Back Rest (CutLines most size why built.open_braces (b ∷ t))) (b == 125) _ _
      (λ h. closed_back built.lines built.open_braces place b h)
      (λ _. tt))

  -- ---- the colon

  content_of : (depth : ℕ) (name text start rest : List ℕ) (value : Plain) → is_code_name name ≡ false → IsGap text start → IsValue most depth start value rest → IsContent most depth name text value rest
  content_of depth name text start rest (word w) h gap v = (h, start, gap, v)
  content_of depth name text start rest (quoted q) h gap v = (h, start, gap, v)
  content_of depth name text start rest (list es) h gap v = (h, start, gap, v)
  content_of depth name text start rest (code c) h gap v = absurd v

  colon_next : (built : Built) (param : Param) (c : Bool) → is_code_name param.name ≡ c → Rest (record { builder = built; phase = behind_colon param c; comment = false }) → CutColon most size why built.open_braces param t
  colon_next built param true h (inl (kept, rest, is, done, after)) = inl (code (trimmed kept), rest, (h, kept, is, done, refl), after)
  colon_next built param true h (inr (open_, f)) = inr (inr (inl (h, open_, f)))
  colon_next built param false h (start, gap, inl (value, rest, is, after)) =
      inl (value, rest, content_of (length built.open_braces) param.name t start rest value h gap is, after)
  colon_next built param false h (start, gap, inr (inl (title, rest, brace, few, opening, at, after))) =
      inr (inl (title, start, rest, brace, few, h, gap, opening, at, after))
  colon_next built param false h (start, gap, inr (inr cut)) = inr (inr (inr (h, start, gap, cut)))

  colon_back : (built : Built) (param : Param) (place b : ℕ) → Back Rest (From built (phase.Colon param) b) (colon_at built param place b)
  colon_back built param place b =
      by_test (Back Rest (From built (phase.Colon param) b)) (b == 58) _ _
      (λ h w. inl (t, headed b 58 t h, colon_next built param (is_code_name param.name) refl w))
      (λ _. tt)

  -- ---- lists

  comma_back : (built : Built) (param : Param) (open_list : OpenList) (place b : ℕ) → Back Rest (From built (phase.Comma param open_list) b) (comma_at built param open_list place b)
  comma_back built param open_list place b =
      by_test (Back Rest (From built (phase.Comma param open_list) b)) (b == 44) _ _ behind_comma
      (λ _. by_test (Back Rest (From built (phase.Comma param open_list) b)) (b == 93) _ _
      (λ h w. inl ([], t, inl (refl, headed b 93 t h), w))
      (λ _. tt))
    where
      behind_comma : (b == 44) ≡ true → CutGap most size why built.open_braces (phase.Start param (slot.Entry open_list)) t → CutComma most size why built.open_braces open_list.bracket (b ∷ t)
      behind_comma h (start, gap, inl (es, rest, are, after)) = inl (es, rest, inr (t, start, headed b 44 t h, gap, are), after)
      behind_comma h (start, gap, inr cut) = inr (inr (t, start, headed b 44 t h, gap, cut))

  -- an entry, and what is behind it
  entry_cut : (braces : List ℕ) (bracket b : ℕ) (e : Entry) (behind next : List ℕ) → IsEntry (b ∷ t) e behind → IsGap behind next → CutComma most size why braces bracket next → CutEntries most size why braces bracket (b ∷ t)
  entry_cut braces bracket b e behind next is gap (inl (es, rest, more, after)) = inl (e ∷ es, rest, (behind, next, is, gap, more), after)
  entry_cut braces bracket b e behind next is gap (inr (inl (none, f))) =
      inr ([], b ∷ t, refl, inr (inl (e, behind, is, subst (IsGap behind) none gap, f)))
  entry_cut braces bracket b e behind next is gap (inr (inr (comma, start, begins, gap2, (es, here, passes, cut)))) =
      inr (e ∷ es, here, (behind, next, comma, start, is, gap, begins, gap2, passes), cut)

  -- a pair's name and colon, and what is behind them
  pair_cut : (braces : List ℕ) (bracket b : ℕ) (key rest colon first : List ℕ) → IsWord (b ∷ t) key rest → is_key key ≡ true → IsGap rest (58 ∷ colon) → IsGap colon first → CutPair most size why braces bracket first → CutEntries most size why braces bracket (b ∷ t)
  pair_cut braces bracket b key rest colon first is keyed gap gap2 (inl (scalar, behind, s, (next, gap3, follows))) =
      entry_cut braces bracket b (entry.pair key scalar) behind next (rest, colon, first, is, keyed, gap, gap2, s) gap3 follows
  pair_cut braces bracket b key rest colon first is keyed gap gap2 (inr (inl cut)) =
      inr ([], b ∷ t, refl, inr (inr (inr (key, rest, colon, first, is, keyed, gap, gap2, inl cut))))
  pair_cut braces bracket b key rest colon first is keyed gap gap2 (inr (inr cut)) =
      inr ([], b ∷ t, refl, inr (inr (inr (key, rest, colon, first, is, keyed, gap, gap2, inr cut))))

  -- ---- where a value or an entry begins

  word_start : (braces : List ℕ) (b : ℕ) (spot : Slot) (run rest start : List ℕ) → is_word_byte b ≡ true → IsRun is_word_byte t run rest → IsGap rest start → CutBehind most size why braces spot (b ∷ run) start → CutStart most size why braces spot (b ∷ t)
  word_start braces b slot.Value run rest start h r gap (inl cut) = inl (word (b ∷ run), rest, (h, run, refl, r), (start, gap, cut))
  word_start braces b slot.Value run rest start h r gap (inr (behind, brace, few, titled, begins, at, after)) =
      inr (inl (Some (b ∷ run), behind, brace, few, (rest, (h, run, refl, r), titled, subst (IsGap rest) begins gap), at, after))
  word_start braces b (slot.Entry open_list) run rest start h r gap (inl follows) =
      entry_cut braces open_list.bracket b (entry.word (b ∷ run)) rest start (h, run, refl, r) gap follows
  word_start braces b (slot.Entry open_list) run rest start h r gap (inr (colon, first, keyed, begins, gap2, cut)) =
      pair_cut braces open_list.bracket b (b ∷ run) rest colon first (h, run, refl, r) keyed (subst (IsGap rest) begins gap) gap2 cut
  word_start braces b (slot.Pair open_list key) run rest start h r gap follows =
      inl (b ∷ run, rest, inl (h, run, refl, r), (start, gap, follows))

  open_string : (braces : List ℕ) (b place : ℕ) (spot : Slot) → place + length (b ∷ t) ≡ size → (b == 34) ≡ true → ((string rest : List ℕ) → IsQuoted t string rest → ⊥) → why ≡ fault.R1 place → CutStart most size why braces spot (b ∷ t)
  open_string braces b place slot.Value at h unended f = inr (inr (inr (inl (t, place, headed b 34 t h, at, unended, f))))
  open_string braces b place (slot.Entry open_list) at h unended f = inr ([], b ∷ t, refl, inr (inr (inl (t, place, headed b 34 t h, at, unended, f))))
  open_string braces b place (slot.Pair open_list key) at h unended f = inr (inr (t, place, headed b 34 t h, at, unended, f))

  string_start : (braces : List ℕ) (b : ℕ) (spot : Slot) (string rest : List ℕ) → (b == 34) ≡ true → IsQuoted t string rest → completes utf.Whole string ≡ true → CutString most size why braces spot rest → CutStart most size why braces spot (b ∷ t)
  string_start braces b slot.Value string rest h q u after = inl (quoted string, rest, (t, headed b 34 t h, q, u), after)
  string_start braces b (slot.Entry open_list) string rest h q u (next, gap, follows) =
      entry_cut braces open_list.bracket b (entry.quoted string) rest next (t, headed b 34 t h, q, u) gap follows
  string_start braces b (slot.Pair open_list key) string rest h q u follows = inl (string, rest, inr (t, headed b 34 t h, q, u), follows)

  quote_back : (built : Built) (param : Param) (spot : Slot) (place b : ℕ) → place + length (b ∷ t) ≡ size → (b == 34) ≡ true → CutRest most size why built.open_braces (phase.Quoted param spot place [] utf.Whole) t → CutStart most size why built.open_braces spot (b ∷ t)
  quote_back built param spot place b at h (inl (string, rest, is, done, follows)) = string_start built.open_braces b spot string rest h is done follows
  quote_back built param spot place b at h (inr (unended, f)) = open_string built.open_braces b place spot at h unended f

  block_back : (built : Built) (param : Param) (title : Option (List ℕ)) (Goal : Type 0) (place : ℕ)
      → (length built.open_braces < most → After most size why (place ∷ built.open_braces) t → Goal)
      → Back Rest Goal (block_opened most built param title place)
  block_back built param title Goal place f =
      by_test (Back Rest Goal) (nat_lt (length built.open_braces) most) _ _
      (λ h w. f (ltb-true (length built.open_braces) most h) w)
      (λ _. tt)

  list_back : (built : Built) (param : Param) (place b : ℕ) → place + length (b ∷ t) ≡ size → (b == 91) ≡ true → length built.open_braces < most → CutGap most size why built.open_braces (phase.Start param (slot.Entry (record { bracket = place; entries = [] }))) t → CutStart most size why built.open_braces slot.Value (b ∷ t)
  list_back built param place b at h few (start, gap, inl (es, rest, are, after)) = inl (list es, rest, (few, t, start, headed b 91 t h, gap, are), after)
  list_back built param place b at h few (start, gap, inr cut) = inr (inr (inr (inr (few, (t, start, place, headed b 91 t h, at, gap, cut)))))

  bracket_back : (built : Built) (param : Param) (spot : Slot) (place b : ℕ) → place + length (b ∷ t) ≡ size → Back Rest (From built (phase.Start param spot) b) (bracket_at most built param spot place b)
  bracket_back built param slot.Value place b at =
      by_test (Back Rest (From built (phase.Start param slot.Value) b)) (b == 91) _ _
      (λ h. by_test (Back Rest (From built (phase.Start param slot.Value) b)) (nat_lt (length built.open_braces) most) _ _
      (λ few w. list_back built param place b at h (ltb-true (length built.open_braces) most few) w)
      (λ _. tt))
      (λ _. by_test (Back Rest (From built (phase.Start param slot.Value) b)) (b == 123) _ _
      (λ h. block_back built param None (From built (phase.Start param slot.Value) b) place
      (λ few after. inr (inl (None, t, place, few, headed b 123 t h, at, after))))
      (λ _. tt))
  bracket_back built param (slot.Entry open_list) place b at =
      by_test (Back Rest (From built (phase.Start param (slot.Entry open_list)) b)) (b == 93) _ _
      (λ h w. inl ([], t, headed b 93 t h, w))
      (λ _. tt)
  bracket_back built param (slot.Pair open_list key) place b at = tt

  start_back : (built : Built) (param : Param) (spot : Slot) (place b : ℕ) → place + length (b ∷ t) ≡ size → Back Rest (From built (phase.Start param spot) b) (start_at most built param spot place b)
  start_back built param spot place b at =
      by_test (Back Rest (From built (phase.Start param spot) b)) (is_word_byte b) _ _
      (λ h w. word_start built.open_braces b spot w.0 w.1 w.3.0 h w.2 w.3.1 w.3.2)
      (λ _. by_test (Back Rest (From built (phase.Start param spot) b)) (b == 34) _ _
      (λ h w. quote_back built param spot place b at h w)
      (λ _. bracket_back built param spot place b at))

  -- ---- behind a word

  behind_back : (built : Built) (param : Param) (spot : Slot) (text : List ℕ) (place b : ℕ) → place + length (b ∷ t) ≡ size → Back Rest (From built (phase.Behind param spot text) b) (behind_at most built param spot text place b)
  behind_back built param slot.Value text place b at =
      by_test (Back Rest (From built (phase.Behind param slot.Value text) b)) (b == 123 && is_title text) _ _
      (λ h. let parts = both (b == 123) (is_title text) h in
      block_back built param (Some text) (From built (phase.Behind param slot.Value text) b) place
      (λ few after. inr (t, place, few, parts.1, headed b 123 t parts.0, at, after)))
      (λ _. back_by Rest (between_at (with_plain built param (word text)) place b) (λ w. inl w)
      (between_back (with_plain built param (word text)) place b at))
  behind_back built param (slot.Entry open_list) text place b at =
      by_test (Back Rest (From built (phase.Behind param (slot.Entry open_list) text) b)) (b == 58 && is_key text) _ _
      (λ h w. let parts = both (b == 58) (is_key text) h in inr (t, w.0, parts.1, headed b 58 t parts.0, w.1, w.2))
      (λ _. back_by Rest (comma_at built param (with_entry open_list (entry.word text)) place b) (λ w. inl w)
      (comma_back built param (with_entry open_list (entry.word text)) place b))
  behind_back built param (slot.Pair open_list key) text place b at =
      comma_back built param (with_entry open_list (entry.pair key text)) place b

  -- ---- white space and comments

  comment_gap : (braces : List ℕ) (now : Phase) → ((text : List ℕ) → CutRest most size why braces now text → CutGap most size why braces now text) → (text : List ℕ) → BehindComment (λ x. CutRest most size why braces now x) text → (start : List ℕ) × IsComment text start × CutAt most size why braces now start
  comment_gap braces now gap [] r = gap [] r
  comment_gap braces now gap (b ∷ text) (inl r) = let g = gap text r.1 in (g.0, inl (r.0, g.1), g.2)
  comment_gap braces now gap (b ∷ text) (inr r) = let g = comment_gap braces now gap text r.1 in (g.0, inr (r.0, g.1), g.2)

  abbrev FromGap : Built → Phase → ℕ → Type 0
  FromGap built now b = CutGap most size why built.open_braces now (b ∷ t)

  gap_back : (built : Built) (now : Phase) (place b : ℕ) → ((text : List ℕ) → CutRest most size why built.open_braces now text → CutGap most size why built.open_braces now text) → Back Rest (From built now b) (piece_at most built now place b) → Back Rest (FromGap built now b) (gap_at most built now place b)
  gap_back built now place b gap piece =
      by_test (Back Rest (FromGap built now b)) (is_space b) _ _
      (λ h w. let g = gap t w in (g.0, inr (inl (h, g.1)), g.2))
      (λ _. by_test (Back Rest (FromGap built now b)) (b == 35) _ _
      (λ h w. let g = comment_gap built.open_braces now gap t w in (g.0, inr (inr (eqb-true b 35 h, g.1)), g.2))
      (λ _. back_by Rest (piece_at most built now place b) (λ w. (b ∷ t, inl refl, w)) piece))

  -- ---- names and words

  name_back : (built : Built) (name : List ℕ) (start place b : ℕ) → Back Rest (CutRest most size why built.open_braces (phase.Name name start) (b ∷ t)) (name_at most built name start place b)
  name_back built name start place b =
      by_test (Back Rest (CutRest most size why built.open_braces (phase.Name name start) (b ∷ t))) (is_name_byte b) _ _
      (λ h w. (
        b ∷ w.0,
        w.1,
        inl (h, w.0, refl, w.2),
        subst (λ x. CutGap most size why built.open_braces (phase.Colon (record { name = x; place = start })) w.1) (append_assoc name (b ∷ []) w.0) w.3,
      ))
      (λ h. back_by Rest (gap_at most built (phase.Colon (record { name = name; place = start })) place b)
      (λ w. (
        [],
        b ∷ t,
        inr (h, refl, refl),
        subst (λ x. CutGap most size why built.open_braces (phase.Colon (record { name = x; place = start })) (b ∷ t)) (sym (append-nil name)) w,
      ))
      (gap_back built (phase.Colon (record { name = name; place = start })) place b (λ _ r. r) (colon_back built (record { name = name; place = start }) place b)))

  word_back : (built : Built) (param : Param) (spot : Slot) (text : List ℕ) (place b : ℕ) → place + length (b ∷ t) ≡ size → Back Rest (CutRest most size why built.open_braces (phase.Word param spot text) (b ∷ t)) (word_at most built param spot text place b)
  word_back built param spot text place b at =
      by_test (Back Rest (CutRest most size why built.open_braces (phase.Word param spot text) (b ∷ t))) (is_word_byte b) _ _
      (λ h w. (
        b ∷ w.0,
        w.1,
        inl (h, w.0, refl, w.2),
        subst (λ x. CutGap most size why built.open_braces (phase.Behind param spot x) w.1) (append_assoc text (b ∷ []) w.0) w.3,
      ))
      (λ h. back_by Rest (gap_at most built (phase.Behind param spot text) place b)
      (λ w. (
        [],
        b ∷ t,
        inr (h, refl, refl),
        subst (λ x. CutGap most size why built.open_braces (phase.Behind param spot x) (b ∷ t)) (sym (append-nil text)) w,
      ))
      (gap_back built (phase.Behind param spot text) place b (λ _ r. r) (behind_back built param spot text place b at)))

  -- ---- strings

  string_back : (built : Built) (param : Param) (spot : Slot) (text : List ℕ) → Back Rest (CutString most size why built.open_braces spot t) (string_ended built param spot text)
  string_back built param slot.Value text = λ w. w
  string_back built param (slot.Entry open_list) text = λ w. w
  string_back built param (slot.Pair open_list key) text = λ w. w

  unended_escape : (b : ℕ) → b ≡ 92 → ((string rest : List ℕ) → IsEscape t string rest → ⊥) → (string rest : List ℕ) → IsQuoted (b ∷ t) string rest → ⊥
  unended_escape b is unended string rest (inl (quote, none, same)) = omega arith
  unended_escape b is unended string rest (inr (inl (_, w))) = unended string rest w
  unended_escape b is unended string rest (inr (inr (plain_, more, f, w))) =
      let never : is_escaped 92 ≡ false = subst (λ x. is_escaped x ≡ false) is plain_ in cc

  unended_plain : (b : ℕ) → is_escaped b ≡ false → ((string rest : List ℕ) → IsQuoted t string rest → ⊥) → (string rest : List ℕ) → IsQuoted (b ∷ t) string rest → ⊥
  unended_plain b plain_ unended string rest (inl (is, none, same)) = let never : is_escaped 34 ≡ false = subst (λ x. is_escaped x ≡ false) is plain_ in cc
  unended_plain b plain_ unended string rest (inr (inl (is, w))) = let never : is_escaped 92 ≡ false = subst (λ x. is_escaped x ≡ false) is plain_ in cc
  unended_plain b plain_ unended string rest (inr (inr (_, more, f, w))) = unended more rest w

  abbrev FromQuoted : Built → Param → Slot → ℕ → List ℕ → Utf8 → ℕ → Type 0
  FromQuoted built param spot quote text utf8 b = CutRest most size why built.open_braces (phase.Quoted param spot quote text utf8) (b ∷ t)

  escape_next : (built : Built) (param : Param) (spot : Slot) (quote : ℕ) (text : List ℕ) (utf8 : Utf8) (b : ℕ) → is_whole utf8 ≡ true → (b == 92) ≡ true → CutRest most size why built.open_braces (phase.Escape param spot quote text) t → FromQuoted built param spot quote text utf8 b
  escape_next built param spot quote text utf8 b whole_ h (inl (string, rest, is, done, follows)) =
      inl (string, rest, inr (inl (eqb-true b 92 h, is)), subst (λ u. completes u string ≡ true) (sym (whole_is utf8 whole_)) done, follows)
  escape_next built param spot quote text utf8 b whole_ h (inr (unended, f)) = inr (unended_escape b (eqb-true b 92 h) unended, f)

  plain_next : (built : Built) (param : Param) (spot : Slot) (quote : ℕ) (text : List ℕ) (utf8 v : Utf8) (b : ℕ) → is_escaped b ≡ false → utf8_after utf8 b ≡ Some v → CutRest most size why built.open_braces (phase.Quoted param spot quote (text ++ b ∷ []) v) t → FromQuoted built param spot quote text utf8 b
  plain_next built param spot quote text utf8 v b plain_ e (inl (string, rest, is, done, follows)) =
      inl (b ∷ string, rest, inr (inr (plain_, string, refl, is)), completes_more utf8 v b string e done, follows)
  plain_next built param spot quote text utf8 v b plain_ e (inr (unended, f)) = inr (unended_plain b plain_ unended, f)

  quoted_back : (built : Built) (param : Param) (spot : Slot) (quote : ℕ) (text : List ℕ) (utf8 : Utf8) (place b : ℕ) → Back Rest (FromQuoted built param spot quote text utf8 b) (quoted_at built param spot quote text utf8 place b)
  quoted_back built param spot quote text utf8 place b =
      by_test (Back Rest (FromQuoted built param spot quote text utf8 b)) (is_whole utf8 && b == 34) _ _
      (λ h. let parts = both (is_whole utf8) (b == 34) h in
      back_by Rest (string_ended built param spot text)
      (λ w. inl ([], t, inl (eqb-true b 34 parts.1, refl, refl), parts.0, w))
      (string_back built param spot text))
      (λ going. by_test (Back Rest (FromQuoted built param spot quote text utf8 b)) (is_whole utf8 && b == 92) _ _
      (λ h w. let parts = both (is_whole utf8) (b == 92) h in escape_next built param spot quote text utf8 b parts.0 parts.1 w)
      (λ plain_. by_next (Back Rest (FromQuoted built param spot quote text utf8 b)) built (utf8_after utf8 b) _ place tt
      (λ v e w. plain_next built param spot quote text utf8 v b
      (neither (b == 34) (b == 92) (apart utf8 v b 34 no_quote going e) (apart utf8 v b 92 no_backslash plain_ e)) e w)))

  abbrev FromEscape : Built → Param → Slot → ℕ → List ℕ → ℕ → Type 0
  FromEscape built param spot quote text b = CutRest most size why built.open_braces (phase.Escape param spot quote text) (b ∷ t)

  escaped_next : (built : Built) (param : Param) (spot : Slot) (quote : ℕ) (text : List ℕ) (v : Utf8) (b : ℕ) → utf8_after utf.Whole b ≡ Some v → CutRest most size why built.open_braces (phase.Quoted param spot quote (text ++ unescaped b) v) t → FromEscape built param spot quote text b
  escaped_next built param spot quote text v b e (inl (string, rest, is, done, follows)) =
      inl (unescaped b ++ string, rest, (string, refl, is), completes_unescaped v b string e done, follows)
  escaped_next built param spot quote text v b e (inr (unended, f)) = inr (λ string rest w. unended w.0 rest w.2, f)

  escape_back : (built : Built) (param : Param) (spot : Slot) (quote : ℕ) (text : List ℕ) (place b : ℕ) → Back Rest (FromEscape built param spot quote text b) (escape_at built param spot quote text place b)
  escape_back built param spot quote text place b =
      by_next (Back Rest (FromEscape built param spot quote text b)) built (utf8_after utf.Whole b) _ place tt
      (λ v e w. escaped_next built param spot quote text v b e w)

  -- ---- code

  abbrev FromCode : Built → Param → List ℕ → Utf8 → ℕ → Type 0
  FromCode built param raw utf8 b = CutRest most size why built.open_braces (phase.Code param raw utf8) (b ∷ t)

  abbrev FromSemicolon : Built → Param → List ℕ → ℕ → Type 0
  FromSemicolon built param raw b = CutRest most size why built.open_braces (phase.Semicolon param raw) (b ∷ t)

  unended_code : (b : ℕ) → (b == 59) ≡ false → ((kept rest : List ℕ) → IsCode t kept rest → ⊥) → (kept rest : List ℕ) → IsCode (b ∷ t) kept rest → ⊥
  unended_code b isnt unended kept rest (inl (is, w)) = let never = eq-eqb b 59 is in cc
  unended_code b isnt unended kept rest (inr (_, more, f, w)) = unended more rest w

  unended_semicolon : (b : ℕ) → (b == 59) ≡ true → ((kept rest : List ℕ) → IsSemicolon t kept rest → ⊥) → (kept rest : List ℕ) → IsCode (b ∷ t) kept rest → ⊥
  unended_semicolon b is unended kept rest (inl (_, w)) = unended kept rest w
  unended_semicolon b is unended kept rest (inr (isnt, more, f, w)) = cc

  unended_behind : (b : ℕ) → (b == 59) ≡ false → ((kept rest : List ℕ) → IsCode t kept rest → ⊥) → (kept rest : List ℕ) → IsSemicolon (b ∷ t) kept rest → ⊥
  unended_behind b isnt unended kept rest (inl (is, none, same)) = let never = eq-eqb b 59 is in cc
  unended_behind b isnt unended kept rest (inr (_, more, f, w)) = unended more rest w

  semicolon_next : (built : Built) (param : Param) (raw : List ℕ) (utf8 : Utf8) (b : ℕ) → is_whole utf8 ≡ true → (b == 59) ≡ true → CutRest most size why built.open_braces (phase.Semicolon param raw) t → FromCode built param raw utf8 b
  semicolon_next built param raw utf8 b whole_ h (inl (kept, rest, is, done, after)) =
      inl (kept, rest, inl (eqb-true b 59 h, is), subst (λ u. completes u kept ≡ true) (sym (whole_is utf8 whole_)) done, after)
  semicolon_next built param raw utf8 b whole_ h (inr (unended, f)) = inr (unended_semicolon b h unended, f)

  code_next : (built : Built) (param : Param) (raw : List ℕ) (utf8 v : Utf8) (b : ℕ) → (b == 59) ≡ false → utf8_after utf8 b ≡ Some v → CutRest most size why built.open_braces (phase.Code param (raw ++ b ∷ []) v) t → FromCode built param raw utf8 b
  code_next built param raw utf8 v b isnt e (inl (kept, rest, is, done, after)) =
      inl (b ∷ kept, rest, inr (isnt, kept, refl, is), completes_more utf8 v b kept e done, after)
  code_next built param raw utf8 v b isnt e (inr (unended, f)) = inr (unended_code b isnt unended, f)

  code_back : (built : Built) (param : Param) (raw : List ℕ) (utf8 : Utf8) (place b : ℕ) → Back Rest (FromCode built param raw utf8 b) (code_at built param raw utf8 place b)
  code_back built param raw utf8 place b =
      by_test (Back Rest (FromCode built param raw utf8 b)) (is_whole utf8 && b == 59) _ _
      (λ h w. let parts = both (is_whole utf8) (b == 59) h in semicolon_next built param raw utf8 b parts.0 parts.1 w)
      (λ going. by_next (Back Rest (FromCode built param raw utf8 b)) built (utf8_after utf8 b) _ place tt
      (λ v e w. code_next built param raw utf8 v b (apart utf8 v b 59 no_semicolon going e) e w))

  behind_next : (built : Built) (param : Param) (raw : List ℕ) (v : Utf8) (b : ℕ) → (b == 59) ≡ false → utf8_after utf.Whole b ≡ Some v → CutRest most size why built.open_braces (phase.Code param (raw ++ 59 ∷ b ∷ []) v) t → FromSemicolon built param raw b
  behind_next built param raw v b isnt e (inl (kept, rest, is, done, after)) =
      inl (59 ∷ b ∷ kept, rest, inr (isnt, kept, refl, is), completes_more utf.Whole v b kept e done, after)
  behind_next built param raw v b isnt e (inr (unended, f)) = inr (unended_behind b isnt unended, f)

  semicolon_back : (built : Built) (param : Param) (raw : List ℕ) (place b : ℕ) → Back Rest (FromSemicolon built param raw b) (semicolon_at built param raw place b)
  semicolon_back built param raw place b =
      by_test (Back Rest (FromSemicolon built param raw b)) (b == 59) _ _
      (λ h w. inl ([], t, inl (eqb-true b 59 h, refl, refl), refl, w))
      (λ h. by_next (Back Rest (FromSemicolon built param raw b)) built (utf8_after utf.Whole b) _ place tt
      (λ v e w. behind_next built param raw v b h e w))

  -- ---- steps

  step_at_back : (built : Built) (now : Phase) (place b : ℕ) → place + length (b ∷ t) ≡ size → Back Rest (CutRest most size why built.open_braces now (b ∷ t)) (step_at most built now place b)
  step_at_back built (phase.Name name start) place b at = name_back built name start place b
  step_at_back built (phase.Word param spot text) place b at = word_back built param spot text place b at
  step_at_back built (phase.Quoted param spot quote text utf8) place b at = quoted_back built param spot quote text utf8 place b
  step_at_back built (phase.Escape param spot quote text) place b at = escape_back built param spot quote text place b
  step_at_back built (phase.Code param raw utf8) place b at = code_back built param raw utf8 place b
  step_at_back built (phase.Semicolon param raw) place b at = semicolon_back built param raw place b
  step_at_back built phase.Between place b at = gap_back built phase.Between place b (λ _ r. r) (between_back built place b at)
  step_at_back built (phase.Colon param) place b at = gap_back built (phase.Colon param) place b (λ _ r. r) (colon_back built param place b)
  step_at_back built (phase.Start param spot) place b at = gap_back built (phase.Start param spot) place b (λ _ r. r) (start_back built param spot place b at)
  step_at_back built (phase.Behind param spot text) place b at = gap_back built (phase.Behind param spot text) place b (λ _ r. r) (behind_back built param spot text place b at)
  step_at_back built (phase.Comma param open_list) place b at = gap_back built (phase.Comma param open_list) place b (λ _ r. r) (comma_back built param open_list place b)

  comment_back : (built : Built) (now : Phase) (b : ℕ) (c : Bool) → (b == 10) ≡ c → Rest (record { builder = built; phase = now; comment = not c }) → IsCut most size why (record { builder = built; phase = now; comment = true }) (b ∷ t)
  comment_back built now b true h w = inl (eqb-true b 10 h, w)
  comment_back built now b false h w = inr (h, w)

  pub step_back : (built : Built) (now : Phase) (comment : Bool) (place b : ℕ) → place + length (b ∷ t) ≡ size → Back Rest (IsCut most size why (record { builder = built; phase = now; comment = comment }) (b ∷ t)) (step most (record { builder = built; phase = now; comment = comment }) place b)
  step_back built now true place b at = comment_back built now b (b == 10) refl
  step_back built now false place b at = step_at_back built now place b at

-- ---- the end of the text

module _ (most size : ℕ) (why : ReadFault) where
  missing_end : (braces : List ℕ) (place : ℕ) → place ≡ size → missing (first_of braces) place ≡ Err why → IsMissing size braces why
  missing_end [] place at h = cc
  missing_end (brace ∷ outer) place at h = cc

  whole_end : (lines : List Line) (braces : List ℕ) → whole (record { lines = lines; open_braces = braces }) (first_of braces) ≡ Err why → CutLines most size why braces []
  whole_end lines [] h = cc
  whole_end lines (brace ∷ outer) h = this_line most size why (brace ∷ outer) [] (inl (refl, brace, outer, refl, cc))

  start_ended : (built : Built) (spot : Slot) (place : ℕ) → place ≡ size → start_end built spot place ≡ Err why → CutStart most size why built.open_braces spot []
  start_ended built slot.Value place at h = inr (inr (inl (refl, missing_end built.open_braces place at h)))
  start_ended built (slot.Entry open_list) place at h = inr ([], [], refl, inl (refl, cc))
  start_ended built (slot.Pair open_list key) place at h = inr (inl (refl, cc))

  word_ended : (built : Built) (param : Param) (spot : Slot) (text : List ℕ) → word_end built param spot text ≡ Err why → (other : List ℕ) → CutBehind most size why built.open_braces spot other []
  word_ended built param slot.Value text h other = inl (whole_end (built.lines ++ plain param.name param.place (word text) ∷ []) built.open_braces h)
  word_ended built param (slot.Entry open_list) text h other = inl (inr (inl (refl, cc)))
  word_ended built param (slot.Pair open_list key) text h other = inr (inl (refl, cc))

  pub ended : (built : Built) (now : Phase) (place : ℕ) → place ≡ size → end_at built now place ≡ Err why → CutRest most size why built.open_braces now []
  ended built phase.Between place at h = ([], refl, whole_end built.lines built.open_braces h)
  ended built (phase.Name name start) place at h = ([], [], (refl, refl), ([], refl, inr (refl, missing_end built.open_braces place at h)))
  ended built (phase.Colon param) place at h = ([], refl, inr (refl, missing_end built.open_braces place at h))
  ended built (phase.Start param spot) place at h = ([], refl, start_ended built spot place at h)
  ended built (phase.Word param spot text) place at h = ([], [], (refl, refl), ([], refl, word_ended built param spot text h (text ++ [])))
  ended built (phase.Behind param spot text) place at h = ([], refl, word_ended built param spot text h text)
  ended built (phase.Comma param open_list) place at h = ([], refl, inr (inl (refl, cc)))
  ended built (phase.Quoted param spot quote text utf8) place at h = inr (λ string rest w. w, cc)
  ended built (phase.Escape param spot quote text) place at h = inr (λ string rest w. w, cc)
  ended built (phase.Code param raw utf8) place at h = inr (λ kept rest w. w, cc)
  ended built (phase.Semicolon param raw) place at h = inr (λ kept rest w. w, cc)

  pub with_comment : (built : Built) (now : Phase) (comment : Bool) → CutRest most size why built.open_braces now [] → IsCut most size why (record { builder = built; phase = now; comment = comment }) []
  with_comment built now true h = h
  with_comment built now false h = h
