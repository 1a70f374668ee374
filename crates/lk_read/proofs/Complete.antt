-- What is spelled so is read.
use Rattle.std.proofs.Common.{◌≡◌, ℕ, nat_lt, pred, Bool, true, false, not, ◌&&◌, ◌==◌, ◌+◌, ◌<◌, List, [], ◌∷◌, ◌++◌, ◌⊎◌, inl, inr, Option, Some, None, length, Result, Ok, Err, refl, sym, ap, ◌∙◌, subst, arith, append_assoc}
use Rattle.std.proofs.lemmas.Bool.{eq-eqb, lt-ltb}
use Rattle.std.proofs.lemmas.List.{append-nil}
use Rattle.lk_read.specs.Entry.{Entry}
use Rattle.lk_read.specs.Entry as entry
use Rattle.lk_read.specs.declared.read_fault.ReadFault.{ReadFault}
use Rattle.lk_read.specs.declared.phase.Param.{Param}
use Rattle.lk_read.specs.declared.phase.OpenList.{OpenList}
use Rattle.lk_read.specs.declared.phase.Slot.{Slot}
use Rattle.lk_read.specs.declared.phase.Slot.TheVariants as slot
use Rattle.lk_read.specs.declared.phase.Phase.{Phase}
use Rattle.lk_read.specs.declared.phase.Phase.TheVariants as phase
use Rattle.lk_read.specs.declared.reader.Reader.{Reader}
use Rattle.lk_utf8.specs.declared.utf8.Utf8.{Utf8}
use Rattle.lk_utf8.specs.declared.utf8.Utf8.TheVariants as utf
use Rattle.lk_read.specs.Outline.{Plain, word, quoted, list, code}
use Rattle.lk_read.specs.Lines.{Line, plain, block, closing}
use Rattle.lk_read.specs.Built.{Built, first_of, with_block, closed_of}
use Rattle.lk_read.specs.Bytes.{is_space, is_name_byte, is_word_byte, is_title, is_key, is_code_name}
use Rattle.lk_utf8.specs.Utf8.{completes, utf8_after, is_whole}
use Rattle.lk_read.specs.Grammar.{IsGap, IsComment, IsQuoted, IsEscape, IsSemicolon, trimmed, IsScalar, IsWord, IsString, IsEntry, AreEntries, IsValue, IsOpening, IsNamed, IsLine, AreLines, SpellsLines, unescaped}
use Rattle.lk_read.specs.Reading.{Step, read_lines, read_from, then_read, start_of_file, whole, word_end, end_at, with_entry, with_plain, closed_to, between_at, colon_at, behind_colon, opened, block_opened, list_ended, bracket_at, start_at, comma_at, behind_at, piece_at, gap_at, string_ended, quoted_at, escape_at, code_at, semicolon_at, name_at, word_at, step_at, step}
use Rattle.lk_read.proofs.Rests.{Emits, AtComma, BehindEntry, AtStart, AtBehind, BehindString, BehindColon, At, AtGap, RestOf, BehindComment, AllLines, IsRest}
use Rattle.lk_utf8.proofs.CompletionLaws.{completes_parts, whole_at, whole_is}
use Rattle.lk_read.proofs.Steps.{On, on_true, on_false, differs, not_both, not_both_right, both_true, either_false, BeginsPiece, word_begins, name_is_word, begins_at, no_semicolon, on_next, unescaped_parts}

pub head_of : (b c : ℕ) (t rest : List ℕ) → b ∷ t ≡ c ∷ rest → b ≡ c
head_of b c t rest e = cc

pub tail_of : (b c : ℕ) (t rest : List ℕ) → b ∷ t ≡ c ∷ rest → rest ≡ t
tail_of b c t rest e = cc

pub same_place : (p place n size : ℕ) → p + n ≡ size → place + n ≡ size → p ≡ place
same_place p place n size h g = omega arith

module _ (most size : ℕ) (t : List ℕ) (all : List Line) where
  abbrev Rest : Reader → Type 0
  Rest next = IsRest most size next t all

  abbrev From : Built → Phase → ℕ → Type 0
  From built now b = AllLines built (λ depth more. At most size depth now (b ∷ t) more) all

  -- what the lines so far, the next line and those behind it are
  regrouped : (so_far more lines : List Line) (line : Line) → all ≡ so_far ++ more → more ≡ line ∷ lines → all ≡ (so_far ++ line ∷ []) ++ lines
  regrouped so_far more lines line e f = e ∙ ap (λ x. so_far ++ x) f ∙ sym (append_assoc so_far (line ∷ []) lines)

  -- ---- where a parameter may begin or a block may end

  closing_on : (lines : List Line) (braces : List ℕ) (place b : ℕ) (more : List Line) → all ≡ lines ++ closing ∷ more → (rest next : List ℕ) → 0 < length braces → b ∷ t ≡ 125 ∷ rest → IsGap rest next → AreLines most size (pred (length braces)) next more → On Rest (closed_to (closed_of (record { lines = lines; open_braces = braces }) braces) place)
  closing_on lines [] place b more e rest next lt begins gap are = absurd (omega arith)
  closing_on lines (brace ∷ outer) place b more e rest next lt begins gap are =
      (more, regrouped lines (closing ∷ more) more closing e refl, (next, subst (λ x. IsGap x next) (tail_of b 125 t rest begins) gap, are))

  named_on : (lines : List Line) (braces : List ℕ) (place b p : ℕ) (name more content : List ℕ) (all_more : List Line) → all ≡ lines ++ all_more → place + length (b ∷ t) ≡ size → (n : IsNamed size (b ∷ t) name p content) → BehindColon most size (length braces) (record { name = name; place = p }) content all_more → On Rest (between_at (record { lines = lines; open_braces = braces }) place b)
  named_on lines braces place b p name more content all_more e at n behind =
      on_true Rest (is_name_byte b) _ _ n.2.0 (
        all_more,
        e,
        (
          n.2.1,
          n.0,
          n.2.3,
          (
            58 ∷ content,
            n.3,
            (
              content,
              refl,
              subst (λ (x : List ℕ × ℕ). BehindColon most size (length braces) (record { name = x.0; place = x.1 }) content all_more)
                  (λ i. (n.2.2 i, same_place p place (length (b ∷ t)) size n.1 at i)) behind,
            ),
          ),
        ),
      )

  between_on : (built : Built) (place b : ℕ) (more : List Line) → place + length (b ∷ t) ≡ size → all ≡ built.lines ++ more → AreLines most size (length built.open_braces) (b ∷ t) more → On Rest (between_at built place b)
  between_on built place b [] at e w = let never = w.1 in cc
  between_on built place b (plain name p value ∷ more) at e w =
      named_on built.lines built.open_braces place b p name [] w.2.0 (plain name p value ∷ more) e at w.2.1
      (inl (value, w.0, w.2.2, (more, refl, w.1, w.3, w.4)))
  between_on built place b (block name p title ∷ more) at e w =
      named_on built.lines built.open_braces place b p name [] w.2.1 (block name p title ∷ more) e at w.2.3
      (inr (title, w.2.2, w.0, w.2.0, w.2.4, w.2.5, w.2.6, (more, refl, w.1, w.3, w.4)))
  between_on built place b (closing ∷ more) at e w =
      let is : b ≡ 125 = head_of b 125 t w.0 w.2.1 in
      on_false Rest (is_name_byte b) _ _ (ap is_name_byte is)
      (on_true Rest (b == 125) _ _ (eq-eqb b 125 is)
      (closing_on built.lines built.open_braces place b more e w.0 w.1 w.2.0 w.2.1 w.3 w.4))

  -- ---- the colon

  colon_next : (built : Built) (param : Param) (c : Bool) (more : List Line) → is_code_name param.name ≡ c → all ≡ built.lines ++ more → BehindColon most size (length built.open_braces) param t more → Rest (record { builder = built; phase = behind_colon param c; comment = false })
  colon_next built param true more h e (inl (code c, rest, v, emits)) =
      (more, e, (v.1, rest, v.2, v.3, subst (λ x. Emits most size (length built.open_braces) (plain param.name param.place (code x)) rest more) v.4 emits))
  colon_next built param true more h e (inl (word c, rest, v, emits)) = let no = v.0 in cc
  colon_next built param true more h e (inl (quoted c, rest, v, emits)) = let no = v.0 in cc
  colon_next built param true more h e (inl (list c, rest, v, emits)) = let no = v.0 in cc
  colon_next built param true more h e (inr w) = let no = w.4 in cc
  colon_next built param false more h e (inl (code c, rest, v, emits)) = let no = v.0 in cc
  colon_next built param false more h e (inl (word c, rest, v, emits)) = (more, e, (v.1, v.2, inl (word c, rest, v.3, emits)))
  colon_next built param false more h e (inl (quoted c, rest, v, emits)) = (more, e, (v.1, v.2, inl (quoted c, rest, v.3, emits)))
  colon_next built param false more h e (inl (list c, rest, v, emits)) = (more, e, (v.1, v.2, inl (list c, rest, v.3, emits)))
  colon_next built param false more h e (inr w) = (more, e, (w.1, w.5, inr (w.0, w.2, w.3, w.6, w.7)))

  colon_on : (built : Built) (param : Param) (place b : ℕ) → From built (phase.Colon param) b → On Rest (colon_at built param place b)
  colon_on built param place b w =
      on_true Rest (b == 58) _ _ (eq-eqb b 58 (head_of b 58 t w.2.0 w.2.1))
      (colon_next built param (is_code_name param.name) w.0 refl w.1
      (subst (λ x. BehindColon most size (length built.open_braces) param x w.0) (tail_of b 58 t w.2.0 w.2.1) w.2.2))

  -- ---- lists

  -- the entries so far with one more, and those behind it
  unlisted : (depth : ℕ) (param : Param) (open_list : OpenList) (e : Entry) (es : List Entry) (rest : List ℕ) (more : List Line) → Emits most size depth (plain param.name param.place (list (open_list.entries ++ e ∷ es))) rest more → Emits most size depth (plain param.name param.place (list ((open_list.entries ++ e ∷ []) ++ es))) rest more
  unlisted depth param open_list e es rest more h =
      subst (λ x. Emits most size depth (plain param.name param.place (list x)) rest more) (sym (append_assoc open_list.entries (e ∷ []) es)) h

  emitted : (built : Built) (param : Param) (value : Plain) (more : List Line) → all ≡ built.lines ++ more → Emits most size (length built.open_braces) (plain param.name param.place value) t more → Rest (record { builder = with_plain built param value; phase = phase.Between; comment = false })
  emitted built param value more e w =
      (w.0, regrouped built.lines more w.0 (plain param.name param.place value) e w.1, (w.2, w.3, w.4))

  list_ends : (built : Built) (param : Param) (open_list : OpenList) (es : List Entry) (more : List Line) → all ≡ built.lines ++ more → es ≡ [] → Emits most size (length built.open_braces) (plain param.name param.place (list (open_list.entries ++ es))) t more → On Rest (list_ended built param open_list)
  list_ends built param open_list es more e none w =
      emitted built param (list open_list.entries) more e
      (subst (λ x. Emits most size (length built.open_braces) (plain param.name param.place (list x)) t more) (ap (λ x. open_list.entries ++ x) none ∙ append-nil open_list.entries) w)

  comma_on : (built : Built) (param : Param) (open_list : OpenList) (place b : ℕ) → From built (phase.Comma param open_list) b → On Rest (comma_at built param open_list place b)
  comma_on built param open_list place b (more, e, (es, rest, inl (none, begins), emits)) =
      let is : b ≡ 93 = head_of b 93 t rest begins in
      on_false Rest (b == 44) _ _ (ap (λ x. x == 44) is)
      (on_true Rest (b == 93) _ _ (eq-eqb b 93 is)
      (list_ends built param open_list es more e none
      (subst (λ x. Emits most size (length built.open_braces) (plain param.name param.place (list (open_list.entries ++ es))) x more) (tail_of b 93 t rest begins) emits)))
  comma_on built param open_list place b (more, e, (es, rest, inr (comma, start, begins, gap, are), emits)) =
      on_true Rest (b == 44) _ _ (eq-eqb b 44 (head_of b 44 t comma begins))
      (more, e, (start, subst (λ x. IsGap x start) (tail_of b 44 t comma begins) gap, (es, rest, are, emits)))

  -- ---- where a value or an entry begins

  -- a word begins
  word_on : (built : Built) (param : Param) (spot : Slot) (place b : ℕ) (more : List Line) (w rest : List ℕ) → all ≡ built.lines ++ more → (is : IsWord (b ∷ t) w rest) → AtGap most size (length built.open_braces) (phase.Behind param spot w) rest more → On Rest (start_at most built param spot place b)
  word_on built param spot place b more w rest e is gap =
      on_true Rest (is_word_byte b) _ _ is.0
      (more, e, (is.1, rest, is.3, subst (λ x. AtGap most size (length built.open_braces) (phase.Behind param spot x) rest more) is.2 gap))

  -- a string begins
  string_on : (built : Built) (param : Param) (spot : Slot) (place b : ℕ) (more : List Line) (string rest : List ℕ) → all ≡ built.lines ++ more → (is : IsString (b ∷ t) string rest) → BehindString most size (length built.open_braces) param spot string rest more → On Rest (start_at most built param spot place b)
  string_on built param spot place b more string rest e is behind =
      let quote : b ≡ 34 = head_of b 34 t is.0 is.1 in
      on_false Rest (is_word_byte b) _ _ (ap is_word_byte quote)
      (on_true Rest (b == 34) _ _ (eq-eqb b 34 quote)
      (more, e, (string, rest, subst (λ x. IsQuoted x string rest) (tail_of b 34 t is.0 is.1) is.2, is.3, behind)))

  -- a bracket stands here
  bracket_on : (built : Built) (param : Param) (spot : Slot) (place b c : ℕ) → b ≡ c → is_word_byte c ≡ false → (c == 34) ≡ false → On Rest (bracket_at most built param spot place b) → On Rest (start_at most built param spot place b)
  bracket_on built param spot place b c is no_word not_quote r =
      on_false Rest (is_word_byte b) _ _ (ap is_word_byte is ∙ no_word) (on_false Rest (b == 34) _ _ (ap (λ x. x == 34) is ∙ not_quote) r)

  opened_on : (built : Built) (place : ℕ) (next : Built) (now : Phase) → length built.open_braces < most → Rest (record { builder = next; phase = now; comment = false }) → On Rest (opened most built place next now)
  opened_on built place next now few r = on_true Rest (nat_lt (length built.open_braces) most) _ _ (lt-ltb (length built.open_braces) most few) r

  block_on : (built : Built) (param : Param) (title : Option (List ℕ)) (place : ℕ) (more : List Line) → all ≡ built.lines ++ more → length built.open_braces < most → Emits most size (length built.open_braces) (block param.name param.place title) t more → On Rest (block_opened most built param title place)
  block_on built param title place more e few w =
      opened_on built place (with_block built param.name param.place title place) phase.Between few
      (w.0, regrouped built.lines more w.0 (block param.name param.place title) e w.1, (w.2, w.3, w.4))

  value_on : (built : Built) (param : Param) (place b : ℕ) (more : List Line) (value : Plain) (rest : List ℕ) → all ≡ built.lines ++ more → IsValue most (length built.open_braces) (b ∷ t) value rest → Emits most size (length built.open_braces) (plain param.name param.place value) rest more → On Rest (start_at most built param slot.Value place b)
  value_on built param place b more (word w) rest e is emits =
      word_on built param slot.Value place b more w rest e is (emits.2, emits.3, inl (emits.0, emits.1, emits.4))
  value_on built param place b more (quoted q) rest e is emits = string_on built param slot.Value place b more q rest e is emits
  value_on built param place b more (list es) rest e (few, inside, start, begins, gap, are) emits =
      let bracket : b ≡ 91 = head_of b 91 t inside begins in
      bracket_on built param slot.Value place b 91 bracket refl refl
      (on_true Rest (b == 91) _ _ (eq-eqb b 91 bracket)
      (opened_on built place built _ few (more, e, (start, subst (λ x. IsGap x start) (tail_of b 91 t inside begins) gap, (es, rest, are, emits)))))
  value_on built param place b more (code c) rest e is emits = absurd is

  title_on : (built : Built) (param : Param) (place b : ℕ) (more : List Line) (title : Option (List ℕ)) (rest : List ℕ) → all ≡ built.lines ++ more → length built.open_braces < most → IsOpening (b ∷ t) title rest → Emits most size (length built.open_braces) (block param.name param.place title) rest more → On Rest (start_at most built param slot.Value place b)
  title_on built param place b more None rest e few begins emits =
      let brace : b ≡ 123 = head_of b 123 t rest begins in
      bracket_on built param slot.Value place b 123 brace refl refl
      (on_false Rest (b == 91) _ _ (ap (λ x. x == 91) brace)
      (on_true Rest (b == 123) _ _ (eq-eqb b 123 brace)
      (block_on built param None place more e few (subst (λ x. Emits most size (length built.open_braces) (block param.name param.place None) x more) (tail_of b 123 t rest begins) emits))))
  title_on built param place b more (Some title) rest e few (behind, is, titled, gap) emits =
      word_on built param slot.Value place b more title behind e is (123 ∷ rest, gap, inr (rest, few, titled, refl, emits))

  -- an entry begins
  entry_on : (built : Built) (param : Param) (open_list : OpenList) (place b : ℕ) (more : List Line) (first : Entry) (es : List Entry) (behind rest : List ℕ) → all ≡ built.lines ++ more → IsEntry (b ∷ t) first behind → BehindEntry most size (length built.open_braces) param (with_entry open_list first) behind more → On Rest (start_at most built param (slot.Entry open_list) place b)
  entry_on built param open_list place b more (entry.word w) es behind rest e is follows =
      word_on built param (slot.Entry open_list) place b more w behind e is (follows.0, follows.1, inl follows.2)
  entry_on built param open_list place b more (entry.quoted q) es behind rest e is follows = string_on built param (slot.Entry open_list) place b more q behind e is follows
  entry_on built param open_list place b more (entry.pair key v) es behind rest e (after_key, colon, start, is, keyed, gap, gap2, scalar) follows =
      word_on built param (slot.Entry open_list) place b more key after_key e is
      (58 ∷ colon, gap, inr (colon, start, v, behind, keyed, refl, gap2, scalar, follows))
  entry_on built param open_list place b more (entry.other value) es behind rest e is follows = absurd is

  entries_on : (built : Built) (param : Param) (open_list : OpenList) (place b : ℕ) (more : List Line) (es : List Entry) (rest : List ℕ) → all ≡ built.lines ++ more → AreEntries (b ∷ t) es rest → Emits most size (length built.open_braces) (plain param.name param.place (list (open_list.entries ++ es))) rest more → On Rest (start_at most built param (slot.Entry open_list) place b)
  entries_on built param open_list place b more [] rest e begins emits =
      let bracket : b ≡ 93 = head_of b 93 t rest begins in
      bracket_on built param (slot.Entry open_list) place b 93 bracket refl refl
      (on_true Rest (b == 93) _ _ (eq-eqb b 93 bracket)
      (list_ends built param open_list [] more e refl
      (subst (λ x. Emits most size (length built.open_braces) (plain param.name param.place (list (open_list.entries ++ []))) x more) (tail_of b 93 t rest begins) emits)))
  entries_on built param open_list place b more (first ∷ es) rest e (behind, next, is, gap, follows) emits =
      entry_on built param open_list place b more first es behind rest e is
      (next, gap, (es, rest, follows, unlisted (length built.open_braces) param open_list first es rest more emits))

  scalar_on : (built : Built) (param : Param) (open_list : OpenList) (key : List ℕ) (place b : ℕ) (more : List Line) (scalar rest : List ℕ) → all ≡ built.lines ++ more → IsScalar (b ∷ t) scalar rest → BehindEntry most size (length built.open_braces) param (with_entry open_list (entry.pair key scalar)) rest more → On Rest (start_at most built param (slot.Pair open_list key) place b)
  scalar_on built param open_list key place b more scalar rest e (inl is) follows = word_on built param (slot.Pair open_list key) place b more scalar rest e is follows
  scalar_on built param open_list key place b more scalar rest e (inr is) follows = string_on built param (slot.Pair open_list key) place b more scalar rest e is follows

  start_on : (built : Built) (param : Param) (spot : Slot) (place b : ℕ) → From built (phase.Start param spot) b → On Rest (start_at most built param spot place b)
  start_on built param slot.Value place b (more, e, inl (value, rest, is, emits)) = value_on built param place b more value rest e is emits
  start_on built param slot.Value place b (more, e, inr (title, rest, few, is, emits)) = title_on built param place b more title rest e few is emits
  start_on built param (slot.Entry open_list) place b (more, e, (es, rest, are, emits)) = entries_on built param open_list place b more es rest e are emits
  start_on built param (slot.Pair open_list key) place b (more, e, (scalar, rest, is, follows)) = scalar_on built param open_list key place b more scalar rest e is follows

  -- ---- behind a word

  lines_begin : (depth b : ℕ) (lines : List Line) → AreLines most size depth (b ∷ t) lines → (is_name_byte b ≡ true) ⊎ (b ≡ 125)
  lines_begin depth b [] w = let never = w.1 in cc
  lines_begin depth b (plain name p value ∷ lines) w = inl w.2.1.2.0
  lines_begin depth b (block name p title ∷ lines) w = inl w.2.3.2.0
  lines_begin depth b (closing ∷ lines) w = inr (head_of b 125 t w.0 w.2.1)

  pub not_brace : (b : ℕ) → (is_name_byte b ≡ true) ⊎ (b ≡ 125) → (b == 123) ≡ false
  not_brace b (inl h) = differs is_name_byte b 123 h refl
  not_brace b (inr e) = ap (λ x. x == 123) e

  comma_begins : (depth b : ℕ) (param : Param) (open_list : OpenList) (more : List Line) → AtComma most size depth param open_list (b ∷ t) more → (b ≡ 93) ⊎ (b ≡ 44)
  comma_begins depth b param open_list more (es, rest, inl (none, begins), emits) = inl (head_of b 93 t rest begins)
  comma_begins depth b param open_list more (es, rest, inr (comma, start, begins, gap, are), emits) = inr (head_of b 44 t comma begins)

  pub not_colon : (b : ℕ) → (b ≡ 93) ⊎ (b ≡ 44) → (b == 58) ≡ false
  not_colon b (inl e) = ap (λ x. x == 58) e
  not_colon b (inr e) = ap (λ x. x == 58) e

  behind_on : (built : Built) (param : Param) (spot : Slot) (text : List ℕ) (place b : ℕ) → place + length (b ∷ t) ≡ size → From built (phase.Behind param spot text) b → On Rest (behind_at most built param spot text place b)
  behind_on built param slot.Value text place b at (more, e, inl (lines, f, are)) =
      on_false Rest (b == 123 && is_title text) _ _ (not_both (b == 123) (is_title text) (not_brace b (lines_begin (length built.open_braces) b lines are)))
      (between_on (with_plain built param (word text)) place b lines at (regrouped built.lines more lines (plain param.name param.place (word text)) e f) are)
  behind_on built param slot.Value text place b at (more, e, inr (rest, few, titled, begins, emits)) =
      on_true Rest (b == 123 && is_title text) _ _ (both_true (b == 123) (is_title text) (eq-eqb b 123 (head_of b 123 t rest begins)) titled)
      (block_on built param (Some text) place more e few
      (subst (λ x. Emits most size (length built.open_braces) (block param.name param.place (Some text)) x more) (tail_of b 123 t rest begins) emits))
  behind_on built param (slot.Entry open_list) text place b at (more, e, inl follows) =
      on_false Rest (b == 58 && is_key text) _ _
      (not_both (b == 58) (is_key text) (not_colon b (comma_begins (length built.open_braces) b param (with_entry open_list (entry.word text)) more follows)))
      (comma_on built param (with_entry open_list (entry.word text)) place b (more, e, follows))
  behind_on built param (slot.Entry open_list) text place b at (more, e, inr (colon, first, scalar, rest, keyed, begins, gap, is, follows)) =
      on_true Rest (b == 58 && is_key text) _ _ (both_true (b == 58) (is_key text) (eq-eqb b 58 (head_of b 58 t colon begins)) keyed)
      (more, e, (first, subst (λ x. IsGap x first) (tail_of b 58 t colon begins) gap, (scalar, rest, is, follows)))
  behind_on built param (slot.Pair open_list key) text place b at w = comma_on built param (with_entry open_list (entry.pair key text)) place b w

  -- ---- white space and comments

  at_125 : BeginsPiece 125
  at_125 = (refl, refl)

  pub line_begins : (b : ℕ) → (is_name_byte b ≡ true) ⊎ (b ≡ 125) → BeginsPiece b
  line_begins b (inl h) = word_begins b (name_is_word b h)
  line_begins b (inr e) = begins_at b 125 e (refl, refl)

  pub comma_piece : (b : ℕ) → (b ≡ 93) ⊎ (b ≡ 44) → BeginsPiece b
  comma_piece b (inl e) = begins_at b 93 e (refl, refl)
  comma_piece b (inr e) = begins_at b 44 e (refl, refl)

  pub value_begins : (depth b : ℕ) (value : Plain) (rest : List ℕ) → IsValue most depth (b ∷ t) value rest → BeginsPiece b
  value_begins depth b (word w) rest is = word_begins b is.0
  value_begins depth b (quoted q) rest is = begins_at b 34 (head_of b 34 t is.0 is.1) (refl, refl)
  value_begins depth b (list es) rest is = begins_at b 91 (head_of b 91 t is.1 is.3) (refl, refl)
  value_begins depth b (code c) rest is = absurd is

  pub opening_begins : (b : ℕ) (title : Option (List ℕ)) (rest : List ℕ) → IsOpening (b ∷ t) title rest → BeginsPiece b
  opening_begins b None rest is = begins_at b 123 (head_of b 123 t rest is) (refl, refl)
  opening_begins b (Some title) rest is = word_begins b is.1.0

  pub entry_begins : (b : ℕ) (e : Entry) (rest : List ℕ) → IsEntry (b ∷ t) e rest → BeginsPiece b
  entry_begins b (entry.word w) rest is = word_begins b is.0
  entry_begins b (entry.quoted q) rest is = begins_at b 34 (head_of b 34 t is.0 is.1) (refl, refl)
  entry_begins b (entry.pair key v) rest is = word_begins b is.3.0
  entry_begins b (entry.other value) rest is = absurd is

  pub entries_begin : (b : ℕ) (es : List Entry) (rest : List ℕ) → AreEntries (b ∷ t) es rest → BeginsPiece b
  entries_begin b [] rest is = begins_at b 93 (head_of b 93 t rest is) (refl, refl)
  entries_begin b (e ∷ es) rest is = entry_begins b e is.0 is.2

  pub scalar_begins : (b : ℕ) (scalar rest : List ℕ) → IsScalar (b ∷ t) scalar rest → BeginsPiece b
  scalar_begins b scalar rest (inl is) = word_begins b is.0
  scalar_begins b scalar rest (inr is) = begins_at b 34 (head_of b 34 t is.0 is.1) (refl, refl)

  start_begins : (depth b : ℕ) (param : Param) (spot : Slot) (more : List Line) → AtStart most size depth param spot (b ∷ t) more → BeginsPiece b
  start_begins depth b param slot.Value more (inl (value, rest, is, emits)) = value_begins depth b value rest is
  start_begins depth b param slot.Value more (inr (title, rest, few, is, emits)) = opening_begins b title rest is
  start_begins depth b param (slot.Entry open_list) more (es, rest, are, emits) = entries_begin b es rest are
  start_begins depth b param (slot.Pair open_list key) more (scalar, rest, is, follows) = scalar_begins b scalar rest is

  behind_begins : (depth b : ℕ) (param : Param) (spot : Slot) (text : List ℕ) (more : List Line) → AtBehind most size depth param spot text (b ∷ t) more → BeginsPiece b
  behind_begins depth b param slot.Value text more (inl (lines, f, are)) = line_begins b (lines_begin depth b lines are)
  behind_begins depth b param slot.Value text more (inr w) = begins_at b 123 (head_of b 123 t w.0 w.3) (refl, refl)
  behind_begins depth b param (slot.Entry open_list) text more (inl w) = comma_piece b (comma_begins depth b param (with_entry open_list (entry.word text)) more w)
  behind_begins depth b param (slot.Entry open_list) text more (inr w) = begins_at b 58 (head_of b 58 t w.0 w.5) (refl, refl)
  behind_begins depth b param (slot.Pair open_list key) text more w = comma_piece b (comma_begins depth b param (with_entry open_list (entry.pair key text)) more w)

  at_begins : (depth b : ℕ) (now : Phase) (more : List Line) → At most size depth now (b ∷ t) more → BeginsPiece b
  at_begins depth b phase.Between more w = line_begins b (lines_begin depth b more w)
  at_begins depth b (phase.Colon param) more w = begins_at b 58 (head_of b 58 t w.0 w.1) (refl, refl)
  at_begins depth b (phase.Start param spot) more w = start_begins depth b param spot more w
  at_begins depth b (phase.Behind param spot text) more w = behind_begins depth b param spot text more w
  at_begins depth b (phase.Comma param open_list) more w = comma_piece b (comma_begins depth b param open_list more w)
  at_begins depth b (phase.Name name start) more w = absurd w
  at_begins depth b (phase.Word param spot text) more w = absurd w
  at_begins depth b (phase.Quoted param spot quote text utf8) more w = absurd w
  at_begins depth b (phase.Escape param spot quote text) more w = absurd w
  at_begins depth b (phase.Code param raw utf8) more w = absurd w
  at_begins depth b (phase.Semicolon param raw) more w = absurd w

  gap_comment : (depth : ℕ) (now : Phase) (more : List Line) → ((text : List ℕ) → AtGap most size depth now text more → RestOf most size depth now text more) → (text start : List ℕ) → IsComment text start → At most size depth now start more → BehindComment (λ x. RestOf most size depth now x more) text
  gap_comment depth now more rest [] start c w = rest [] (start, c, w)
  gap_comment depth now more rest (b ∷ text) start (inl c) w = inl (c.0, rest text (start, c.1, w))
  gap_comment depth now more rest (b ∷ text) start (inr c) w = inr (c.0, gap_comment depth now more rest text start c.1 w)

  gap_on : (built : Built) (now : Phase) (place b : ℕ) → ((depth : ℕ) (text : List ℕ) (more : List Line) → AtGap most size depth now text more → RestOf most size depth now text more) → (From built now b → On Rest (piece_at most built now place b)) → AllLines built (λ depth more. AtGap most size depth now (b ∷ t) more) all → On Rest (gap_at most built now place b)
  gap_on built now place b rest piece (more, e, (start, inl same, w)) =
      let here : At most size (length built.open_braces) now (b ∷ t) more = subst (λ x. At most size (length built.open_braces) now x more) same w in
      let begins = at_begins (length built.open_braces) b now more here in
      on_false Rest (is_space b) _ _ begins.0 (on_false Rest (b == 35) _ _ begins.1 (piece (more, e, here)))
  gap_on built now place b rest piece (more, e, (start, inr (inl (h, gap)), w)) =
      on_true Rest (is_space b) _ _ h (more, e, rest (length built.open_braces) t more (start, gap, w))
  gap_on built now place b rest piece (more, e, (start, inr (inr (h, comment)), w)) =
      on_false Rest (is_space b) _ _ (ap is_space h)
      (on_true Rest (b == 35) _ _ (eq-eqb b 35 h)
      (more, e, gap_comment (length built.open_braces) now more (λ text. rest (length built.open_braces) text more) t start comment w))

  -- ---- names and words

  name_on : (built : Built) (name : List ℕ) (start place b : ℕ) → AllLines built (λ depth more. RestOf most size depth (phase.Name name start) (b ∷ t) more) all → On Rest (name_at most built name start place b)
  name_on built name start place b (more, e, (run, rest, inl (h, others, f, r), gap)) =
      on_true Rest (is_name_byte b) _ _ h
      (more, e, (others, rest, r, subst (λ x. AtGap most size (length built.open_braces) (phase.Colon (record { name = x; place = start })) rest more) (ap (λ x. name ++ x) f ∙ sym (append_assoc name (b ∷ []) others)) gap))
  name_on built name start place b (more, e, (run, rest, inr (h, none, same), gap)) =
      let param : Param = record { name = name; place = start } in
      on_false Rest (is_name_byte b) _ _ h
      (gap_on built (phase.Colon param) place b (λ _ _ _ w. w) (colon_on built param place b) (
        more,
        e,
        subst (λ (x : List ℕ × List ℕ). AtGap most size (length built.open_braces) (phase.Colon (record { name = x.0; place = start })) x.1 more)
            (λ i. ((ap (λ x. name ++ x) none ∙ append-nil name) i, same i)) gap,
      ))

  word_on_more : (built : Built) (param : Param) (spot : Slot) (text : List ℕ) (place b : ℕ) → place + length (b ∷ t) ≡ size → AllLines built (λ depth more. RestOf most size depth (phase.Word param spot text) (b ∷ t) more) all → On Rest (word_at most built param spot text place b)
  word_on_more built param spot text place b at (more, e, (run, rest, inl (h, others, f, r), gap)) =
      on_true Rest (is_word_byte b) _ _ h
      (more, e, (others, rest, r, subst (λ x. AtGap most size (length built.open_braces) (phase.Behind param spot x) rest more) (ap (λ x. text ++ x) f ∙ sym (append_assoc text (b ∷ []) others)) gap))
  word_on_more built param spot text place b at (more, e, (run, rest, inr (h, none, same), gap)) =
      on_false Rest (is_word_byte b) _ _ h
      (gap_on built (phase.Behind param spot text) place b (λ _ _ _ w. w) (behind_on built param spot text place b at) (
        more,
        e,
        subst (λ (x : List ℕ × List ℕ). AtGap most size (length built.open_braces) (phase.Behind param spot x.0) x.1 more)
            (λ i. ((ap (λ x. text ++ x) none ∙ append-nil text) i, same i)) gap,
      ))

  -- ---- strings

  string_ends : (built : Built) (param : Param) (spot : Slot) (text : List ℕ) (more : List Line) → all ≡ built.lines ++ more → BehindString most size (length built.open_braces) param spot text t more → On Rest (string_ended built param spot text)
  string_ends built param slot.Value text more e w = emitted built param (quoted text) more e w
  string_ends built param (slot.Entry open_list) text more e w = (more, e, w)
  string_ends built param (slot.Pair open_list key) text more e w = (more, e, w)

  pub escape_whole : (u : Utf8) (text string rest : List ℕ) → IsEscape text string rest → completes u string ≡ true → is_whole u ≡ true
  escape_whole u [] string rest w h = absurd w
  escape_whole u (b ∷ text) string rest w h = (unescaped_parts u b w.0 (subst (λ x. completes u x ≡ true) w.1 h)).0

  quoted_on : (built : Built) (param : Param) (spot : Slot) (quote : ℕ) (text : List ℕ) (utf8 : Utf8) (place b : ℕ) → AllLines built (λ depth more. RestOf most size depth (phase.Quoted param spot quote text utf8) (b ∷ t) more) all → On Rest (quoted_at built param spot quote text utf8 place b)
  quoted_on built param spot quote text utf8 place b (more, e, (string, rest, inl (is, none, same), done, behind)) =
      on_true Rest (is_whole utf8 && b == 34) _ _
      (both_true (is_whole utf8) (b == 34) (subst (λ x. completes utf8 x ≡ true) none done) (eq-eqb b 34 is))
      (string_ends built param spot text more e
      (subst (λ (x : List ℕ × List ℕ). BehindString most size (length built.open_braces) param spot x.0 x.1 more)
      (λ i. ((ap (λ x. text ++ x) none ∙ append-nil text) i, same i)) behind))
  quoted_on built param spot quote text utf8 place b (more, e, (string, rest, inr (inl (is, escape)), done, behind)) =
      let here = escape_whole utf8 t string rest escape done in
      on_false Rest (is_whole utf8 && b == 34) _ _ (not_both_right (is_whole utf8) (b == 34) (ap (λ x. x == 34) is))
      (on_true Rest (is_whole utf8 && b == 92) _ _ (both_true (is_whole utf8) (b == 92) here (eq-eqb b 92 is))
      (more, e, (string, rest, escape, subst (λ u. completes u string ≡ true) (whole_is utf8 here) done, behind)))
  quoted_on built param spot quote text utf8 place b (more, e, (string, rest, inr (inr (plain_, others, f, is)), done, behind)) =
      let tests = either_false (b == 34) (b == 92) plain_ in
      let parts = completes_parts utf8 b others (subst (λ x. completes utf8 x ≡ true) f done) in
      on_false Rest (is_whole utf8 && b == 34) _ _ (not_both_right (is_whole utf8) (b == 34) tests.0)
      (on_false Rest (is_whole utf8 && b == 92) _ _ (not_both_right (is_whole utf8) (b == 92) tests.1)
      (on_next Rest built (utf8_after utf8 b) parts.0 _ place parts.1 (
        more,
        e,
        (
          others,
          rest,
          is,
          parts.2,
          subst (λ x. BehindString most size (length built.open_braces) param spot x rest more) (ap (λ x. text ++ x) f ∙ sym (append_assoc text (b ∷ []) others)) behind,
        ),
      )))

  escape_on : (built : Built) (param : Param) (spot : Slot) (quote : ℕ) (text : List ℕ) (place b : ℕ) → AllLines built (λ depth more. RestOf most size depth (phase.Escape param spot quote text) (b ∷ t) more) all → On Rest (escape_at built param spot quote text place b)
  escape_on built param spot quote text place b (more, e, (string, rest, (others, f, is), done, behind)) =
      let parts = completes_parts utf.Whole b others (unescaped_parts utf.Whole b others (subst (λ x. completes utf.Whole x ≡ true) f done)).1 in
      on_next Rest built (utf8_after utf.Whole b) parts.0 _ place parts.1 (
        more,
        e,
        (
          others,
          rest,
          is,
          parts.2,
          subst (λ x. BehindString most size (length built.open_braces) param spot x rest more) (ap (λ x. text ++ x) f ∙ sym (append_assoc text (unescaped b) others)) behind,
        ),
      )

  -- ---- code

  pub semicolon_whole : (u : Utf8) (text kept rest : List ℕ) → IsSemicolon text kept rest → completes u kept ≡ true → is_whole u ≡ true
  semicolon_whole u [] kept rest w h = absurd w
  semicolon_whole u (b ∷ text) kept rest (inl (is, none, same)) h = subst (λ x. completes u x ≡ true) none h
  semicolon_whole u (b ∷ text) kept rest (inr (isnt, others, f, is)) h = whole_at u 59 (b ∷ others) no_semicolon (subst (λ x. completes u x ≡ true) f h)

  code_on : (built : Built) (param : Param) (raw : List ℕ) (utf8 : Utf8) (place b : ℕ) → AllLines built (λ depth more. RestOf most size depth (phase.Code param raw utf8) (b ∷ t) more) all → On Rest (code_at built param raw utf8 place b)
  code_on built param raw utf8 place b (more, e, (kept, rest, inl (is, ends), done, emits)) =
      let here = semicolon_whole utf8 t kept rest ends done in
      on_true Rest (is_whole utf8 && b == 59) _ _ (both_true (is_whole utf8) (b == 59) here (eq-eqb b 59 is))
      (more, e, (kept, rest, ends, subst (λ u. completes u kept ≡ true) (whole_is utf8 here) done, emits))
  code_on built param raw utf8 place b (more, e, (kept, rest, inr (isnt, others, f, is), done, emits)) =
      let parts = completes_parts utf8 b others (subst (λ x. completes utf8 x ≡ true) f done) in
      on_false Rest (is_whole utf8 && b == 59) _ _ (not_both_right (is_whole utf8) (b == 59) isnt)
      (on_next Rest built (utf8_after utf8 b) parts.0 _ place parts.1 (
        more,
        e,
        (
          others,
          rest,
          is,
          parts.2,
          subst (λ x. Emits most size (length built.open_braces) (plain param.name param.place (code (trimmed x))) rest more) (ap (λ x. raw ++ x) f ∙ sym (append_assoc raw (b ∷ []) others)) emits,
        ),
      ))

  semicolon_on : (built : Built) (param : Param) (raw : List ℕ) (place b : ℕ) → AllLines built (λ depth more. RestOf most size depth (phase.Semicolon param raw) (b ∷ t) more) all → On Rest (semicolon_at built param raw place b)
  semicolon_on built param raw place b (more, e, (kept, rest, inl (is, none, same), done, emits)) =
      on_true Rest (b == 59) _ _ (eq-eqb b 59 is)
      (emitted built param (code (trimmed raw)) more e
      (subst (λ (x : List ℕ × List ℕ). Emits most size (length built.open_braces) (plain param.name param.place (code (trimmed x.0))) x.1 more)
      (λ i. ((ap (λ x. raw ++ x) none ∙ append-nil raw) i, same i)) emits))
  semicolon_on built param raw place b (more, e, (kept, rest, inr (isnt, others, f, is), done, emits)) =
      let begun_ : completes utf.Whole (b ∷ others) ≡ true = subst (λ x. completes utf.Whole x ≡ true) f done in
      let parts = completes_parts utf.Whole b others begun_ in
      on_false Rest (b == 59) _ _ isnt
      (on_next Rest built (utf8_after utf.Whole b) parts.0 _ place parts.1 (
        more,
        e,
        (
          others,
          rest,
          is,
          parts.2,
          subst (λ x. Emits most size (length built.open_braces) (plain param.name param.place (code (trimmed x))) rest more) (ap (λ x. raw ++ x) f ∙ sym (append_assoc raw (59 ∷ b ∷ []) others)) emits,
        ),
      ))

  -- ---- steps

  step_at_on : (built : Built) (now : Phase) (place b : ℕ) → place + length (b ∷ t) ≡ size → AllLines built (λ depth more. RestOf most size depth now (b ∷ t) more) all → On Rest (step_at most built now place b)
  step_at_on built (phase.Name name start) place b at w = name_on built name start place b w
  step_at_on built (phase.Word param spot text) place b at w = word_on_more built param spot text place b at w
  step_at_on built (phase.Quoted param spot quote text utf8) place b at w = quoted_on built param spot quote text utf8 place b w
  step_at_on built (phase.Escape param spot quote text) place b at w = escape_on built param spot quote text place b w
  step_at_on built (phase.Code param raw utf8) place b at w = code_on built param raw utf8 place b w
  step_at_on built (phase.Semicolon param raw) place b at w = semicolon_on built param raw place b w
  step_at_on built phase.Between place b at w = gap_on built phase.Between place b (λ _ _ _ x. x) (λ x. between_on built place b x.0 at x.1 x.2) w
  step_at_on built (phase.Colon param) place b at w = gap_on built (phase.Colon param) place b (λ _ _ _ x. x) (colon_on built param place b) w
  step_at_on built (phase.Start param spot) place b at w = gap_on built (phase.Start param spot) place b (λ _ _ _ x. x) (start_on built param spot place b) w
  step_at_on built (phase.Behind param spot text) place b at w = gap_on built (phase.Behind param spot text) place b (λ _ _ _ x. x) (behind_on built param spot text place b at) w
  step_at_on built (phase.Comma param open_list) place b at w = gap_on built (phase.Comma param open_list) place b (λ _ _ _ x. x) (comma_on built param open_list place b) w

  comment_on : (built : Built) (now : Phase) (b : ℕ) (c : Bool) → (b == 10) ≡ c → IsRest most size (record { builder = built; phase = now; comment = true }) (b ∷ t) all → Rest (record { builder = built; phase = now; comment = not c })
  comment_on built now b true h (more, e, inl (is, w)) = (more, e, w)
  comment_on built now b true h (more, e, inr (isnt, w)) = cc
  comment_on built now b false h (more, e, inl (is, w)) = let no : (b == 10) ≡ true = eq-eqb b 10 is in cc
  comment_on built now b false h (more, e, inr (isnt, w)) = (more, e, w)

  step_on : (built : Built) (now : Phase) (comment : Bool) (place b : ℕ) → place + length (b ∷ t) ≡ size → IsRest most size (record { builder = built; phase = now; comment = comment }) (b ∷ t) all → On Rest (step most (record { builder = built; phase = now; comment = comment }) place b)
  step_on built now true place b at w = comment_on built now b (b == 10) refl w
  step_on built now false place b at w = step_at_on built now place b at w

-- ---- the end of the text

module _ (most size : ℕ) where
  pub no_line : (depth : ℕ) (line : Line) (rest : List ℕ) → IsLine most size depth [] line rest → ⊥
  no_line depth (plain name p value) rest w = w.1.2
  no_line depth (block name p title) rest w = w.3.2
  no_line depth closing rest w = let never = w.1 in cc

  whole_lines : (lines : List Line) (braces : List ℕ) → length braces ≡ 0 → whole (record { lines = lines; open_braces = braces }) (first_of braces) ≡ Ok lines
  whole_lines lines [] h = refl
  whole_lines lines (brace ∷ outer) h = absurd (omega arith)

  no_lines : (depth : ℕ) (more : List Line) → AreLines most size depth [] more → (depth ≡ 0) × (more ≡ [])
  no_lines depth [] w = (w.0, refl)
  no_lines depth (line ∷ more) w = absurd (no_line depth line w.0 w.2)

  pub no_value : (depth : ℕ) (value : Plain) (rest : List ℕ) → IsValue most depth [] value rest → ⊥
  no_value depth (word w) rest is = is
  no_value depth (quoted q) rest is = let never = is.1 in cc
  no_value depth (list es) rest is = let never = is.3 in cc
  no_value depth (code c) rest is = is

  pub no_opening : (title : Option (List ℕ)) (rest : List ℕ) → IsOpening [] title rest → ⊥
  no_opening None rest is = cc
  no_opening (Some title) rest is = is.1

  pub no_entry : (e : Entry) (rest : List ℕ) → IsEntry [] e rest → ⊥
  no_entry (entry.word w) rest is = is
  no_entry (entry.quoted q) rest is = let never = is.1 in cc
  no_entry (entry.pair key v) rest is = is.3
  no_entry (entry.other value) rest is = is

  pub no_entries : (es : List Entry) (rest : List ℕ) → AreEntries [] es rest → ⊥
  no_entries [] rest is = cc
  no_entries (e ∷ es) rest is = no_entry e is.0 is.2

  pub no_scalar : (scalar rest : List ℕ) → IsScalar [] scalar rest → ⊥
  no_scalar scalar rest (inl is) = is
  no_scalar scalar rest (inr is) = let never = is.1 in cc

  no_comma : (depth : ℕ) (param : Param) (open_list : OpenList) (more : List Line) → AtComma most size depth param open_list [] more → ⊥
  no_comma depth param open_list more (es, rest, inl (none, begins), emits) = cc
  no_comma depth param open_list more (es, rest, inr (comma, start, begins, gap, are), emits) = cc

  no_start : (depth : ℕ) (param : Param) (spot : Slot) (more : List Line) → AtStart most size depth param spot [] more → ⊥
  no_start depth param slot.Value more (inl (value, rest, is, emits)) = no_value depth value rest is
  no_start depth param slot.Value more (inr (title, rest, few, is, emits)) = no_opening title rest is
  no_start depth param (slot.Entry open_list) more (es, rest, are, emits) = no_entries es rest are
  no_start depth param (slot.Pair open_list key) more (scalar, rest, is, follows) = no_scalar scalar rest is

  word_ends : (built : Built) (param : Param) (spot : Slot) (text : List ℕ) (all more : List Line) → all ≡ built.lines ++ more → AtBehind most size (length built.open_braces) param spot text [] more → word_end built param spot text ≡ Ok all
  word_ends built param slot.Value text all more e (inl (lines, f, are)) =
      let w = no_lines (length built.open_braces) lines are in
      whole_lines (built.lines ++ plain param.name param.place (word text) ∷ []) built.open_braces w.0
      ∙ ap (λ x. Ok (built.lines ++ plain param.name param.place (word text) ∷ x)) (sym w.1)
      ∙ ap (λ x. Ok (built.lines ++ x)) (sym f) ∙ ap Ok (sym e)
  word_ends built param slot.Value text all more e (inr w) = let never = w.3 in cc
  word_ends built param (slot.Entry open_list) text all more e (inl w) = absurd (no_comma (length built.open_braces) param (with_entry open_list (entry.word text)) more w)
  word_ends built param (slot.Entry open_list) text all more e (inr w) = let never = w.5 in cc
  word_ends built param (slot.Pair open_list key) text all more e w = absurd (no_comma (length built.open_braces) param (with_entry open_list (entry.pair key text)) more w)

  ended : (built : Built) (now : Phase) (place : ℕ) (all : List Line) → AllLines built (λ depth more. RestOf most size depth now [] more) all → end_at built now place ≡ Ok all
  ended built phase.Between place all (more, e, (start, none, are)) =
      let w = no_lines (length built.open_braces) more (subst (λ x. AreLines most size (length built.open_braces) x more) none are) in
      whole_lines built.lines built.open_braces w.0
      ∙ ap Ok (sym (append-nil built.lines)) ∙ ap (λ x. Ok (built.lines ++ x)) (sym w.1) ∙ ap Ok (sym e)
  ended built (phase.Name name begun_) place all (more, e, (run, rest, (no_run, no_rest), (start, gap, (content, begins, behind)))) =
      let none : start ≡ [] = subst (λ x. IsGap x start) no_rest gap in let never = sym begins ∙ none in cc
  ended built (phase.Colon param) place all (more, e, (start, none, (content, begins, behind))) = let never = sym begins ∙ none in cc
  ended built (phase.Start param spot) place all (more, e, (start, none, w)) =
      absurd (no_start (length built.open_braces) param spot more (subst (λ x. AtStart most size (length built.open_braces) param spot x more) none w))
  ended built (phase.Word param spot text) place all (more, e, (run, rest, (no_run, no_rest), (start, gap, w))) =
      let none : start ≡ [] = subst (λ x. IsGap x start) no_rest gap in
      word_ends built param spot text all more e
      (subst (λ (x : List ℕ × List ℕ). AtBehind most size (length built.open_braces) param spot x.0 x.1 more)
      (λ i. ((ap (λ x. text ++ x) no_run ∙ append-nil text) i, none i)) w)
  ended built (phase.Behind param spot text) place all (more, e, (start, none, w)) =
      word_ends built param spot text all more e (subst (λ x. AtBehind most size (length built.open_braces) param spot text x more) none w)
  ended built (phase.Comma param open_list) place all (more, e, (start, none, w)) =
      absurd (no_comma (length built.open_braces) param open_list more (subst (λ x. AtComma most size (length built.open_braces) param open_list x more) none w))
  ended built (phase.Quoted param spot quote text utf8) place all w = absurd w.2.2
  ended built (phase.Escape param spot quote text) place all w = absurd w.2.2
  ended built (phase.Code param raw utf8) place all w = absurd w.2.2
  ended built (phase.Semicolon param raw) place all w = absurd w.2.2

  without_comment : (built : Built) (now : Phase) (comment : Bool) (all : List Line) → IsRest most size (record { builder = built; phase = now; comment = comment }) [] all → AllLines built (λ depth more. RestOf most size depth now [] more) all
  without_comment built now true all h = h
  without_comment built now false all h = h

  goes_on_ : (s : Step) (text : List ℕ) (all : List Line) (rest : Reader → Result (List Line) ReadFault) → On (λ next. IsRest most size next text all) s → ((next : Reader) → IsRest most size next text all → rest next ≡ Ok all) → then_read s rest ≡ Ok all
  goes_on_ (Ok next) text all rest on again = again next on
  goes_on_ (Err why) text all rest on again = absurd on

  pub complete_from : (text : List ℕ) (place : ℕ) (reader : Reader) (all : List Line) → place + length text ≡ size → IsRest most size reader text all → read_from most place reader text ≡ Ok all
  complete_from [] place reader all at w = ended reader.builder reader.phase place all (without_comment reader.builder reader.phase reader.comment all w)
  complete_from (b ∷ text) place reader all at w =
      goes_on_ (step most reader place b) text all (λ next. read_from most (place + 1) next text)
      (step_on most size text all reader.builder reader.phase reader.comment place b at w)
      (λ next again. complete_from text (place + 1) next all (omega arith) again)

-- what is spelled so is read
pub complete : (most : ℕ) (text : List ℕ) (lines : List Line) → SpellsLines most text lines → read_lines most text ≡ Ok lines
unfolding read_lines
complete most text lines (start, gap, are) =
    complete_from most (length text) text 0 start_of_file lines (omega arith) (lines, refl, (start, gap, are))
