-- A text that breaks off so breaks off so behind its first byte too, where the reader goes on over that.
use Rattle.std.proofs.Common.{◌≡◌, ℕ, suc, nat_lt, Bool, true, false, not, ◌&&◌, ◌==◌, cond, ◌+◌, ◌<◌, List, [], ◌∷◌, ◌++◌, ◌⊎◌, inl, inr, Option, Some, None, length, Ok, Err, refl, sym, ap, ◌∙◌, subst, arith, append_assoc}
use Rattle.std.proofs.lemmas.Bool.{eq-eqb, eqb-true}
use Rattle.std.proofs.lemmas.List.{append-nil}
use Rattle.lk_read.specs.Entry.{Entry}
use Rattle.lk_read.specs.Entry as entry
use Rattle.lk_read.specs.declared.read_fault.ReadFault.{ReadFault}
use Rattle.lk_read.specs.declared.read_fault.ReadFault.TheVariants as fault
use Rattle.lk_read.specs.declared.phase.Param.{Param}
use Rattle.lk_read.specs.declared.phase.OpenList.{OpenList}
use Rattle.lk_read.specs.declared.phase.Slot.{Slot}
use Rattle.lk_read.specs.declared.phase.Slot.TheVariants as slot
use Rattle.lk_read.specs.declared.phase.Phase.{Phase}
use Rattle.lk_read.specs.declared.phase.Phase.TheVariants as phase
use Rattle.lk_read.specs.declared.reader.Reader.{Reader}
use Rattle.lk_utf8.specs.declared.utf8.Utf8.{Utf8}
use Rattle.lk_utf8.specs.declared.utf8.Utf8.TheVariants as utf
use Rattle.lk_read.specs.Outline.{Plain, word, quoted, list, code}
use Rattle.lk_read.specs.Lines.{Line, plain, block, closing}
use Rattle.lk_read.specs.Built.{Built, first_of, with_block, closed_of}
use Rattle.lk_read.specs.Bytes.{is_space, is_name_byte, is_word_byte, is_title, is_key, is_code_name}
use Rattle.lk_utf8.specs.Utf8.{completes, utf8_after, is_whole}
use Rattle.lk_read.specs.Grammar.{IsGap, IsComment, IsWord, IsString, IsQuoted, IsEntry, AreEntries, IsValue, IsOpening, IsNamed, unescaped}
use Rattle.lk_read.specs.BreaksOff.{Passes, IsCutLine, IsMissing, IsOpenString, PassesEntries, IsCutEntry, AreCutEntries, IsCutValue}
use Rattle.lk_read.specs.Reading.{Step, in_phase, goes_to, whole, missing, word_end, start_end, end_at, with_entry, with_plain, closed_to, between_at, colon_at, behind_colon, opened, block_opened, bracket_at, start_at, comma_at, behind_at, piece_at, gap_at, string_ended, quoted_at, escape_at, code_at, semicolon_at, name_at, word_at, step_at, step}
use Rattle.lk_read.proofs.Rests.{BehindComment}
use Rattle.lk_read.proofs.Cuts.{CutLines, After, CutComma, CutBehindEntry, CutStart, CutBehind, CutString, CutColon, CutAt, CutGap, CutRest, IsCut}
use Rattle.lk_read.proofs.Complete.{head_of, tail_of, same_place, not_brace, not_colon, line_begins, comma_piece, value_begins, opening_begins, entry_begins, entries_begin, scalar_begins, escape_whole, semicolon_whole, no_line, no_value, no_opening, no_entry, no_entries, no_scalar}
use Rattle.lk_utf8.proofs.CompletionLaws.{whole_is, completes_parts, apart}
use Rattle.lk_read.proofs.Steps.{by_test, both, by_next, both_true, not_both, not_both_right, either_false, no_quote, no_backslash, no_semicolon, neither, BeginsPiece, begins_at, word_begins, unescaped_parts}

-- where the step goes on, this holds behind it
abbrev pub Then : (Reader → Type 0) → Step → Type 0
Then Rest (Ok next) = Rest next
Then Rest (Err why) = Unit {0}

then_true : (Rest : Reader → Type 0) (c : Bool) (x y : Step) → c ≡ true → Then Rest x → Then Rest (cond c x y)
then_true Rest true x y h r = r
then_true Rest false x y h r = cc

then_false : (Rest : Reader → Type 0) (c : Bool) (x y : Step) → c ≡ false → Then Rest y → Then Rest (cond c x y)
then_false Rest false x y h r = r
then_false Rest true x y h r = cc

then_next : (Rest : Reader → Type 0) (built : Built) (next : Option Utf8) (v : Utf8) (now : Utf8 → Phase) (place : ℕ) → next ≡ Some v → Then Rest (in_phase built (now v)) → Then Rest (goes_to built next now place)
then_next Rest built next v now place e r = subst (λ o. Then Rest (goes_to built o now place)) (sym e) r

module _ (most size : ℕ) (why : ReadFault) (t : List ℕ) where
  abbrev Rest : Reader → Type 0
  Rest next = IsCut most size why next t

  abbrev From : Built → Phase → ℕ → Type 0
  From built now b = CutAt most size why built.open_braces now (b ∷ t)

  -- ---- where a parameter may begin or a block may end

  named_on : (built : Built) (place b p : ℕ) (name content : List ℕ) → place + length (b ∷ t) ≡ size → IsNamed size (b ∷ t) name p content → CutColon most size why built.open_braces (record { name = name; place = p }) content → Then Rest (between_at built place b)
  named_on built place b p name content at (behind, spot, (h, run, f, r), colon) cut =
      then_true Rest (is_name_byte b) _ _ h (
        run,
        behind,
        r,
        (
          58 ∷ content,
          colon,
          inl (
            content,
            refl,
            subst (λ (x : List ℕ × ℕ). CutColon most size why built.open_braces (record { name = x.0; place = x.1 }) content)
                (λ i. (f i, same_place p place (length (b ∷ t)) size spot at i)) cut,
          ),
        ),
      )

  part_on : (built : Built) (place b : ℕ) → place + length (b ∷ t) ≡ size → IsCutLine most size built.open_braces (b ∷ t) why → Then Rest (between_at built place b)
  part_on built place b at (inl w) = let never = w.0 in cc
  part_on built place b at (inr (inl (name, rest, (h, run, f, r), gap, lacks))) =
      then_true Rest (is_name_byte b) _ _ h (run, rest, r, ([], gap, inr (refl, lacks)))
  part_on built place b at (inr (inr (name, p, content, named, cut))) = named_on built place b p name content at named (inr (inr cut))

  closing_on : (lines : List Line) (braces behind : List ℕ) (brace place : ℕ) → braces ≡ brace ∷ behind → After most size why behind t → Then Rest (closed_to (closed_of (record { lines = lines; open_braces = braces }) braces) place)
  closing_on lines [] behind brace place e after = tt
  closing_on lines (x ∷ outer) behind brace place e after =
      let same : behind ≡ outer = cc in subst (λ x. After most size why x t) same after

  between_on : (built : Built) (place b : ℕ) (all : List Line) (now here : List ℕ) → place + length (b ∷ t) ≡ size → Passes most size built.open_braces (b ∷ t) all now here → IsCutLine most size now here why → Then Rest (between_at built place b)
  between_on built place b [] now here at (same, f) cut =
      part_on built place b at (subst (λ (x : List ℕ × List ℕ). IsCutLine most size x.0 x.1 why) (λ i. (same i, f i)) cut)
  between_on built place b (plain name p value ∷ more) now here at (rest, next, behind, line, opens, gap, passes) cut =
      named_on built place b p name line.0 at line.1
      (inl (value, rest, line.2, (next, gap, (more, now, here, subst (λ x. Passes most size x next more now here) opens passes, cut))))
  between_on built place b (block name p title ∷ more) now here at (rest, next, behind, line, opens, gap, passes) cut =
      named_on built place b p name line.1 at line.3
      (inr (inl (title, line.2, rest, opens.0, line.0, line.4, line.5, line.6, opens.1, (next, gap, (more, now, here, subst (λ x. Passes most size x next more now here) opens.2 passes, cut)))))
  between_on built place b (closing ∷ more) now here at (rest, next, behind, line, opens, gap, passes) cut =
      let is : b ≡ 125 = head_of b 125 t rest line.1 in
      then_false Rest (is_name_byte b) _ _ (ap is_name_byte is)
      (then_true Rest (b == 125) _ _ (eq-eqb b 125 is)
      (closing_on built.lines built.open_braces behind opens.0 place opens.1
      (next, subst (λ x. IsGap x next) (tail_of b 125 t rest line.1) gap, (more, now, here, passes, cut))))

  -- ---- the colon

  colon_next : (built : Built) (param : Param) (c : Bool) → is_code_name param.name ≡ c → CutColon most size why built.open_braces param t → Rest (record { builder = built; phase = behind_colon param c; comment = false })
  colon_next built param true h (inl (code c, rest, v, after)) = inl (v.1, rest, v.2, v.3, after)
  colon_next built param true h (inl (word c, rest, v, after)) = let no = v.0 in cc
  colon_next built param true h (inl (quoted c, rest, v, after)) = let no = v.0 in cc
  colon_next built param true h (inl (list c, rest, v, after)) = let no = v.0 in cc
  colon_next built param true h (inr (inl w)) = let no = w.5 in cc
  colon_next built param true h (inr (inr (inl (is, unended, f)))) = inr (unended, f)
  colon_next built param true h (inr (inr (inr w))) = let no = w.0 in cc
  colon_next built param false h (inl (code c, rest, v, after)) = let no = v.0 in cc
  colon_next built param false h (inl (word c, rest, v, after)) = (v.1, v.2, inl (word c, rest, v.3, after))
  colon_next built param false h (inl (quoted c, rest, v, after)) = (v.1, v.2, inl (quoted c, rest, v.3, after))
  colon_next built param false h (inl (list c, rest, v, after)) = (v.1, v.2, inl (list c, rest, v.3, after))
  colon_next built param false h (inr (inl w)) = (w.1, w.6, inr (inl (w.0, w.2, w.3, w.4, w.7, w.8, w.9)))
  colon_next built param false h (inr (inr (inl w))) = let no = w.0 in cc
  colon_next built param false h (inr (inr (inr (no_code, start, gap, cut)))) = (start, gap, inr (inr cut))

  colon_on : (built : Built) (param : Param) (place b : ℕ) → From built (phase.Colon param) b → Then Rest (colon_at built param place b)
  colon_on built param place b (inl (content, begins, cut)) =
      then_true Rest (b == 58) _ _ (eq-eqb b 58 (head_of b 58 t content begins))
      (colon_next built param (is_code_name param.name) refl (subst (λ x. CutColon most size why built.open_braces param x) (tail_of b 58 t content begins) cut))
  colon_on built param place b (inr w) = let never = w.0 in cc

  -- ---- lists

  comma_on : (built : Built) (param : Param) (open_list : OpenList) (place b : ℕ) → CutComma most size why built.open_braces open_list.bracket (b ∷ t) → Then Rest (comma_at built param open_list place b)
  comma_on built param open_list place b (inl (es, rest, inl (none, begins), after)) =
      let is : b ≡ 93 = head_of b 93 t rest begins in
      then_false Rest (b == 44) _ _ (ap (λ x. x == 44) is)
      (then_true Rest (b == 93) _ _ (eq-eqb b 93 is) (subst (λ x. After most size why built.open_braces x) (tail_of b 93 t rest begins) after))
  comma_on built param open_list place b (inl (es, rest, inr (comma, start, begins, gap, are), after)) =
      then_true Rest (b == 44) _ _ (eq-eqb b 44 (head_of b 44 t comma begins))
      (start, subst (λ x. IsGap x start) (tail_of b 44 t comma begins) gap, inl (es, rest, are, after))
  comma_on built param open_list place b (inr (inl w)) = let never = w.0 in cc
  comma_on built param open_list place b (inr (inr (comma, start, begins, gap, cut))) =
      then_true Rest (b == 44) _ _ (eq-eqb b 44 (head_of b 44 t comma begins))
      (start, subst (λ x. IsGap x start) (tail_of b 44 t comma begins) gap, inr cut)

  -- ---- where a value or an entry begins

  -- a word begins
  word_on : (built : Built) (param : Param) (spot : Slot) (place b : ℕ) (w rest : List ℕ) → IsWord (b ∷ t) w rest → CutGap most size why built.open_braces (phase.Behind param spot w) rest → Then Rest (start_at most built param spot place b)
  word_on built param spot place b w rest (h, run, f, r) gap =
      then_true Rest (is_word_byte b) _ _ h
      (run, rest, r, subst (λ x. CutGap most size why built.open_braces (phase.Behind param spot x) rest) f gap)

  -- a quote stands here
  quote_on : (built : Built) (param : Param) (spot : Slot) (place b : ℕ) → b ≡ 34 → CutRest most size why built.open_braces (phase.Quoted param spot place [] utf.Whole) t → Then Rest (start_at most built param spot place b)
  quote_on built param spot place b is r =
      then_false Rest (is_word_byte b) _ _ (ap is_word_byte is) (then_true Rest (b == 34) _ _ (eq-eqb b 34 is) r)

  string_on : (built : Built) (param : Param) (spot : Slot) (place b : ℕ) (string rest : List ℕ) → IsString (b ∷ t) string rest → CutString most size why built.open_braces spot rest → Then Rest (start_at most built param spot place b)
  string_on built param spot place b string rest (raw, begins, is, done) follows =
      quote_on built param spot place b (head_of b 34 t raw begins)
      (inl (string, rest, subst (λ x. IsQuoted x string rest) (tail_of b 34 t raw begins) is, done, follows))

  open_string_on : (built : Built) (param : Param) (spot : Slot) (place b : ℕ) → place + length (b ∷ t) ≡ size → IsOpenString size (b ∷ t) why → Then Rest (start_at most built param spot place b)
  open_string_on built param spot place b at (raw, p, begins, there, unended, f) =
      quote_on built param spot place b (head_of b 34 t raw begins)
      (inr (
        subst (λ x. (string rest : List ℕ) → IsQuoted x string rest → ⊥) (tail_of b 34 t raw begins) unended,
        f ∙ ap (λ x. fault.R1 x) (same_place p place (length (b ∷ t)) size there at),
      ))

  -- a bracket stands here
  bracket_on : (built : Built) (param : Param) (spot : Slot) (place b c : ℕ) → b ≡ c → is_word_byte c ≡ false → (c == 34) ≡ false → Then Rest (bracket_at most built param spot place b) → Then Rest (start_at most built param spot place b)
  bracket_on built param spot place b c is no_word not_quote r =
      then_false Rest (is_word_byte b) _ _ (ap is_word_byte is ∙ no_word) (then_false Rest (b == 34) _ _ (ap (λ x. x == 34) is ∙ not_quote) r)

  opened_on : (built : Built) (place : ℕ) (next : Built) (now : Phase) → Rest (record { builder = next; phase = now; comment = false }) → Then Rest (opened most built place next now)
  opened_on built place next now r = by_test (Then Rest) (nat_lt (length built.open_braces) most) _ _ (λ _. r) (λ _. tt)

  block_on : (built : Built) (param : Param) (title : Option (List ℕ)) (place brace : ℕ) → brace ≡ place → After most size why (brace ∷ built.open_braces) t → Then Rest (block_opened most built param title place)
  block_on built param title place brace same after =
      opened_on built place (with_block built param.name param.place title place) phase.Between
      (subst (λ x. After most size why (x ∷ built.open_braces) t) same after)

  brace_here : (brace place b : ℕ) (rest : List ℕ) → rest ≡ t → brace + suc (length rest) ≡ size → place + length (b ∷ t) ≡ size → brace ≡ place
  brace_here brace place b rest e there at = omega (arith, ap length e)

  list_on : (built : Built) (param : Param) (place b : ℕ) → b ≡ 91 → CutGap most size why built.open_braces (phase.Start param (slot.Entry (record { bracket = place; entries = [] }))) t → Then Rest (start_at most built param slot.Value place b)
  list_on built param place b is r =
      bracket_on built param slot.Value place b 91 is refl refl (then_true Rest (b == 91) _ _ (eq-eqb b 91 is) (opened_on built place built _ r))

  value_on : (built : Built) (param : Param) (place b : ℕ) (value : Plain) (rest : List ℕ) → IsValue most (length built.open_braces) (b ∷ t) value rest → After most size why built.open_braces rest → Then Rest (start_at most built param slot.Value place b)
  value_on built param place b (word w) rest is after = word_on built param slot.Value place b w rest is (after.0, after.1, inl after.2)
  value_on built param place b (quoted q) rest is after = string_on built param slot.Value place b q rest is after
  value_on built param place b (list es) rest (few, inside, start, begins, gap, are) after =
      list_on built param place b (head_of b 91 t inside begins)
      (start, subst (λ x. IsGap x start) (tail_of b 91 t inside begins) gap, inl (es, rest, are, after))
  value_on built param place b (code c) rest is after = absurd is

  title_on : (built : Built) (param : Param) (place b : ℕ) (title : Option (List ℕ)) (rest : List ℕ) (brace : ℕ) → place + length (b ∷ t) ≡ size → length built.open_braces < most → IsOpening (b ∷ t) title rest → brace + suc (length rest) ≡ size → After most size why (brace ∷ built.open_braces) rest → Then Rest (start_at most built param slot.Value place b)
  title_on built param place b None rest brace at few begins there after =
      let is : b ≡ 123 = head_of b 123 t rest begins in
      let same = tail_of b 123 t rest begins in
      bracket_on built param slot.Value place b 123 is refl refl
      (then_false Rest (b == 91) _ _ (ap (λ x. x == 91) is)
      (then_true Rest (b == 123) _ _ (eq-eqb b 123 is)
      (block_on built param None place brace (brace_here brace place b rest same there at)
      (subst (λ x. After most size why (brace ∷ built.open_braces) x) same after))))
  title_on built param place b (Some title) rest brace at few (behind, is, titled, gap) there after =
      word_on built param slot.Value place b title behind is (123 ∷ rest, gap, inr (rest, brace, few, titled, refl, there, after))

  cut_value_on : (built : Built) (param : Param) (place b : ℕ) → place + length (b ∷ t) ≡ size → IsCutValue most size built.open_braces (b ∷ t) why → Then Rest (start_at most built param slot.Value place b)
  cut_value_on built param place b at (inl w) = let never = w.0 in cc
  cut_value_on built param place b at (inr (inl w)) = open_string_on built param slot.Value place b at w
  cut_value_on built param place b at (inr (inr (few, (inside, start, bracket, begins, there, gap, cut)))) =
      list_on built param place b (head_of b 91 t inside begins) (
        start,
        subst (λ x. IsGap x start) (tail_of b 91 t inside begins) gap,
        inr (subst (λ x. AreCutEntries size x start why) (same_place bracket place (length (b ∷ t)) size there at) cut),
      )

  -- an entry begins
  entry_on : (built : Built) (param : Param) (open_list : OpenList) (place b : ℕ) (e : Entry) (behind : List ℕ) → IsEntry (b ∷ t) e behind → CutBehindEntry most size why built.open_braces open_list.bracket behind → Then Rest (start_at most built param (slot.Entry open_list) place b)
  entry_on built param open_list place b (entry.word w) behind is follows =
      word_on built param (slot.Entry open_list) place b w behind is (follows.0, follows.1, inl follows.2)
  entry_on built param open_list place b (entry.quoted q) behind is follows = string_on built param (slot.Entry open_list) place b q behind is follows
  entry_on built param open_list place b (entry.pair key v) behind (after_key, colon, start, is, keyed, gap, gap2, scalar) follows =
      word_on built param (slot.Entry open_list) place b key after_key is
      (58 ∷ colon, gap, inr (colon, start, keyed, refl, gap2, inl (v, behind, scalar, follows)))
  entry_on built param open_list place b (entry.other value) behind is follows = absurd is

  entries_on : (built : Built) (param : Param) (open_list : OpenList) (place b : ℕ) (es : List Entry) (rest : List ℕ) → AreEntries (b ∷ t) es rest → After most size why built.open_braces rest → Then Rest (start_at most built param (slot.Entry open_list) place b)
  entries_on built param open_list place b [] rest begins after =
      let bracket : b ≡ 93 = head_of b 93 t rest begins in
      bracket_on built param (slot.Entry open_list) place b 93 bracket refl refl
      (then_true Rest (b == 93) _ _ (eq-eqb b 93 bracket) (subst (λ x. After most size why built.open_braces x) (tail_of b 93 t rest begins) after))
  entries_on built param open_list place b (e ∷ es) rest (behind, next, is, gap, follows) after =
      entry_on built param open_list place b e behind is (next, gap, inl (es, rest, follows, after))

  cut_entry_on : (built : Built) (param : Param) (open_list : OpenList) (place b : ℕ) → place + length (b ∷ t) ≡ size → IsCutEntry size open_list.bracket (b ∷ t) why → Then Rest (start_at most built param (slot.Entry open_list) place b)
  cut_entry_on built param open_list place b at (inl w) = let never = w.0 in cc
  cut_entry_on built param open_list place b at (inr (inl (e, behind, is, gap, f))) =
      entry_on built param open_list place b e behind is ([], gap, inr (inl (refl, f)))
  cut_entry_on built param open_list place b at (inr (inr (inl w))) = open_string_on built param (slot.Entry open_list) place b at w
  cut_entry_on built param open_list place b at (inr (inr (inr (key, behind, colon, value, is, keyed, gap, gap2, cut)))) =
      word_on built param (slot.Entry open_list) place b key behind is (58 ∷ colon, gap, inr (colon, value, keyed, refl, gap2, inr cut))

  cut_entries_on : (built : Built) (param : Param) (open_list : OpenList) (place b : ℕ) (es : List Entry) (here : List ℕ) → place + length (b ∷ t) ≡ size → PassesEntries (b ∷ t) es here → IsCutEntry size open_list.bracket here why → Then Rest (start_at most built param (slot.Entry open_list) place b)
  cut_entries_on built param open_list place b [] here at same cut =
      cut_entry_on built param open_list place b at (subst (λ x. IsCutEntry size open_list.bracket x why) same cut)
  cut_entries_on built param open_list place b (e ∷ es) here at (behind, next, comma, start, is, gap, begins, gap2, passes) cut =
      entry_on built param open_list place b e behind is (next, gap, inr (inr (comma, start, begins, gap2, (es, here, passes, cut))))

  start_on : (built : Built) (param : Param) (spot : Slot) (place b : ℕ) → place + length (b ∷ t) ≡ size → CutStart most size why built.open_braces spot (b ∷ t) → Then Rest (start_at most built param spot place b)
  start_on built param slot.Value place b at (inl (value, rest, is, after)) = value_on built param place b value rest is after
  start_on built param slot.Value place b at (inr (inl (title, rest, brace, few, opening, there, after))) =
      title_on built param place b title rest brace at few opening there after
  start_on built param slot.Value place b at (inr (inr cut)) = cut_value_on built param place b at cut
  start_on built param (slot.Entry open_list) place b at (inl (es, rest, are, after)) = entries_on built param open_list place b es rest are after
  start_on built param (slot.Entry open_list) place b at (inr (es, here, passes, cut)) = cut_entries_on built param open_list place b es here at passes cut
  start_on built param (slot.Pair open_list key) place b at (inl (scalar, rest, inl is, follows)) =
      word_on built param (slot.Pair open_list key) place b scalar rest is follows
  start_on built param (slot.Pair open_list key) place b at (inl (scalar, rest, inr is, follows)) =
      string_on built param (slot.Pair open_list key) place b scalar rest is follows
  start_on built param (slot.Pair open_list key) place b at (inr (inl w)) = let never = w.0 in cc
  start_on built param (slot.Pair open_list key) place b at (inr (inr w)) = open_string_on built param (slot.Pair open_list key) place b at w

  -- ---- behind a word

  part_begins : (b : ℕ) (braces : List ℕ) → IsCutLine most size braces (b ∷ t) why → (is_name_byte b ≡ true) ⊎ (b ≡ 125)
  part_begins b braces (inl w) = let never = w.0 in cc
  part_begins b braces (inr (inl w)) = inl w.2.0
  part_begins b braces (inr (inr w)) = inl w.3.2.0

  passes_begin : (b : ℕ) (braces : List ℕ) (all : List Line) (now here : List ℕ) → Passes most size braces (b ∷ t) all now here → IsCutLine most size now here why → (is_name_byte b ≡ true) ⊎ (b ≡ 125)
  passes_begin b braces [] now here (same, f) cut = part_begins b now (subst (λ x. IsCutLine most size now x why) f cut)
  passes_begin b braces (plain name p value ∷ more) now here w cut = inl w.3.1.2.0
  passes_begin b braces (block name p title ∷ more) now here w cut = inl w.3.3.2.0
  passes_begin b braces (closing ∷ more) now here w cut = inr (head_of b 125 t w.0 w.3.1)

  lines_begin : (b : ℕ) (braces : List ℕ) → CutLines most size why braces (b ∷ t) → (is_name_byte b ≡ true) ⊎ (b ≡ 125)
  lines_begin b braces (all, now, here, passes, cut) = passes_begin b braces all now here passes cut

  comma_begins : (b bracket : ℕ) (braces : List ℕ) → CutComma most size why braces bracket (b ∷ t) → (b ≡ 93) ⊎ (b ≡ 44)
  comma_begins b bracket braces (inl (es, rest, inl (none, begins), after)) = inl (head_of b 93 t rest begins)
  comma_begins b bracket braces (inl (es, rest, inr (comma, start, begins, gap, are), after)) = inr (head_of b 44 t comma begins)
  comma_begins b bracket braces (inr (inl w)) = let never = w.0 in cc
  comma_begins b bracket braces (inr (inr w)) = inr (head_of b 44 t w.0 w.2)

  behind_on : (built : Built) (param : Param) (spot : Slot) (text : List ℕ) (place b : ℕ) → place + length (b ∷ t) ≡ size → CutBehind most size why built.open_braces spot text (b ∷ t) → Then Rest (behind_at most built param spot text place b)
  behind_on built param slot.Value text place b at (inl cut) =
      then_false Rest (b == 123 && is_title text) _ _ (not_both (b == 123) (is_title text) (not_brace most size t [] b (lines_begin b built.open_braces cut)))
      (between_on (with_plain built param (word text)) place b cut.0 cut.1 cut.2 at cut.3 cut.4)
  behind_on built param slot.Value text place b at (inr (rest, brace, few, titled, begins, there, after)) =
      let same = tail_of b 123 t rest begins in
      then_true Rest (b == 123 && is_title text) _ _ (both_true (b == 123) (is_title text) (eq-eqb b 123 (head_of b 123 t rest begins)) titled)
      (block_on built param (Some text) place brace (brace_here brace place b rest same there at)
      (subst (λ x. After most size why (brace ∷ built.open_braces) x) same after))
  behind_on built param (slot.Entry open_list) text place b at (inl cut) =
      then_false Rest (b == 58 && is_key text) _ _ (not_both (b == 58) (is_key text) (not_colon most size t [] b (comma_begins b open_list.bracket built.open_braces cut)))
      (comma_on built param (with_entry open_list (entry.word text)) place b cut)
  behind_on built param (slot.Entry open_list) text place b at (inr (colon, first, keyed, begins, gap, cut)) =
      then_true Rest (b == 58 && is_key text) _ _ (both_true (b == 58) (is_key text) (eq-eqb b 58 (head_of b 58 t colon begins)) keyed)
      (first, subst (λ x. IsGap x first) (tail_of b 58 t colon begins) gap, cut)
  behind_on built param (slot.Pair open_list key) text place b at cut = comma_on built param (with_entry open_list (entry.pair key text)) place b cut

  -- ---- white space and comments

  cut_value_begins : (b : ℕ) (braces : List ℕ) → IsCutValue most size braces (b ∷ t) why → BeginsPiece b
  cut_value_begins b braces (inl w) = let never = w.0 in cc
  cut_value_begins b braces (inr (inl w)) = begins_at b 34 (head_of b 34 t w.0 w.2) (refl, refl)
  cut_value_begins b braces (inr (inr w)) = begins_at b 91 (head_of b 91 t w.1.0 w.1.3) (refl, refl)

  cut_entry_begins : (b bracket : ℕ) → IsCutEntry size bracket (b ∷ t) why → BeginsPiece b
  cut_entry_begins b bracket (inl w) = let never = w.0 in cc
  cut_entry_begins b bracket (inr (inl w)) = entry_begins most size t [] b w.0 w.1 w.2
  cut_entry_begins b bracket (inr (inr (inl w))) = begins_at b 34 (head_of b 34 t w.0 w.2) (refl, refl)
  cut_entry_begins b bracket (inr (inr (inr w))) = word_begins b w.4.0

  cut_entries_begin : (b bracket : ℕ) (es : List Entry) (here : List ℕ) → PassesEntries (b ∷ t) es here → IsCutEntry size bracket here why → BeginsPiece b
  cut_entries_begin b bracket [] here same cut = cut_entry_begins b bracket (subst (λ x. IsCutEntry size bracket x why) same cut)
  cut_entries_begin b bracket (e ∷ es) here w cut = entry_begins most size t [] b e w.0 w.4

  start_begins : (b : ℕ) (braces : List ℕ) (spot : Slot) → CutStart most size why braces spot (b ∷ t) → BeginsPiece b
  start_begins b braces slot.Value (inl (value, rest, is, after)) = value_begins most size t [] (length braces) b value rest is
  start_begins b braces slot.Value (inr (inl w)) = opening_begins most size t [] b w.0 w.1 w.4
  start_begins b braces slot.Value (inr (inr cut)) = cut_value_begins b braces cut
  start_begins b braces (slot.Entry open_list) (inl (es, rest, are, after)) = entries_begin most size t [] b es rest are
  start_begins b braces (slot.Entry open_list) (inr (es, here, passes, cut)) = cut_entries_begin b open_list.bracket es here passes cut
  start_begins b braces (slot.Pair open_list key) (inl (scalar, rest, is, follows)) = scalar_begins most size t [] b scalar rest is
  start_begins b braces (slot.Pair open_list key) (inr (inl w)) = let never = w.0 in cc
  start_begins b braces (slot.Pair open_list key) (inr (inr w)) = begins_at b 34 (head_of b 34 t w.0 w.2) (refl, refl)

  behind_begins : (b : ℕ) (braces : List ℕ) (spot : Slot) (text : List ℕ) → CutBehind most size why braces spot text (b ∷ t) → BeginsPiece b
  behind_begins b braces slot.Value text (inl cut) = line_begins most size t [] b (lines_begin b braces cut)
  behind_begins b braces slot.Value text (inr w) = begins_at b 123 (head_of b 123 t w.0 w.4) (refl, refl)
  behind_begins b braces (slot.Entry open_list) text (inl cut) = comma_piece most size t [] b (comma_begins b open_list.bracket braces cut)
  behind_begins b braces (slot.Entry open_list) text (inr w) = begins_at b 58 (head_of b 58 t w.0 w.3) (refl, refl)
  behind_begins b braces (slot.Pair open_list key) text cut = comma_piece most size t [] b (comma_begins b open_list.bracket braces cut)

  at_begins : (b : ℕ) (braces : List ℕ) (now : Phase) → CutAt most size why braces now (b ∷ t) → BeginsPiece b
  at_begins b braces phase.Between cut = line_begins most size t [] b (lines_begin b braces cut)
  at_begins b braces (phase.Colon param) (inl w) = begins_at b 58 (head_of b 58 t w.0 w.1) (refl, refl)
  at_begins b braces (phase.Colon param) (inr w) = let never = w.0 in cc
  at_begins b braces (phase.Start param spot) cut = start_begins b braces spot cut
  at_begins b braces (phase.Behind param spot text) cut = behind_begins b braces spot text cut
  at_begins b braces (phase.Comma param open_list) cut = comma_piece most size t [] b (comma_begins b open_list.bracket braces cut)
  at_begins b braces (phase.Name name start) cut = absurd cut
  at_begins b braces (phase.Word param spot text) cut = absurd cut
  at_begins b braces (phase.Quoted param spot quote text utf8) cut = absurd cut
  at_begins b braces (phase.Escape param spot quote text) cut = absurd cut
  at_begins b braces (phase.Code param raw utf8) cut = absurd cut
  at_begins b braces (phase.Semicolon param raw) cut = absurd cut

  gap_comment : (braces : List ℕ) (now : Phase) → ((text : List ℕ) → CutGap most size why braces now text → CutRest most size why braces now text) → (text start : List ℕ) → IsComment text start → CutAt most size why braces now start → BehindComment (λ x. CutRest most size why braces now x) text
  gap_comment braces now rest [] start c w = rest [] (start, c, w)
  gap_comment braces now rest (b ∷ text) start (inl c) w = inl (c.0, rest text (start, c.1, w))
  gap_comment braces now rest (b ∷ text) start (inr c) w = inr (c.0, gap_comment braces now rest text start c.1 w)

  gap_on : (built : Built) (now : Phase) (place b : ℕ) → ((text : List ℕ) → CutGap most size why built.open_braces now text → CutRest most size why built.open_braces now text) → (From built now b → Then Rest (piece_at most built now place b)) → CutGap most size why built.open_braces now (b ∷ t) → Then Rest (gap_at most built now place b)
  gap_on built now place b rest piece (start, inl same, w) =
      let here : From built now b = subst (λ x. CutAt most size why built.open_braces now x) same w in
      let begins = at_begins b built.open_braces now here in
      then_false Rest (is_space b) _ _ begins.0 (then_false Rest (b == 35) _ _ begins.1 (piece here))
  gap_on built now place b rest piece (start, inr (inl (h, gap)), w) = then_true Rest (is_space b) _ _ h (rest t (start, gap, w))
  gap_on built now place b rest piece (start, inr (inr (h, comment)), w) =
      then_false Rest (is_space b) _ _ (ap is_space h)
      (then_true Rest (b == 35) _ _ (eq-eqb b 35 h) (gap_comment built.open_braces now rest t start comment w))

  -- ---- names and words

  name_on : (built : Built) (name : List ℕ) (start place b : ℕ) → CutRest most size why built.open_braces (phase.Name name start) (b ∷ t) → Then Rest (name_at most built name start place b)
  name_on built name start place b (run, rest, inl (h, others, f, r), gap) =
      then_true Rest (is_name_byte b) _ _ h
      (others, rest, r, subst (λ x. CutGap most size why built.open_braces (phase.Colon (record { name = x; place = start })) rest) (ap (λ x. name ++ x) f ∙ sym (append_assoc name (b ∷ []) others)) gap)
  name_on built name start place b (run, rest, inr (h, none, same), gap) =
      let param : Param = record { name = name; place = start } in
      then_false Rest (is_name_byte b) _ _ h
      (gap_on built (phase.Colon param) place b (λ _ w. w) (colon_on built param place b)
      (subst (λ (x : List ℕ × List ℕ). CutGap most size why built.open_braces (phase.Colon (record { name = x.0; place = start })) x.1)
      (λ i. ((ap (λ x. name ++ x) none ∙ append-nil name) i, same i)) gap))

  word_on_more : (built : Built) (param : Param) (spot : Slot) (text : List ℕ) (place b : ℕ) → place + length (b ∷ t) ≡ size → CutRest most size why built.open_braces (phase.Word param spot text) (b ∷ t) → Then Rest (word_at most built param spot text place b)
  word_on_more built param spot text place b at (run, rest, inl (h, others, f, r), gap) =
      then_true Rest (is_word_byte b) _ _ h
      (others, rest, r, subst (λ x. CutGap most size why built.open_braces (phase.Behind param spot x) rest) (ap (λ x. text ++ x) f ∙ sym (append_assoc text (b ∷ []) others)) gap)
  word_on_more built param spot text place b at (run, rest, inr (h, none, same), gap) =
      then_false Rest (is_word_byte b) _ _ h
      (gap_on built (phase.Behind param spot text) place b (λ _ w. w) (behind_on built param spot text place b at)
      (subst (λ (x : List ℕ × List ℕ). CutGap most size why built.open_braces (phase.Behind param spot x.0) x.1)
      (λ i. ((ap (λ x. text ++ x) none ∙ append-nil text) i, same i)) gap))

  -- ---- strings

  string_ends : (built : Built) (param : Param) (spot : Slot) (text : List ℕ) → CutString most size why built.open_braces spot t → Then Rest (string_ended built param spot text)
  string_ends built param slot.Value text w = w
  string_ends built param (slot.Entry open_list) text w = w
  string_ends built param (slot.Pair open_list key) text w = w

  quoted_on : (built : Built) (param : Param) (spot : Slot) (quote : ℕ) (text : List ℕ) (utf8 : Utf8) (place b : ℕ) → CutRest most size why built.open_braces (phase.Quoted param spot quote text utf8) (b ∷ t) → Then Rest (quoted_at built param spot quote text utf8 place b)
  quoted_on built param spot quote text utf8 place b (inl (string, rest, inl (is, none, same), done, follows)) =
      then_true Rest (is_whole utf8 && b == 34) _ _
      (both_true (is_whole utf8) (b == 34) (subst (λ x. completes utf8 x ≡ true) none done) (eq-eqb b 34 is))
      (string_ends built param spot text (subst (λ x. CutString most size why built.open_braces spot x) same follows))
  quoted_on built param spot quote text utf8 place b (inl (string, rest, inr (inl (is, escape)), done, follows)) =
      let here = escape_whole most size t [] utf8 t string rest escape done in
      then_false Rest (is_whole utf8 && b == 34) _ _ (not_both_right (is_whole utf8) (b == 34) (ap (λ x. x == 34) is))
      (then_true Rest (is_whole utf8 && b == 92) _ _ (both_true (is_whole utf8) (b == 92) here (eq-eqb b 92 is))
      (inl (string, rest, escape, subst (λ u. completes u string ≡ true) (whole_is utf8 here) done, follows)))
  quoted_on built param spot quote text utf8 place b (inl (string, rest, inr (inr (plain_, others, f, is)), done, follows)) =
      let tests = either_false (b == 34) (b == 92) plain_ in
      let parts = completes_parts utf8 b others (subst (λ x. completes utf8 x ≡ true) f done) in
      then_false Rest (is_whole utf8 && b == 34) _ _ (not_both_right (is_whole utf8) (b == 34) tests.0)
      (then_false Rest (is_whole utf8 && b == 92) _ _ (not_both_right (is_whole utf8) (b == 92) tests.1)
      (then_next Rest built (utf8_after utf8 b) parts.0 _ place parts.1 (inl (others, rest, is, parts.2, follows))))
  quoted_on built param spot quote text utf8 place b (inr (unended, f)) =
      by_test (Then Rest) (is_whole utf8 && b == 34) _ _
      (λ h. absurd (unended [] t (inl (eqb-true b 34 (both (is_whole utf8) (b == 34) h).1, refl, refl))))
      (λ going. by_test (Then Rest) (is_whole utf8 && b == 92) _ _
      (λ h. inr (λ string rest w. unended string rest (inr (inl (eqb-true b 92 (both (is_whole utf8) (b == 92) h).1, w))), f))
      (λ plain_. by_next (Then Rest) built (utf8_after utf8 b) _ place tt
      (λ v e. inr (
        λ string rest w. unended (b ∷ string) rest
            (inr (inr (neither (b == 34) (b == 92) (apart utf8 v b 34 no_quote going e) (apart utf8 v b 92 no_backslash plain_ e), string, refl, w))),
        f,
      ))))

  escape_on : (built : Built) (param : Param) (spot : Slot) (quote : ℕ) (text : List ℕ) (place b : ℕ) → CutRest most size why built.open_braces (phase.Escape param spot quote text) (b ∷ t) → Then Rest (escape_at built param spot quote text place b)
  escape_on built param spot quote text place b (inl (string, rest, (others, f, is), done, follows)) =
      let parts = completes_parts utf.Whole b others (unescaped_parts utf.Whole b others (subst (λ x. completes utf.Whole x ≡ true) f done)).1 in
      then_next Rest built (utf8_after utf.Whole b) parts.0 _ place parts.1 (inl (others, rest, is, parts.2, follows))
  escape_on built param spot quote text place b (inr (unended, f)) =
      by_next (Then Rest) built (utf8_after utf.Whole b) _ place tt
      (λ v e. inr (λ string rest w. unended (unescaped b ++ string) rest (string, refl, w), f))

  -- ---- code

  code_on : (built : Built) (param : Param) (raw : List ℕ) (utf8 : Utf8) (place b : ℕ) → CutRest most size why built.open_braces (phase.Code param raw utf8) (b ∷ t) → Then Rest (code_at built param raw utf8 place b)
  code_on built param raw utf8 place b (inl (kept, rest, inl (is, ends), done, after)) =
      let here = semicolon_whole most size t [] utf8 t kept rest ends done in
      then_true Rest (is_whole utf8 && b == 59) _ _ (both_true (is_whole utf8) (b == 59) here (eq-eqb b 59 is))
      (inl (kept, rest, ends, subst (λ u. completes u kept ≡ true) (whole_is utf8 here) done, after))
  code_on built param raw utf8 place b (inl (kept, rest, inr (isnt, others, f, is), done, after)) =
      let parts = completes_parts utf8 b others (subst (λ x. completes utf8 x ≡ true) f done) in
      then_false Rest (is_whole utf8 && b == 59) _ _ (not_both_right (is_whole utf8) (b == 59) isnt)
      (then_next Rest built (utf8_after utf8 b) parts.0 _ place parts.1 (inl (others, rest, is, parts.2, after)))
  code_on built param raw utf8 place b (inr (unended, f)) =
      by_test (Then Rest) (is_whole utf8 && b == 59) _ _
      (λ h. inr (λ kept rest w. unended kept rest (inl (eqb-true b 59 (both (is_whole utf8) (b == 59) h).1, w)), f))
      (λ going. by_next (Then Rest) built (utf8_after utf8 b) _ place tt
      (λ v e. inr (λ kept rest w. unended (b ∷ kept) rest (inr (apart utf8 v b 59 no_semicolon going e, kept, refl, w)), f)))

  semicolon_on : (built : Built) (param : Param) (raw : List ℕ) (place b : ℕ) → CutRest most size why built.open_braces (phase.Semicolon param raw) (b ∷ t) → Then Rest (semicolon_at built param raw place b)
  semicolon_on built param raw place b (inl (kept, rest, inl (is, none, same), done, after)) =
      then_true Rest (b == 59) _ _ (eq-eqb b 59 is) (subst (λ x. After most size why built.open_braces x) same after)
  semicolon_on built param raw place b (inl (kept, rest, inr (isnt, others, f, is), done, after)) =
      let goes : completes utf.Whole (b ∷ others) ≡ true = subst (λ x. completes utf.Whole x ≡ true) f done in
      let parts = completes_parts utf.Whole b others goes in
      then_false Rest (b == 59) _ _ isnt
      (then_next Rest built (utf8_after utf.Whole b) parts.0 _ place parts.1 (inl (others, rest, is, parts.2, after)))
  semicolon_on built param raw place b (inr (unended, f)) =
      by_test (Then Rest) (b == 59) _ _
      (λ h. absurd (unended [] t (inl (eqb-true b 59 h, refl, refl))))
      (λ isnt. by_next (Then Rest) built (utf8_after utf.Whole b) _ place tt
      (λ v e. inr (λ kept rest w. unended (59 ∷ b ∷ kept) rest (inr (isnt, kept, refl, w)), f)))

  -- ---- steps

  step_at_on : (built : Built) (now : Phase) (place b : ℕ) → place + length (b ∷ t) ≡ size → CutRest most size why built.open_braces now (b ∷ t) → Then Rest (step_at most built now place b)
  step_at_on built (phase.Name name start) place b at w = name_on built name start place b w
  step_at_on built (phase.Word param spot text) place b at w = word_on_more built param spot text place b at w
  step_at_on built (phase.Quoted param spot quote text utf8) place b at w = quoted_on built param spot quote text utf8 place b w
  step_at_on built (phase.Escape param spot quote text) place b at w = escape_on built param spot quote text place b w
  step_at_on built (phase.Code param raw utf8) place b at w = code_on built param raw utf8 place b w
  step_at_on built (phase.Semicolon param raw) place b at w = semicolon_on built param raw place b w
  step_at_on built phase.Between place b at w = gap_on built phase.Between place b (λ _ x. x) (λ x. between_on built place b x.0 x.1 x.2 at x.3 x.4) w
  step_at_on built (phase.Colon param) place b at w = gap_on built (phase.Colon param) place b (λ _ x. x) (colon_on built param place b) w
  step_at_on built (phase.Start param spot) place b at w = gap_on built (phase.Start param spot) place b (λ _ x. x) (start_on built param spot place b at) w
  step_at_on built (phase.Behind param spot text) place b at w = gap_on built (phase.Behind param spot text) place b (λ _ x. x) (behind_on built param spot text place b at) w
  step_at_on built (phase.Comma param open_list) place b at w = gap_on built (phase.Comma param open_list) place b (λ _ x. x) (comma_on built param open_list place b) w

  comment_on : (built : Built) (now : Phase) (b : ℕ) (c : Bool) → (b == 10) ≡ c → IsCut most size why (record { builder = built; phase = now; comment = true }) (b ∷ t) → Rest (record { builder = built; phase = now; comment = not c })
  comment_on built now b true h (inl (is, w)) = w
  comment_on built now b true h (inr (isnt, w)) = cc
  comment_on built now b false h (inl (is, w)) = let no : (b == 10) ≡ true = eq-eqb b 10 is in cc
  comment_on built now b false h (inr (isnt, w)) = w

  -- a text that breaks off breaks off behind its first byte, where the reader goes on over that
  pub step_on : (built : Built) (now : Phase) (comment : Bool) (place b : ℕ) → place + length (b ∷ t) ≡ size → IsCut most size why (record { builder = built; phase = now; comment = comment }) (b ∷ t) → Then Rest (step most (record { builder = built; phase = now; comment = comment }) place b)
  step_on built now true place b at w = comment_on built now b (b == 10) refl w
  step_on built now false place b at w = step_at_on built now place b at w

-- ---- the end of the text

module _ (most size : ℕ) (why : ReadFault) where
  missing_end : (braces : List ℕ) → IsMissing size braces why → missing (first_of braces) size ≡ Err why
  missing_end [] f = ap Err (sym f)
  missing_end (brace ∷ outer) f = ap Err (sym f)

  part_end : (lines : List Line) (braces : List ℕ) → IsCutLine most size braces [] why → whole (record { lines = lines; open_braces = braces }) (first_of braces) ≡ Err why
  part_end lines braces (inl (none, brace, outer, e, f)) =
      subst (λ x. whole (record { lines = lines; open_braces = x }) (first_of x) ≡ Err why) (sym e) (ap Err (sym f))
  part_end lines braces (inr (inl w)) = absurd w.2
  part_end lines braces (inr (inr w)) = absurd w.3.2

  passes_end : (lines : List Line) (braces : List ℕ) (all : List Line) (now here : List ℕ) → Passes most size braces [] all now here → IsCutLine most size now here why → whole (record { lines = lines; open_braces = braces }) (first_of braces) ≡ Err why
  passes_end lines braces [] now here (same, f) cut =
      part_end lines braces (subst (λ (x : List ℕ × List ℕ). IsCutLine most size x.0 x.1 why) (λ i. (same i, f i)) cut)
  passes_end lines braces (line ∷ more) now here w cut = absurd (no_line most size (length braces) line w.0 w.3)

  lines_end : (lines : List Line) (braces text : List ℕ) → text ≡ [] → CutLines most size why braces text → whole (record { lines = lines; open_braces = braces }) (first_of braces) ≡ Err why
  lines_end lines braces text none cut =
      passes_end lines braces cut.0 cut.1 cut.2 (subst (λ x. Passes most size braces x cut.0 cut.1 cut.2) none cut.3) cut.4

  comma_end : (braces : List ℕ) (bracket : ℕ) → CutComma most size why braces bracket [] → fault.R2 bracket ≡ why
  comma_end braces bracket (inl (es, rest, inl (none, begins), after)) = cc
  comma_end braces bracket (inl (es, rest, inr (comma, start, begins, gap, are), after)) = cc
  comma_end braces bracket (inr (inl (none, f))) = sym f
  comma_end braces bracket (inr (inr (comma, start, begins, gap, cut))) = cc

  no_open_string : IsOpenString size [] why → ⊥
  no_open_string (raw, place, begins, there, unended, f) = cc

  entry_end : (bracket : ℕ) → IsCutEntry size bracket [] why → fault.R2 bracket ≡ why
  entry_end bracket (inl (none, f)) = sym f
  entry_end bracket (inr (inl (e, behind, is, gap, f))) = sym f
  entry_end bracket (inr (inr (inl w))) = absurd (no_open_string w)
  entry_end bracket (inr (inr (inr w))) = absurd w.4

  entries_end : (bracket : ℕ) (es : List Entry) (here : List ℕ) → PassesEntries [] es here → IsCutEntry size bracket here why → fault.R2 bracket ≡ why
  entries_end bracket [] here same cut = entry_end bracket (subst (λ x. IsCutEntry size bracket x why) same cut)
  entries_end bracket (e ∷ es) here w cut = absurd (no_entry most size e w.0 w.4)

  start_ends : (built : Built) (spot : Slot) → CutStart most size why built.open_braces spot [] → start_end built spot size ≡ Err why
  start_ends built slot.Value (inl (value, rest, is, after)) = absurd (no_value most size (length built.open_braces) value rest is)
  start_ends built slot.Value (inr (inl w)) = absurd (no_opening most size w.0 w.1 w.4)
  start_ends built slot.Value (inr (inr (inl (none, lacks)))) = missing_end built.open_braces lacks
  start_ends built slot.Value (inr (inr (inr (inl w)))) = absurd (no_open_string w)
  start_ends built slot.Value (inr (inr (inr (inr w)))) = let never = w.1.3 in cc
  start_ends built (slot.Entry open_list) (inl (es, rest, are, after)) = absurd (no_entries most size es rest are)
  start_ends built (slot.Entry open_list) (inr (es, here, passes, cut)) = ap Err (entries_end open_list.bracket es here passes cut)
  start_ends built (slot.Pair open_list key) (inl (scalar, rest, is, follows)) = absurd (no_scalar most size scalar rest is)
  start_ends built (slot.Pair open_list key) (inr (inl (none, f))) = ap Err (sym f)
  start_ends built (slot.Pair open_list key) (inr (inr w)) = absurd (no_open_string w)

  word_ends : (built : Built) (param : Param) (spot : Slot) (text other : List ℕ) → CutBehind most size why built.open_braces spot other [] → word_end built param spot text ≡ Err why
  word_ends built param slot.Value text other (inl cut) = lines_end (built.lines ++ plain param.name param.place (word text) ∷ []) built.open_braces [] refl cut
  word_ends built param slot.Value text other (inr w) = let never = w.4 in cc
  word_ends built param (slot.Entry open_list) text other (inl cut) = ap Err (comma_end built.open_braces open_list.bracket cut)
  word_ends built param (slot.Entry open_list) text other (inr w) = let never = w.3 in cc
  word_ends built param (slot.Pair open_list key) text other cut = ap Err (comma_end built.open_braces open_list.bracket cut)

  colon_ends : (built : Built) (param : Param) (start : List ℕ) → start ≡ [] → CutAt most size why built.open_braces (phase.Colon param) start → missing (first_of built.open_braces) size ≡ Err why
  colon_ends built param start none (inl (content, begins, cut)) = cc
  colon_ends built param start none (inr (_, lacks)) = missing_end built.open_braces lacks

  -- a text that breaks off at its end has the fault that the reader names there
  pub end_on : (built : Built) (now : Phase) → CutRest most size why built.open_braces now [] → end_at built now size ≡ Err why
  end_on built phase.Between (start, none, cut) = lines_end built.lines built.open_braces start none cut
  end_on built (phase.Name name begun_) (run, rest, (no_run, no_rest), (start, gap, cut)) =
      colon_ends built (record { name = name ++ run; place = begun_ }) start (subst (λ x. IsGap x start) no_rest gap) cut
  end_on built (phase.Colon param) (start, none, cut) = colon_ends built param start none cut
  end_on built (phase.Start param spot) (start, none, cut) = start_ends built spot (subst (λ x. CutStart most size why built.open_braces spot x) none cut)
  end_on built (phase.Word param spot text) (run, rest, (no_run, no_rest), (start, gap, cut)) =
      let none : start ≡ [] = subst (λ x. IsGap x start) no_rest gap in
      word_ends built param spot text (text ++ run) (subst (λ x. CutBehind most size why built.open_braces spot (text ++ run) x) none cut)
  end_on built (phase.Behind param spot text) (start, none, cut) =
      word_ends built param spot text text (subst (λ x. CutBehind most size why built.open_braces spot text x) none cut)
  end_on built (phase.Comma param open_list) (start, none, cut) =
      ap Err (comma_end built.open_braces open_list.bracket (subst (λ x. CutComma most size why built.open_braces open_list.bracket x) none cut))
  end_on built (phase.Quoted param spot quote text utf8) (inl w) = absurd w.2
  end_on built (phase.Quoted param spot quote text utf8) (inr (unended, f)) = ap Err (sym f)
  end_on built (phase.Escape param spot quote text) (inl w) = absurd w.2
  end_on built (phase.Escape param spot quote text) (inr (unended, f)) = ap Err (sym f)
  end_on built (phase.Code param raw utf8) (inl w) = absurd w.2
  end_on built (phase.Code param raw utf8) (inr (unended, f)) = ap Err (sym f)
  end_on built (phase.Semicolon param raw) (inl w) = absurd w.2
  end_on built (phase.Semicolon param raw) (inr (unended, f)) = ap Err (sym f)

  pub without_comment : (built : Built) (now : Phase) (comment : Bool) → IsCut most size why (record { builder = built; phase = now; comment = comment }) [] → CutRest most size why built.open_braces now []
  without_comment built now true h = h
  without_comment built now false h = h
