-- The canonical text of a valid tree spells it, places aside.
use Rattle.std.proofs.Common.{◌≡◌, ℕ, suc, Bool, true, false, ◌&&◌, ◌==◌, cond, ◌-◌, ◌<◌, ◌≤◌, List, [], ◌∷◌, ◌++◌, inl, inr, Option, Some, None, Result, Ok, Err, IfOk, length, codes, refl, sym, ap, ◌∙◌, subst, arith, append_assoc, length-append}
use Rattle.std.proofs.lemmas.Bool.{eqb-true}
use Rattle.std.proofs.lemmas.List.{append-nil}
use Rattle.lk_read.specs.Entry.{Entry}
use Rattle.lk_read.specs.Entry as entry
use Rattle.lk_read.specs.Outline.{Plain, word, quoted, list, code, Outline, no_more, leaf, branch, is_no_more}
use Rattle.lk_read.specs.Lines.{Line, lines, closing}
use Rattle.lk_read.specs.Bytes.{is_space, is_name_byte, is_word_byte, is_code_name}
use Rattle.lk_utf8.specs.Utf8.{is_text}
use Rattle.lk_read.specs.Grammar.{IsGap, IsRun, IsWhole, IsQuoted, IsString, IsCode, IsSemicolon, IsEntry, AreEntries, IsContent, IsOpening, IsNamed, AreLines, IsFile, without_front, with_front, without_end, trimmed, is_escaped}
use Rattle.lk_read.specs.Canonical.{characters, escaped, string_text, entry_text, further_entries, entries_text, plain_text, title_text, start_text, block_text, text_at, canonical, unplaced, SpellsAgain}
use Rattle.lk_read.proofs.Valid.{AreOf, IsOf, NoEnd, NotTwo, ValidEntry, ValidEntries, ValidPlain, ValidTitle, Valid, valid, Begun, front_begun}
use Rattle.lk_utf8.specs.declared.utf8.Utf8.{Utf8}
use Rattle.lk_utf8.specs.declared.utf8.Utf8.TheVariants as utf
use Rattle.lk_utf8.specs.Utf8.{completes}
use Rattle.lk_utf8.proofs.CompletionLaws.{completes_parts, completes_more, whole_is}

gap_none : (text : List ℕ) → IsGap text text
gap_none [] = refl
gap_none (b ∷ text) = inl refl

-- ---- pieces

run_of : (is_kind : ℕ → Bool) (run : List ℕ) (b : ℕ) (rest : List ℕ) → AreOf is_kind run → is_kind b ≡ false → IsRun is_kind (run ++ b ∷ rest) run (b ∷ rest)
run_of is_kind [] b rest w h = inr (h, refl, refl)
run_of is_kind (c ∷ run) b rest w h = inl (w.0, run, refl, run_of is_kind run b rest w.1 h)

whole_of : (is_kind : ℕ → Bool) (run : List ℕ) (b : ℕ) (rest : List ℕ) → IsOf is_kind run → is_kind b ≡ false → IsWhole is_kind (run ++ b ∷ rest) run (b ∷ rest)
whole_of is_kind [] b rest w h = absurd w
whole_of is_kind (c ∷ run) b rest w h = (w.0, run, refl, run_of is_kind run b rest w.1 h)

character_of : (b : ℕ) (text raw rest : List ℕ) → IsQuoted raw text rest → IsQuoted (escaped b ++ raw) (b ∷ text) rest
character_of b text raw rest q = by_escape (is_escaped b) refl
  where
    by_escape : (c : Bool) → is_escaped b ≡ c → IsQuoted (cond c (92 ∷ b ∷ []) (b ∷ []) ++ raw) (b ∷ text) rest
    by_escape true e = inr (inl (refl, (text, ap (λ c. cond c (b ∷ []) (92 ∷ b ∷ []) ++ text) (sym e), q)))
    by_escape false e = inr (inr (e, text, refl, q))

quoted_of : (text rest : List ℕ) → IsQuoted (characters text ++ 34 ∷ rest) text rest
quoted_of [] rest = inl (refl, refl, refl)
quoted_of (b ∷ text) rest =
    subst (λ x. IsQuoted x (b ∷ text) rest) (sym (append_assoc (escaped b) (characters text) (34 ∷ rest)))
    (character_of b text (characters text ++ 34 ∷ rest) rest (quoted_of text rest))

string_of : (text rest : List ℕ) → is_text text ≡ true → IsString (string_text text ++ rest) text rest
string_of text rest h =
    (characters text ++ 34 ∷ rest, ap (λ x. 34 ∷ x) (append_assoc (characters text) (34 ∷ []) rest), quoted_of text rest, h)

space_before : (text : List ℕ) → IsGap (32 ∷ text) text
space_before text = inr (inl (refl, gap_none text))

-- ---- lists

entry_of : (e : Entry) (b : ℕ) (rest : List ℕ) → ValidEntry e → is_word_byte b ≡ false → IsEntry (entry_text e ++ b ∷ rest) e (b ∷ rest)
entry_of (entry.word w) b rest v h = whole_of is_word_byte w b rest v h
entry_of (entry.quoted q) b rest v h = string_of q (b ∷ rest) v
entry_of (entry.pair key s) b rest v h =
    subst (λ x. IsEntry x (entry.pair key s) (b ∷ rest))
    (sym (append_assoc (key ++ codes ": ") (string_text s) (b ∷ rest) ∙ append_assoc key (codes ": ") (string_text s ++ b ∷ rest))) (
      58 ∷ 32 ∷ (string_text s ++ b ∷ rest),
      32 ∷ (string_text s ++ b ∷ rest),
      string_text s ++ b ∷ rest,
      whole_of is_word_byte key 58 (32 ∷ (string_text s ++ b ∷ rest)) v.0 refl,
      v.1,
      inl refl,
      space_before (string_text s ++ b ∷ rest),
      inr (string_of s (b ∷ rest) v.2),
    )
entry_of (entry.other value) b rest v h = absurd v

entries_of : (e : Entry) (es : List Entry) (rest : List ℕ) → ValidEntries (e ∷ es) → AreEntries (entries_text (e ∷ es) ++ 93 ∷ rest) (e ∷ es) rest
entries_of e [] rest v =
    subst (λ x. AreEntries (x ++ 93 ∷ rest) (e ∷ []) rest) (sym (append-nil (entry_text e)))
    (93 ∷ rest, 93 ∷ rest, entry_of e 93 rest v.0 refl, inl refl, inl (refl, refl))
entries_of e (f ∷ es) rest v =
    let others = entries_text (f ∷ es) ++ 93 ∷ rest in
    subst (λ x. AreEntries x (e ∷ f ∷ es) rest) (sym (append_assoc (entry_text e) (further_entries (f ∷ es)) (93 ∷ rest))) (
      44 ∷ 32 ∷ others,
      44 ∷ 32 ∷ others,
      entry_of e 44 (32 ∷ others) v.0 refl,
      inl refl,
      inr (32 ∷ others, others, refl, space_before others, entries_of f es rest v.1),
    )

list_of : (es : List Entry) (rest : List ℕ) → ValidEntries es → AreEntries (entries_text es ++ 93 ∷ rest) es rest
list_of [] rest v = refl
list_of (e ∷ es) rest v = entries_of e es rest v

-- ---- code

abbrev FirstNot : List ℕ → Type 0
FirstNot [] = Unit {0}
FirstNot (c ∷ text) = (c == 59) ≡ false

first_not : (b : ℕ) (text : List ℕ) → (b == 59) ≡ true → NotTwo b text → FirstNot text
first_not b [] e w = tt
first_not b (c ∷ text) e w = sym (ap (λ x. x && (c == 59)) e) ∙ w

code_step : (b : ℕ) (text rest : List ℕ) (e : Bool) → (b == 59) ≡ e → NoEnd (b ∷ text) → IsCode (text ++ 32 ∷ 59 ∷ 59 ∷ rest) (text ++ 32 ∷ []) rest → (FirstNot text → IsSemicolon (text ++ 32 ∷ 59 ∷ 59 ∷ rest) (59 ∷ (text ++ 32 ∷ [])) rest) → IsCode (b ∷ (text ++ 32 ∷ 59 ∷ 59 ∷ rest)) (b ∷ (text ++ 32 ∷ [])) rest
code_step b text rest true e w k s =
    let is = eqb-true b 59 e in
    inl (is, subst (λ x. IsSemicolon (text ++ 32 ∷ 59 ∷ 59 ∷ rest) (x ∷ (text ++ 32 ∷ [])) rest) (sym is) (s (first_not b text e w.0)))
code_step b text rest false e w k s = inr (e, text ++ 32 ∷ [], refl, k)

mutual
  code_ends : (text rest : List ℕ) → NoEnd text → IsCode (text ++ 32 ∷ 59 ∷ 59 ∷ rest) (text ++ 32 ∷ []) rest
  code_ends [] rest w = inr (refl, [], refl, inl (refl, inl (refl, refl, refl)))
  code_ends (b ∷ text) rest w = code_step b text rest (b == 59) refl w (code_ends text rest w.1) (semicolon_ends text rest w.1)

  semicolon_ends : (text rest : List ℕ) → NoEnd text → FirstNot text → IsSemicolon (text ++ 32 ∷ 59 ∷ 59 ∷ rest) (59 ∷ (text ++ 32 ∷ [])) rest
  semicolon_ends [] rest w h = inr (refl, [], refl, inl (refl, inl (refl, refl, refl)))
  semicolon_ends (c ∷ text) rest w h = inr (h, text ++ 32 ∷ [], refl, code_ends text rest w.1)

without_end_space : (text : List ℕ) → without_end (text ++ 32 ∷ []) ≡ without_end text
without_end_space [] = refl
without_end_space (b ∷ text) = ap (with_front b) (without_end_space text)

front_with_space : (text : List ℕ) → without_front text ≡ text → without_end (without_front (text ++ 32 ∷ [])) ≡ without_end text
front_with_space [] h = refl
front_with_space (b ∷ text) h = by_space (is_space b) refl
  where
    by_space : (c : Bool) → is_space b ≡ c → without_end (cond c (without_front (text ++ 32 ∷ [])) (b ∷ (text ++ 32 ∷ []))) ≡ without_end (b ∷ text)
    by_space true e =
        let begun_ = subst Begun (ap (λ c. cond c (without_front text) (b ∷ text)) (sym e) ∙ h) (front_begun text) in cc
    by_space false e = ap (with_front b) (without_end_space text)

-- code between spaces is trimmed to itself
trimmed_code : (text : List ℕ) → without_front text ≡ text → without_end text ≡ text → text ≡ trimmed (32 ∷ (text ++ 32 ∷ []))
trimmed_code text front end = sym (front_with_space text front ∙ end)

completes_space : (u : Utf8) (text : List ℕ) → completes u text ≡ true → completes u (text ++ 32 ∷ []) ≡ true
completes_space u [] h = subst (λ x. completes x (32 ∷ []) ≡ true) (sym (whole_is u h)) refl
completes_space u (b ∷ text) h =
    let p = completes_parts u b text h in completes_more u p.0 b (text ++ 32 ∷ []) p.1 (completes_space p.0 text p.2)

-- ---- lines

gap_margin : (margin text : List ℕ) → AreOf is_space margin → IsGap (margin ++ text) text
gap_margin [] text w = gap_none text
gap_margin (b ∷ margin) text w = inr (inl (w.0, gap_margin margin text w.1))

deeper : (margin : List ℕ) → AreOf is_space margin → AreOf is_space (margin ++ 32 ∷ 32 ∷ [])
deeper [] w = (refl, (refl, tt))
deeper (b ∷ margin) w = (w.0, deeper margin w.1)

start_before : (margin name text : List ℕ) → start_text margin name ++ text ≡ margin ++ (name ++ 58 ∷ 32 ∷ text)
start_before margin name text = append_assoc (margin ++ name) (codes ": ") text ∙ append_assoc margin name (58 ∷ 32 ∷ text)

named_of : (size : ℕ) (name text : List ℕ) → IsOf is_name_byte name → length (name ++ 58 ∷ 32 ∷ text) ≤ size → IsNamed size (name ++ 58 ∷ 32 ∷ text) name (size - length (name ++ 58 ∷ 32 ∷ text)) (32 ∷ text)
named_of size name text w le = (58 ∷ 32 ∷ text, omega arith, whole_of is_name_byte name 58 (32 ∷ text) w refl, inl refl)

content_of : (most depth : ℕ) (name : List ℕ) (value : Plain) (text : List ℕ) → ValidPlain most depth name value → IsContent most depth name (32 ∷ (plain_text value ++ 10 ∷ text)) value (10 ∷ text)
content_of most depth name (word w) text v = (v.0, w ++ 10 ∷ text, space_before (w ++ 10 ∷ text), whole_of is_word_byte w 10 text v.1 refl)
content_of most depth name (quoted q) text v =
    (v.0, string_text q ++ 10 ∷ text, space_before (string_text q ++ 10 ∷ text), string_of q (10 ∷ text) v.1)
content_of most depth name (list es) text v =
    let inside = (entries_text es ++ 93 ∷ []) ++ 10 ∷ text in (
      v.0,
      91 ∷ inside,
      space_before (91 ∷ inside),
      (
        v.1,
        inside,
        inside,
        refl,
        gap_none inside,
        subst (λ x. AreEntries x es (10 ∷ text)) (sym (append_assoc (entries_text es) (93 ∷ []) (10 ∷ text))) (list_of es (10 ∷ text) v.2),
      ),
    )
content_of most depth name (code c) text v = (
  v.0,
  32 ∷ (c ++ 32 ∷ []),
  inr (refl, c ++ 32 ∷ [], refl, subst (λ x. IsCode x (c ++ 32 ∷ []) (10 ∷ text)) (sym (append_assoc c (codes " ;;") (10 ∷ text))) (code_ends c (10 ∷ text) v.1.no_end)),
  completes_space utf.Whole c v.1.utf8,
  trimmed_code c v.1.front v.1.end,
)

opening_of : (title : Option (List ℕ)) (text : List ℕ) → ValidTitle title → IsOpening (title_text title ++ 123 ∷ text) title text
opening_of None text v = refl
opening_of (Some title) text v =
    subst (λ x. IsOpening x (Some title) text) (sym (append_assoc title (32 ∷ []) (123 ∷ text)))
    (32 ∷ 123 ∷ text, whole_of is_word_byte title 32 (123 ∷ text) v.0 refl, v.1, space_before (123 ∷ text))

-- ---- trees

-- the text, from where so many blocks are open, spells these lines behind white space
abbrev Follows : ℕ → ℕ → ℕ → List ℕ → List Line → Type 0
Follows most size depth text more = (start : List ℕ) × IsGap text start × AreLines most size depth start more

-- the text spells the tree, places aside, and then these lines
abbrev SpellsTree : ℕ → ℕ → ℕ → Outline → List ℕ → List Line → Type 0
SpellsTree most size depth tree text more =
    (again : Outline) × (unplaced again ≡ unplaced tree) × Follows most size depth text (lines again ++ more)

leaf_text : (margin name : List ℕ) (value : Plain) (others rest : List ℕ) → (start_text margin name ++ plain_text value ++ 10 ∷ others) ++ rest ≡ margin ++ (name ++ 58 ∷ 32 ∷ (plain_text value ++ 10 ∷ (others ++ rest)))
leaf_text margin name value others rest =
    append_assoc (start_text margin name ++ plain_text value) (10 ∷ others) rest
    ∙ append_assoc (start_text margin name) (plain_text value) (10 ∷ (others ++ rest))
    ∙ start_before margin name (plain_text value ++ 10 ∷ (others ++ rest))

branch_text : (margin name : List ℕ) (title : Option (List ℕ)) (inside others rest : List ℕ) → (start_text margin name ++ title_text title ++ inside ++ others) ++ rest ≡ margin ++ (name ++ 58 ∷ 32 ∷ (title_text title ++ (inside ++ (others ++ rest))))
branch_text margin name title inside others rest =
    append_assoc (start_text margin name ++ title_text title ++ inside) others rest
    ∙ append_assoc (start_text margin name ++ title_text title) inside (others ++ rest)
    ∙ append_assoc (start_text margin name) (title_text title) (inside ++ (others ++ rest))
    ∙ start_before margin name (title_text title ++ (inside ++ (others ++ rest)))

module _ (most size : ℕ) where
  leaf_of : (depth : ℕ) (margin name : List ℕ) (value : Plain) (rest : Outline) (text : List ℕ) (more : List Line) → AreOf is_space margin → IsOf is_name_byte name → ValidPlain most depth name value → length (name ++ 58 ∷ 32 ∷ (plain_text value ++ 10 ∷ text)) ≤ size → SpellsTree most size depth rest text more → (place : ℕ) → SpellsTree most size depth (leaf name place value rest) (margin ++ (name ++ 58 ∷ 32 ∷ (plain_text value ++ 10 ∷ text))) more
  leaf_of depth margin name value rest text more spaces n v le (again, same, (start, gap, are)) place =
      let here = name ++ 58 ∷ 32 ∷ (plain_text value ++ 10 ∷ text) in (
        leaf name (size - length here) value again,
        ap (leaf name 0 value) same,
        (
          here,
          gap_margin margin here spaces,
          (
            10 ∷ text,
            start,
            (32 ∷ (plain_text value ++ 10 ∷ text), named_of size name (plain_text value ++ 10 ∷ text) n le, content_of most depth name value text v),
            inr (inl (refl, gap)),
            are,
          ),
        ),
      )

  branch_of : (depth : ℕ) (margin name : List ℕ) (title : Option (List ℕ)) (inner rest inner_again again : Outline) (behind : List ℕ) (more : List Line) → AreOf is_space margin → depth < most → IsOf is_name_byte name → is_code_name name ≡ false → ValidTitle title → length (name ++ 58 ∷ 32 ∷ (title_text title ++ 123 ∷ behind)) ≤ size → unplaced inner_again ≡ unplaced inner → unplaced again ≡ unplaced rest → Follows most size (suc depth) behind (lines inner_again ++ closing ∷ (lines again ++ more)) → (place : ℕ) → SpellsTree most size depth (branch name place title inner rest) (margin ++ (name ++ 58 ∷ 32 ∷ (title_text title ++ 123 ∷ behind))) more
  branch_of depth margin name title inner rest inner_again again behind more spaces few n no_code t le inner_same same (start, gap, are) place =
      let here = name ++ 58 ∷ 32 ∷ (title_text title ++ 123 ∷ behind) in (
        branch name (size - length here) title inner_again again,
        λ i. branch name 0 title (inner_same i) (same i),
        (
          here,
          gap_margin margin here spaces,
          (
            behind,
            start,
            (
              few,
              32 ∷ (title_text title ++ 123 ∷ behind),
              title_text title ++ 123 ∷ behind,
              named_of size name (title_text title ++ 123 ∷ behind) n le,
              no_code,
              space_before (title_text title ++ 123 ∷ behind),
              opening_of title behind t,
            ),
            gap,
            subst (AreLines most size (suc depth) start) (sym (append_assoc (lines inner_again) (closing ∷ lines again) more)) are,
          ),
        ),
      )

  -- a block's end
  closing_of : (depth : ℕ) (text : List ℕ) (more : List Line) → Follows most size depth text more → AreLines most size (suc depth) (125 ∷ 10 ∷ text) (closing ∷ more)
  closing_of depth text more (start, gap, are) = (10 ∷ text, start, (omega arith, refl), inr (inl (refl, gap)), are)

  -- the lengths of the parts of a text are no more than its own
  part_fits : (before part : List ℕ) → length (before ++ part) ≤ size → length part ≤ size
  part_fits before part le = omega (arith, length-append before part)

  fits_by : (x y : List ℕ) → x ≡ y → length x ≤ size → length y ≤ size
  fits_by x y e le = subst (λ z. length z ≤ size) e le

  follows_by : (depth : ℕ) (tree : Outline) (x y : List ℕ) (more : List Line) → x ≡ y → SpellsTree most size depth tree y more → SpellsTree most size depth tree x more
  follows_by depth tree x y more e s = subst (λ z. SpellsTree most size depth tree z more) (sym e) s

  -- the parts of a leaf's text
  leaf_rest : (name : List ℕ) (value : Plain) (text : List ℕ) → length (name ++ 58 ∷ 32 ∷ (plain_text value ++ 10 ∷ text)) ≤ size → length text ≤ size
  leaf_rest name value text le =
      omega (arith, length-append name (58 ∷ 32 ∷ (plain_text value ++ 10 ∷ text)), length-append (plain_text value) (10 ∷ text))

  branch_rest : (name : List ℕ) (title : Option (List ℕ)) (inside text : List ℕ) → length (name ++ 58 ∷ 32 ∷ (title_text title ++ (inside ++ text))) ≤ size → length text ≤ size
  branch_rest name title inside text le =
      omega (arith, length-append name (58 ∷ 32 ∷ (title_text title ++ (inside ++ text))), length-append (title_text title) (inside ++ text), length-append inside text)

  filled_text : (margin inner_text text : List ℕ) → (123 ∷ 10 ∷ (inner_text ++ margin ++ 125 ∷ 10 ∷ [])) ++ text ≡ 123 ∷ 10 ∷ (inner_text ++ (margin ++ 125 ∷ 10 ∷ text))
  filled_text margin inner_text text =
      ap (λ x. 123 ∷ 10 ∷ x) (append_assoc (inner_text ++ margin) (125 ∷ 10 ∷ []) text ∙ append_assoc inner_text margin (125 ∷ 10 ∷ text))

  -- a block without parameters
  empty_of : (depth : ℕ) (margin name : List ℕ) (title : Option (List ℕ)) (rest : Outline) (text : List ℕ) (more : List Line) → AreOf is_space margin → depth < most → IsOf is_name_byte name → is_code_name name ≡ false → ValidTitle title → length (name ++ 58 ∷ 32 ∷ (title_text title ++ 123 ∷ 32 ∷ 125 ∷ 10 ∷ text)) ≤ size → SpellsTree most size depth rest text more → (place : ℕ) → SpellsTree most size depth (branch name place title no_more rest) (margin ++ (name ++ 58 ∷ 32 ∷ (title_text title ++ 123 ∷ 32 ∷ 125 ∷ 10 ∷ text))) more
  empty_of depth margin name title rest text more spaces few n no_code t le (again, same, follows) place =
      branch_of depth margin name title no_more rest no_more again (32 ∷ 125 ∷ 10 ∷ text) more spaces few n no_code t le refl same
      (125 ∷ 10 ∷ text, space_before (125 ∷ 10 ∷ text), closing_of depth text (lines again ++ more) follows) place

  -- a block with parameters
  filled_of : (depth : ℕ) (margin name : List ℕ) (title : Option (List ℕ)) (inner rest again : Outline) (inner_text text : List ℕ) (more : List Line) → AreOf is_space margin → depth < most → IsOf is_name_byte name → is_code_name name ≡ false → ValidTitle title → length (name ++ 58 ∷ 32 ∷ (title_text title ++ 123 ∷ 10 ∷ (inner_text ++ (margin ++ 125 ∷ 10 ∷ text)))) ≤ size → unplaced again ≡ unplaced rest → SpellsTree most size (suc depth) inner (inner_text ++ (margin ++ 125 ∷ 10 ∷ text)) (closing ∷ (lines again ++ more)) → (place : ℕ) → SpellsTree most size depth (branch name place title inner rest) (margin ++ (name ++ 58 ∷ 32 ∷ (title_text title ++ 123 ∷ 10 ∷ (inner_text ++ (margin ++ 125 ∷ 10 ∷ text))))) more
  filled_of depth margin name title inner rest again inner_text text more spaces few n no_code t le same (inner_again, inner_same, (start, gap, are)) place =
      branch_of depth margin name title inner rest inner_again again (10 ∷ (inner_text ++ (margin ++ 125 ∷ 10 ∷ text))) more spaces few n no_code t le inner_same same
      (start, inr (inl (refl, gap)), are) place

  filled_rest : (name : List ℕ) (title : Option (List ℕ)) (inner_text margin text : List ℕ) → length (name ++ 58 ∷ 32 ∷ (title_text title ++ 123 ∷ 10 ∷ (inner_text ++ (margin ++ 125 ∷ 10 ∷ text)))) ≤ size → length (inner_text ++ (margin ++ 125 ∷ 10 ∷ text)) ≤ size
  filled_rest name title inner_text margin text le =
      omega (arith, length-append name (58 ∷ 32 ∷ (title_text title ++ 123 ∷ 10 ∷ (inner_text ++ (margin ++ 125 ∷ 10 ∷ text)))), length-append (title_text title) (123 ∷ 10 ∷ (inner_text ++ (margin ++ 125 ∷ 10 ∷ text))))

  block_of : (depth : ℕ) (margin name : List ℕ) (title : Option (List ℕ)) (inner rest : Outline) (inner_text text : List ℕ) (more : List Line) → (empty : Bool) → (empty ≡ true → inner ≡ no_more) → AreOf is_space margin → depth < most → IsOf is_name_byte name → is_code_name name ≡ false → ValidTitle title
      → length (name ++ 58 ∷ 32 ∷ (title_text title ++ (cond empty (codes "{ }" ++ 10 ∷ []) (123 ∷ 10 ∷ (inner_text ++ margin ++ 125 ∷ 10 ∷ [])) ++ text))) ≤ size
      → SpellsTree most size depth rest text more
      → ((behind : List ℕ) (others : List Line) → length (inner_text ++ behind) ≤ size → Follows most size (suc depth) behind others → SpellsTree most size (suc depth) inner (inner_text ++ behind) others)
      → (place : ℕ) → SpellsTree most size depth (branch name place title inner rest) (margin ++ (name ++ 58 ∷ 32 ∷ (title_text title ++ (cond empty (codes "{ }" ++ 10 ∷ []) (123 ∷ 10 ∷ (inner_text ++ margin ++ 125 ∷ 10 ∷ [])) ++ text)))) more
  block_of depth margin name title inner rest inner_text text more true none spaces few n no_code t le s inside place =
      subst (λ x. SpellsTree most size depth (branch name place title x rest) (margin ++ (name ++ 58 ∷ 32 ∷ (title_text title ++ 123 ∷ 32 ∷ 125 ∷ 10 ∷ text))) more) (sym (none refl))
      (empty_of depth margin name title rest text more spaces few n no_code t le s place)
  block_of depth margin name title inner rest inner_text text more false none spaces few n no_code t le (again, same, follows) inside place =
      let e = filled_text margin inner_text text in
      let le2 = subst (λ x. length (name ++ 58 ∷ 32 ∷ (title_text title ++ x)) ≤ size) e le in
      subst (λ x. SpellsTree most size depth (branch name place title inner rest) (margin ++ (name ++ 58 ∷ 32 ∷ (title_text title ++ x))) more) (sym e)
      (filled_of depth margin name title inner rest again inner_text text more spaces few n no_code t le2 same
      (inside (margin ++ 125 ∷ 10 ∷ text) (closing ∷ (lines again ++ more)) (filled_rest name title inner_text margin text le2)
      (125 ∷ 10 ∷ text, gap_margin margin (125 ∷ 10 ∷ text) spaces, closing_of depth text (lines again ++ more) follows)) place)

  is_none : (tree : Outline) → is_no_more tree ≡ true → tree ≡ no_more
  is_none no_more h = refl
  is_none (leaf name place value rest) h = cc
  is_none (branch name place title inner rest) h = cc

  spells : (tree : Outline) (depth : ℕ) (margin text : List ℕ) (more : List Line) → AreOf is_space margin → Valid most depth tree → length (text_at margin tree ++ text) ≤ size → Follows most size depth text more → SpellsTree most size depth tree (text_at margin tree ++ text) more
  spells no_more depth margin text more spaces v le follows = (no_more, refl, follows)
  spells (leaf name place value rest) depth margin text more spaces v le follows =
      let others = text_at margin rest in
      let e = leaf_text margin name value others text in
      let here = part_fits margin (name ++ 58 ∷ 32 ∷ (plain_text value ++ 10 ∷ (others ++ text))) (fits_by _ _ e le) in
      follows_by depth (leaf name place value rest) _ _ more e
      (leaf_of depth margin name value rest (others ++ text) more spaces v.0 v.1 here
      (spells rest depth margin text more spaces v.2 (leaf_rest name value (others ++ text) here) follows) place)
  spells (branch name place title inner rest) depth margin text more spaces v le follows =
      let others = text_at margin rest in
      let inner_text = text_at (margin ++ 32 ∷ 32 ∷ []) inner in
      let inside = block_text margin inner inner_text in
      let e = branch_text margin name title inside others text in
      let here = part_fits margin (name ++ 58 ∷ 32 ∷ (title_text title ++ (inside ++ (others ++ text)))) (fits_by _ _ e le) in
      follows_by depth (branch name place title inner rest) _ _ more e
      (block_of depth margin name title inner rest inner_text (others ++ text) more (is_no_more inner) (is_none inner) spaces v.0 v.1 v.2 v.3 here
      (spells rest depth margin text more spaces v.5 (branch_rest name title inside (others ++ text) here) follows)
      (λ behind lines_behind fits follows_there. spells inner (suc depth) (margin ++ 32 ∷ 32 ∷ []) behind lines_behind (deeper margin spaces) v.4 fits follows_there)
      place)

-- the canonical text of a tree that some text spells spells that tree, places aside
pub spells_again : (most : ℕ) (source : List ℕ) (tree : Outline) → IsFile most source tree → (again : Outline) × IsFile most (canonical tree) again × (unplaced again ≡ unplaced tree)
spells_again most source tree is =
    let text = canonical tree in
    let whole_ = append-nil text in
    let le : length (text ++ []) ≤ length text = omega (arith, ap length whole_) in
    let s = spells most (length text) tree 0 [] [] [] tt (valid most source tree is) le ([], refl, (refl, refl)) in
    (s.0, subst (λ x. (start : List ℕ) × IsGap x start × AreLines most (length text) 0 start (lines s.0)) whole_ (s.2.0, s.2.1, subst (AreLines most (length text) 0 s.2.0) (append-nil (lines s.0)) s.2.2), s.1)

pub answers_again : {E : Type 0} (most : ℕ) (tree : Outline) (answer : Result (List ℕ) E) → IfOk answer (λ text. text ≡ canonical tree) → IfOk answer (λ text. SpellsAgain most text tree)
answers_again most tree (Ok text) h = λ source is. subst (λ x. (again : Outline) × IsFile most x again × (unplaced again ≡ unplaced tree)) (sym h) (spells_again most source tree is)
answers_again most tree (Err why) h = tt
