-- What a tree that some text spells has: names, words, texts and code of the grammar.
use Rattle.std.proofs.Common.{◌≡◌, ℕ, suc, Bool, true, false, ◌&&◌, ◌==◌, cond, ◌<◌, List, [], ◌∷◌, ◌++◌, inl, inr, Option, Some, None, length, refl, sym, ap, ◌∙◌, subst, arith, append_assoc}
use Rattle.std.proofs.lemmas.Bool.Decides.{nat_tests}
use Rattle.std.proofs.lemmas.List.{append-nil}
use Rattle.lk_read.specs.Entry.{Entry}
use Rattle.lk_read.specs.Entry as entry
use Rattle.lk_utf8.specs.declared.utf8.Utf8.{Utf8}
use Rattle.lk_utf8.specs.declared.utf8.Utf8.TheVariants as utf
use Rattle.lk_read.specs.Outline.{Plain, word, quoted, list, code, Outline, no_more, leaf, branch}
use Rattle.lk_read.specs.Lines.{Line, lines, closing}
use Rattle.lk_read.specs.Bytes.{is_space, is_name_byte, is_word_byte, is_title, is_key, is_code_name}
use Rattle.lk_utf8.specs.Utf8.{completes, utf8_after, is_whole, is_text}
use Rattle.lk_read.specs.Grammar.{IsRun, IsWhole, IsCode, IsSemicolon, IsScalar, IsEntry, AreEntries, IsContent, IsOpening, AreLines, IsFile, without_front, with_front, without_end, trimmed}
use Rattle.lk_utf8.proofs.CompletionLaws.{completes_parts, completes_more, whole_at, small_begins, small_none}

-- ---- bytes of a kind

abbrev pub AreOf : (ℕ → Bool) → List ℕ → Type 0
AreOf is_kind [] = Unit {0}
AreOf is_kind (b ∷ text) = (is_kind b ≡ true) × AreOf is_kind text

abbrev pub IsOf : (ℕ → Bool) → List ℕ → Type 0
IsOf is_kind [] = ⊥
IsOf is_kind (b ∷ text) = (is_kind b ≡ true) × AreOf is_kind text

run_kind : (is_kind : ℕ → Bool) (text run rest : List ℕ) → IsRun is_kind text run rest → AreOf is_kind run
run_kind is_kind [] run rest (none, same) = subst (AreOf is_kind) (sym none) tt
run_kind is_kind (b ∷ text) run rest (inl (h, more, f, r)) = subst (AreOf is_kind) (sym f) (h, run_kind is_kind text more rest r)
run_kind is_kind (b ∷ text) run rest (inr (h, none, same)) = subst (AreOf is_kind) (sym none) tt

whole_kind : (is_kind : ℕ → Bool) (text run rest : List ℕ) → IsWhole is_kind text run rest → IsOf is_kind run
whole_kind is_kind [] run rest w = absurd w
whole_kind is_kind (b ∷ text) run rest (h, more, f, r) = subst (IsOf is_kind) (sym f) (h, run_kind is_kind text more rest r)

-- ---- texts

space_small : (b : ℕ) → is_space b ≡ true → b < 128
space_small b h = grind (arith, nat_tests)

word_small : (b : ℕ) → is_word_byte b ≡ true → b < 128
word_small b h = grind (arith, nat_tests)

pub words_text : (text : List ℕ) → AreOf is_word_byte text → is_text text ≡ true
words_text [] w = refl
words_text (b ∷ text) (h, w) = completes_more utf.Whole utf.Whole b text (small_begins b (word_small b h)) (words_text text w)

-- ---- code

abbrev pub NotTwo : ℕ → List ℕ → Type 0
NotTwo b [] = Unit {0}
NotTwo b (c ∷ text) = (b == 59 && c == 59) ≡ false

-- no two semicolons stand side by side
abbrev pub NoEnd : List ℕ → Type 0
NoEnd [] = Unit {0}
NoEnd (b ∷ text) = NotTwo b text × NoEnd text

-- the text of a code
pub record IsCodeText (text : List ℕ) : Type 0 where
  pub no_end : NoEnd text
  pub utf8 : is_text text ≡ true
  pub front : without_front text ≡ text
  pub end : without_end text ≡ text

not_first : (b : ℕ) (text : List ℕ) → (b == 59) ≡ false → NotTwo b text
not_first b [] h = tt
not_first b (c ∷ text) h = rw h refl

mutual
  code_no_end : (text raw rest : List ℕ) → IsCode text raw rest → NoEnd raw
  code_no_end [] raw rest w = absurd w
  code_no_end (b ∷ text) raw rest (inl (is, w)) = semicolon_no_end text raw rest w
  code_no_end (b ∷ text) raw rest (inr (isnt, more, f, w)) =
      subst NoEnd (sym f) (not_first b more isnt, code_no_end text more rest w)

  semicolon_no_end : (text raw rest : List ℕ) → IsSemicolon text raw rest → NoEnd raw
  semicolon_no_end [] raw rest w = absurd w
  semicolon_no_end (b ∷ text) raw rest (inl (is, none, same)) = subst NoEnd (sym none) tt
  semicolon_no_end (b ∷ text) raw rest (inr (isnt, more, f, w)) =
      subst NoEnd (sym f) (isnt, (not_first b more isnt, code_no_end text more rest w))

-- what holds of a text on both sides of a test
by_bool : {A : Type 0} (P : A → Type 0) (c : Bool) (x y : A) → (c ≡ true → P x) → (c ≡ false → P y) → P (cond c x y)
by_bool P true x y f g = f refl
by_bool P false x y f g = g refl

front_no_end : (text : List ℕ) → NoEnd text → NoEnd (without_front text)
front_no_end [] w = tt
front_no_end (b ∷ text) w = by_bool NoEnd (is_space b) _ _ (λ _. front_no_end text w.1) (λ _. w)

not_two_front : (b c : ℕ) (text : List ℕ) → (b == 59 && c == 59) ≡ false → NotTwo b (with_front c text)
not_two_front b c [] h = by_bool (NotTwo b) (is_space c) _ _ (λ _. tt) (λ _. h)
not_two_front b c (d ∷ text) h = h

not_two_end : (b : ℕ) (text : List ℕ) → NotTwo b text → NotTwo b (without_end text)
not_two_end b [] w = tt
not_two_end b (c ∷ text) w = not_two_front b c (without_end text) w

no_end_front : (b : ℕ) (text : List ℕ) → NotTwo b text → NoEnd text → NoEnd (with_front b text)
no_end_front b [] w v = by_bool NoEnd (is_space b) _ _ (λ _. tt) (λ _. (tt, tt))
no_end_front b (c ∷ text) w v = (w, v)

end_no_end : (text : List ℕ) → NoEnd text → NoEnd (without_end text)
end_no_end [] w = tt
end_no_end (b ∷ text) w = no_end_front b (without_end text) (not_two_end b text w.0) (end_no_end text w.1)

front_text : (text : List ℕ) → is_text text ≡ true → is_text (without_front text) ≡ true
front_text [] h = refl
front_text (b ∷ text) h =
    by_bool (λ x. is_text x ≡ true) (is_space b) _ _
    (λ space. let p = completes_parts utf.Whole b text h in
    let whole_ : p.0 ≡ utf.Whole = some_same p.0 utf.Whole (sym p.1 ∙ small_begins b (space_small b space)) in
    front_text text (subst (λ u. completes u text ≡ true) whole_ p.2))
    (λ _. h)
  where
    some_same : (x y : Utf8) → Some x ≡ Some y → x ≡ y
    some_same x y e = cc

completes_front : (u v : Utf8) (b : ℕ) (text : List ℕ) → utf8_after u b ≡ Some v → completes v text ≡ true → (is_space b ≡ true → text ≡ [] → is_whole u ≡ true) → completes u (with_front b text) ≡ true
completes_front u v b [] e h f =
    by_bool (λ x. completes u x ≡ true) (is_space b) _ _ (λ space. f space refl) (λ _. completes_more u v b [] e h)
completes_front u v b (c ∷ text) e h f = completes_more u v b (c ∷ text) e h

end_text : (u : Utf8) (text : List ℕ) → completes u text ≡ true → completes u (without_end text) ≡ true
end_text u [] h = h
end_text u (b ∷ text) h =
    let p = completes_parts u b text h in
    completes_front u p.0 b (without_end text) p.1 (end_text p.0 text p.2)
    (λ space none. whole_at u b text (small_none b (space_small b space)) h)

end_front_again : (b : ℕ) (text : List ℕ) → without_end text ≡ text → without_end (with_front b text) ≡ with_front b text
end_front_again b [] h = by_bool (λ x. without_end x ≡ x) (is_space b) _ _ (λ _. refl) (λ space. rw space refl)
end_front_again b (c ∷ text) h = ap (with_front b) h

end_again : (text : List ℕ) → without_end (without_end text) ≡ without_end text
end_again [] = refl
end_again (b ∷ text) = end_front_again b (without_end text) (end_again text)

-- a text that is empty or begins with no white space
abbrev pub Begun : List ℕ → Type 0
Begun [] = Unit {0}
Begun (b ∷ text) = is_space b ≡ false

pub front_begun : (text : List ℕ) → Begun (without_front text)
front_begun [] = tt
front_begun (b ∷ text) = by_bool Begun (is_space b) _ _ (λ _. front_begun text) (λ space. space)

with_front_begun : (b : ℕ) (text : List ℕ) → is_space b ≡ false → Begun (with_front b text)
with_front_begun b [] h = by_bool Begun (is_space b) _ _ (λ _. tt) (λ space. space)
with_front_begun b (c ∷ text) h = h

end_begun : (text : List ℕ) → Begun text → Begun (without_end text)
end_begun [] w = tt
end_begun (b ∷ text) w = with_front_begun b (without_end text) w

begun_front : (text : List ℕ) → Begun text → without_front text ≡ text
begun_front [] w = refl
begun_front (b ∷ text) w = rw w refl

code_text : (text raw rest kept : List ℕ) → IsCode text raw rest → is_text raw ≡ true → kept ≡ trimmed raw → IsCodeText kept
code_text text raw rest kept w h e =
    subst IsCodeText (sym e)
    (record {
      no_end = end_no_end (without_front raw) (front_no_end raw (code_no_end text raw rest w));
      utf8 = end_text utf.Whole (without_front raw) (front_text raw h);
      front = begun_front (trimmed raw) (end_begun (without_front raw) (front_begun raw));
      end = end_again (without_front raw);
    })

-- ---- values

abbrev pub ValidEntry : Entry → Type 0
ValidEntry (entry.word w) = IsOf is_word_byte w
ValidEntry (entry.quoted q) = is_text q ≡ true
ValidEntry (entry.pair key v) = IsOf is_word_byte key × (is_key key ≡ true) × (is_text v ≡ true)
ValidEntry (entry.other value) = ⊥

abbrev pub ValidEntries : List Entry → Type 0
ValidEntries [] = Unit {0}
ValidEntries (e ∷ es) = ValidEntry e × ValidEntries es

of_text : (text : List ℕ) → IsOf is_word_byte text → is_text text ≡ true
of_text [] w = absurd w
of_text (b ∷ text) w = words_text (b ∷ text) w

scalar_text : (text scalar rest : List ℕ) → IsScalar text scalar rest → is_text scalar ≡ true
scalar_text text scalar rest (inl w) = of_text scalar (whole_kind is_word_byte text scalar rest w)
scalar_text text scalar rest (inr w) = w.3

valid_entry : (text : List ℕ) (e : Entry) (rest : List ℕ) → IsEntry text e rest → ValidEntry e
valid_entry text (entry.word w) rest is = whole_kind is_word_byte text w rest is
valid_entry text (entry.quoted q) rest is = is.3
valid_entry text (entry.pair key v) rest (behind, colon, start, is, keyed, gap, gap2, scalar) =
    (whole_kind is_word_byte text key behind is, keyed, scalar_text start v rest scalar)
valid_entry text (entry.other value) rest is = is

valid_entries : (text : List ℕ) (es : List Entry) (rest : List ℕ) → AreEntries text es rest → ValidEntries es
valid_entries text [] rest w = tt
valid_entries text (e ∷ es) rest (behind, next, is, gap, inl (none, f)) = (valid_entry text e behind is, subst ValidEntries (sym none) tt)
valid_entries text (e ∷ es) rest (behind, next, is, gap, inr (comma, start, f, gap2, are)) = (valid_entry text e behind is, valid_entries start es rest are)

abbrev pub ValidPlain : ℕ → ℕ → List ℕ → Plain → Type 0
ValidPlain most depth name (word w) = (is_code_name name ≡ false) × IsOf is_word_byte w
ValidPlain most depth name (quoted q) = (is_code_name name ≡ false) × (is_text q ≡ true)
ValidPlain most depth name (list es) = (is_code_name name ≡ false) × (depth < most) × ValidEntries es
ValidPlain most depth name (code c) = (is_code_name name ≡ true) × IsCodeText c

valid_plain : (most depth : ℕ) (name text : List ℕ) (value : Plain) (rest : List ℕ) → IsContent most depth name text value rest → ValidPlain most depth name value
valid_plain most depth name text (word w) rest (h, start, gap, is) = (h, whole_kind is_word_byte start w rest is)
valid_plain most depth name text (quoted q) rest (h, start, gap, is) = (h, is.3)
valid_plain most depth name text (list es) rest (h, start, gap, is) = (h, is.0, valid_entries is.2 es rest is.5)
valid_plain most depth name text (code c) rest (h, raw, is, u, f) = (h, code_text text raw rest c is u f)

abbrev pub ValidTitle : Option (List ℕ) → Type 0
ValidTitle None = Unit {0}
ValidTitle (Some title) = IsOf is_word_byte title × (is_title title ≡ true)

valid_title : (text : List ℕ) (title : Option (List ℕ)) (rest : List ℕ) → IsOpening text title rest → ValidTitle title
valid_title text None rest w = tt
valid_title text (Some title) rest w = (whole_kind is_word_byte text title w.0 w.1, w.2)

-- ---- trees

abbrev pub Valid : ℕ → ℕ → Outline → Type 0
Valid most depth no_more = Unit {0}
Valid most depth (leaf name place value rest) = IsOf is_name_byte name × ValidPlain most depth name value × Valid most depth rest
Valid most depth (branch name place title inner rest) =
    (depth < most) × IsOf is_name_byte name × (is_code_name name ≡ false) × ValidTitle title × Valid most (suc depth) inner × Valid most depth rest

valid_of : (most size depth : ℕ) (tree : Outline) (text : List ℕ) (more : List Line) → AreLines most size depth text (lines tree ++ more) → Valid most depth tree × ((behind : List ℕ) × AreLines most size depth behind more)
valid_of most size depth no_more text more w = (tt, (text, w))
valid_of most size depth (leaf name place value rest) text more (behind, next, line, gap, are) =
    let v = valid_of most size depth rest next more are in
    ((whole_kind is_name_byte text name line.1.0 line.1.2, valid_plain most depth name line.0 value behind line.2, v.0), v.1)
valid_of most size depth (branch name place title inner rest) text more (behind, next, line, gap, are) =
    let inside = valid_of most size (suc depth) inner next (closing ∷ (lines rest ++ more))
    (subst (AreLines most size (suc depth) next) (append_assoc (lines inner) (closing ∷ lines rest) more) are) in
    let outside = valid_of most size depth rest inside.1.1.1 more inside.1.1.4 in
    ((line.0, whole_kind is_name_byte text name line.3.0 line.3.2, line.4, valid_title line.2 title behind line.6, inside.0, outside.0), outside.1)

-- what some text spells is valid
pub valid : (most : ℕ) (text : List ℕ) (tree : Outline) → IsFile most text tree → Valid most 0 tree
valid most text tree w =
    (valid_of most (length text) 0 tree w.0 [] (subst (AreLines most (length text) 0 w.0) (sym (append-nil (lines tree))) w.2)).0
