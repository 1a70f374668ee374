-- Filters of texts: the texts of the form are those that spell items.
use Rattle.std.proofs.Common.{◌≡◌, ◌⊎◌, inl, inr, ℕ, zero, suc, ◌≤◌, ◌<◌, Bool, true, false, not, nat_eq, List, [], ◌∷◌, ◌++◌, Option, Some, None, refl, sym, ap, subst, ◌∙◌, append-nil, append_assoc, arith}
use Rattle.std.specs.List.{concat, AllByRecursion}
use Rattle.std.proofs.lemmas.Bool.{false≢true}
use Rattle.std.proofs.lemmas.Bool.Decides.{Decides-eqb}
use Rattle.lk_grammar.specs.Forms.{Form, IsText, IsJoined, nothing, byte, seq, either, many}
use Rattle.lk_grammar.specs.Places.{Judges}
use Rattle.lk_grammar.specs.Words.{letters}
use Rattle.lk_grammar.specs.Tokens.{tokens_form}
use Rattle.lk_grammar.specs.Literals.{token_form, IsLiteralOf}
use Rattle.lk_grammar.specs.declared.literals.Token.TheVariants.{Word, Literal}
use Rattle.lk_grammar.proofs.LiteralLaws.{exact_text, text_exact}
use Rattle.lk_grammar.proofs.FormLaws.{both, and_both, no_cons}
use Rattle.lk_grammar.proofs.PlaceLaws.{same_judgement}
use Rattle.lk_grammar.specs.Listed.{further_tokens}
use Rattle.lk_filter_text.specs.Characters.{later, long_character, letter_form, plain_form}
use Rattle.lk_filter_text.specs.declared.words.TextWord.{TextWord}
use Rattle.lk_filter_text.specs.declared.words.TextWord.TheVariants as word
use Rattle.lk_filter_text.specs.Texts.{letters_of, TextToken, space, minus, is_character, is_space, is_minus, is_comma, TextItem, spaces, minus_tokens, item_tokens, begins_solid, ends_solid, has_no_comma, IsTextItem, TextItems, more_tokens, IsTextText, text_filter, parts_of, IsTexts, blank, items}
use Rattle.lk_filter_text.specs.TextReading.{blanks, first_form, solid_form, pattern_form, item_form, further_form, text_form}

-- ---- tokens that are written one behind the other

abbrev Written : List TextToken → List ℕ → Type 0
Written [] text = text ≡ []
Written (t ∷ tokens) text = IsJoined (IsText (token_form letters_of t)) (Written tokens) text

no_bytes : (parts : List (List ℕ)) → AllByRecursion (IsText nothing) parts → concat parts ≡ []
no_bytes [] each = refl
no_bytes (p ∷ parts) each = absurd each.0

written : (tokens : List TextToken) (text : List ℕ) → IsText (tokens_form [] (token_form letters_of) tokens) text → Written tokens text
written [] text h = h.joined ∙ no_bytes h.parts h.each
written (t ∷ tokens) text h =
    let first = h.first in
    let none : first.front ≡ [] = first.first.joined ∙ no_bytes first.first.parts first.first.each in
    record { front = first.back; back = h.back; joined = h.joined ∙ ap (λ z. z ++ h.back) (first.joined ∙ ap (λ z. z ++ first.back) none); first = first.second; second = written tokens h.back h.second }

spelled : (tokens : List TextToken) (text : List ℕ) → Written tokens text → IsText (tokens_form [] (token_form letters_of) tokens) text
spelled [] text h = record { parts = []; joined = h; each = tt }
spelled (t ∷ tokens) text h =
    record { front = h.front; back = h.back; joined = h.joined; first = record { front = []; back = h.front; joined = refl; first = record { parts = []; joined = refl; each = tt }; second = h.first }; second = spelled tokens h.back h.second }

joined : (xs ys : List TextToken) (front back : List ℕ) → Written xs front → Written ys back → Written (xs ++ ys) (front ++ back)
joined [] ys front back p q = subst (λ z. Written ys (z ++ back)) (sym p) q
joined (x ∷ xs) ys front back p q =
    record { front = p.front; back = p.back ++ back; joined = ap (λ z. z ++ back) p.joined ∙ append_assoc p.front p.back back; first = p.first; second = joined xs ys p.back back p.second q }

parted : (xs ys : List TextToken) (text : List ℕ) → Written (xs ++ ys) text → IsJoined (Written xs) (Written ys) text
parted [] ys text h = record { front = []; back = text; joined = refl; first = refl; second = h }
parted (x ∷ xs) ys text h =
    let rest = parted xs ys h.back h.second in
    record {
      front = h.front ++ rest.front;
      back = rest.back;
      joined = h.joined ∙ ap (λ z. h.front ++ z) rest.joined ∙ sym (append_assoc h.front rest.front rest.back);
      first = record { front = h.front; back = rest.front; joined = refl; first = h.first; second = rest.first };
      second = rest.second;
    }

-- one token
one_token : (t : TextToken) (text : List ℕ) → IsText (token_form letters_of t) text → Written (t ∷ []) text
one_token t text h = record { front = text; back = []; joined = sym (append-nil text); first = h; second = refl }

token_one : (t : TextToken) (text : List ℕ) → Written (t ∷ []) text → IsText (token_form letters_of t) text
token_one t text h = subst (IsText (token_form letters_of t)) (sym (h.joined ∙ ap (λ z. h.front ++ z) h.second ∙ append-nil h.front)) h.first

abbrev Fine : List TextToken → Type 0
Fine tokens = AllByRecursion (IsLiteralOf plain_form) tokens

fine_front : (xs ys : List TextToken) → Fine (xs ++ ys) → Fine xs
fine_front [] ys h = tt
fine_front (x ∷ xs) ys h = (h.0, fine_front xs ys h.1)

fine_back : (xs ys : List TextToken) → Fine (xs ++ ys) → Fine ys
fine_back [] ys h = h
fine_back (x ∷ xs) ys h = fine_back xs ys h.1

fine_joined : (xs ys : List TextToken) → Fine xs → Fine ys → Fine (xs ++ ys)
fine_joined [] ys f g = g
fine_joined (x ∷ xs) ys f g = (f.0, fine_joined xs ys f.1 g)

-- ---- spaces

byte_alone : (c : ℕ) (text : List ℕ) → IsText (byte c c) text → text ≡ c ∷ []
byte_alone c text h = let low : c ≤ h.value = h.from in let high : h.value ≤ c = h.upto in let e : h.value ≡ c = omega arith in h.alone ∙ ap (λ z. z ∷ []) e

alone_byte : (c : ℕ) → IsText (byte c c) (c ∷ [])
alone_byte c = record { value = c; from = omega arith; upto = omega arith; alone = refl }

blanks_there : (n : ℕ) (text : List ℕ) → Written (spaces n) text → IsText blanks text
blanks_there zero text h = record { parts = []; joined = h; each = tt }
blanks_there (suc n) text h =
    let rest = blanks_there n h.back h.second in
    record { parts = h.front ∷ rest.parts; joined = h.joined ∙ ap (λ z. h.front ++ z) rest.joined; each = (subst (IsText (byte 32 32)) (sym (text_exact (32 ∷ []) h.front h.first)) (alone_byte 32), rest.each) }

record AreBlanks (text : List ℕ) : Type 0 where
  count : ℕ
  spelled : Written (spaces count) text

blank_parts : (parts : List (List ℕ)) → AllByRecursion (IsText (byte 32 32)) parts → AreBlanks (concat parts)
blank_parts [] each = record { count = zero; spelled = refl }
blank_parts (p ∷ parts) each =
    let rest = blank_parts parts each.1 in
    record { count = suc rest.count; spelled = record { front = p; back = concat parts; joined = refl; first = subst (IsText (token_form letters_of space)) (sym (byte_alone 32 p each.0)) (exact_text (32 ∷ [])); second = rest.spelled } }

blanks_back : (text : List ℕ) → IsText blanks text → AreBlanks text
blanks_back text h = subst AreBlanks (sym h.joined) (blank_parts h.parts h.each)

fine_spaces : (n : ℕ) → Fine (spaces n)
fine_spaces zero = tt
fine_spaces (suc n) = (inl (alone_byte 32), fine_spaces n)

-- ---- marks and characters

turned : (b : Bool) → not b ≡ true → b ≡ false
turned true h = absurd (false≢true h)
turned false h = refl

-- a token that is no space and no comma
first_there : (t : TextToken) → IsLiteralOf plain_form t → is_space t ≡ false → is_minus t ≡ false → is_comma t ≡ false → (text : List ℕ) → IsText (token_form letters_of t) text → IsText first_form text
first_there (Word word.Comma) fine s m c text h = absurd (false≢true (sym c))
first_there (Word word.Any) fine s m c text h = inl (inl h)
first_there (Word word.QuotedComma) fine s m c text h = inl (inr (inl h))
first_there (Word word.QuotedSpace) fine s m c text h = inl (inr (inr (inl h)))
first_there (Word word.QuotedAny) fine s m c text h = inl (inr (inr (inr (inl h))))
first_there (Word word.QuotedOne) fine s m c text h = inl (inr (inr (inr (inr (inl h)))))
first_there (Word word.QuotedQuote) fine s m c text h = inl (inr (inr (inr (inr (inr (inl h))))))
first_there (Word word.QuotedMinus) fine s m c text h = inl (inr (inr (inr (inr (inr (inr (inl h)))))))
first_there (Word word.QuotedCaret) fine s m c text h = inl (inr (inr (inr (inr (inr (inr (inr h)))))))
first_there (Literal l) (inl is) s m c text h = absurd (false≢true (sym s ∙ ap (λ z. is_space (Literal z)) (byte_alone 32 l is)))
first_there (Literal l) (inr (inl is)) s m c text h = absurd (false≢true (sym m ∙ ap (λ z. is_minus (Literal z)) (byte_alone 45 l is)))
first_there (Literal l) (inr (inr is)) s m c text h = inr (subst (IsText letter_form) (sym (text_exact l text h)) is)

solid_there : (t : TextToken) → IsLiteralOf plain_form t → is_space t ≡ false → is_comma t ≡ false → (text : List ℕ) → IsText (token_form letters_of t) text → IsText solid_form text
solid_there (Word w) fine s c text h = inr (first_there (Word w) fine s refl c text h)
solid_there (Literal l) (inl is) s c text h = absurd (false≢true (sym s ∙ ap (λ z. is_space (Literal z)) (byte_alone 32 l is)))
solid_there (Literal l) (inr (inl is)) s c text h = inl (subst (IsText (byte 45 45)) (sym (text_exact l text h)) is)
solid_there (Literal l) (inr (inr is)) s c text h = inr (inr (subst (IsText letter_form) (sym (text_exact l text h)) is))

-- a letter is no space and no `-`
not_equal : (b c : ℕ) → ((b ≡ c) → ⊥) → nat_eq b c ≡ false
not_equal b c f =
    elim (nat_eq b c) as (λ e. nat_eq b c ≡ e → e ≡ false) [
      | true ↦ λ e. absurd (f ((Decides-eqb b c).0 e))
      | false ↦ λ _. refl
    ] refl

byte_is_not : (low high c : ℕ) (text : List ℕ) → ((c < low) ⊎ (high < c)) → IsText (byte low high) text → is_character c (Literal text) ≡ false
byte_is_not low high c text out h =
    subst (λ z. is_character c (Literal z) ≡ false) (sym h.alone) (not_equal h.value c (λ e.
    elim out [
      | inl l ↦ let from : low ≤ h.value = h.from in let is : h.value ≡ c = e in omega arith
      | inr l ↦ let upto : h.value ≤ high = h.upto in let is : h.value ≡ c = e in omega arith
    ]))

-- two bytes or more are no character of one byte
two_are_not : (low high from upto c : ℕ) (text : List ℕ) → IsText (seq (byte low high) (byte from upto)) text → is_character c (Literal text) ≡ false
two_are_not low high from upto c text h =
    subst (λ z. is_character c (Literal z) ≡ false) (sym (h.joined ∙ ap (λ z. z ++ h.back) h.first.alone ∙ ap (λ z. h.first.value ∷ z) h.second.alone)) refl

more_are_not : (low high from upto c : ℕ) (f : Form) (text : List ℕ) → IsText (seq (byte low high) (seq (byte from upto) f)) text → is_character c (Literal text) ≡ false
more_are_not low high from upto c f text h =
    subst (λ z. is_character c (Literal z) ≡ false) (sym (h.joined ∙ ap (λ z. z ++ h.back) h.first.alone ∙ ap (λ z. h.first.value ∷ z) (h.second.joined ∙ ap (λ z. z ++ h.second.back) h.second.first.alone))) refl

long_is_not : (c : ℕ) (text : List ℕ) → IsText long_character text → is_character c (Literal text) ≡ false
long_is_not c text (inl h) = two_are_not 194 223 128 191 c text h
long_is_not c text (inr (inl h)) = more_are_not 224 224 160 191 c later text h
long_is_not c text (inr (inr (inl h))) = more_are_not 225 236 128 191 c later text h
long_is_not c text (inr (inr (inr (inl h)))) = more_are_not 237 237 128 159 c later text h
long_is_not c text (inr (inr (inr (inr (inl h))))) = more_are_not 238 239 128 191 c later text h
long_is_not c text (inr (inr (inr (inr (inr (inl h)))))) = more_are_not 240 240 144 191 c (seq later later) text h
long_is_not c text (inr (inr (inr (inr (inr (inr (inl h))))))) = more_are_not 241 243 128 191 c (seq later later) text h
long_is_not c text (inr (inr (inr (inr (inr (inr (inr h))))))) = more_are_not 244 244 128 143 c (seq later later) text h

letter_is_no_space : (text : List ℕ) → IsText letter_form text → is_space (Literal text) ≡ false
letter_is_no_space text (inr h) = long_is_not 32 text h
letter_is_no_space text (inl (inl h)) = byte_is_not 0 31 32 text (inr (omega arith)) h
letter_is_no_space text (inl (inr (inl h))) = byte_is_not 33 36 32 text (inl (omega arith)) h
letter_is_no_space text (inl (inr (inr (inl h)))) = byte_is_not 38 43 32 text (inl (omega arith)) h
letter_is_no_space text (inl (inr (inr (inr (inl h))))) = byte_is_not 46 93 32 text (inl (omega arith)) h
letter_is_no_space text (inl (inr (inr (inr (inr h))))) = byte_is_not 95 127 32 text (inl (omega arith)) h

letter_is_no_minus : (text : List ℕ) → IsText letter_form text → is_minus (Literal text) ≡ false
letter_is_no_minus text (inr h) = long_is_not 45 text h
letter_is_no_minus text (inl (inl h)) = byte_is_not 0 31 45 text (inr (omega arith)) h
letter_is_no_minus text (inl (inr (inl h))) = byte_is_not 33 36 45 text (inr (omega arith)) h
letter_is_no_minus text (inl (inr (inr (inl h)))) = byte_is_not 38 43 45 text (inr (omega arith)) h
letter_is_no_minus text (inl (inr (inr (inr (inl h))))) = byte_is_not 46 93 45 text (inl (omega arith)) h
letter_is_no_minus text (inl (inr (inr (inr (inr h))))) = byte_is_not 95 127 45 text (inl (omega arith)) h

-- a token that is spelled, and what it is not
record IsSolid (text : List ℕ) : Type 0 where
  t : TextToken
  fine : IsLiteralOf plain_form t
  no_space : is_space t ≡ false
  no_comma : is_comma t ≡ false
  written : IsText (token_form letters_of t) text

record IsFirst (text : List ℕ) : Type 0 where
  solid : IsSolid text
  no_minus : is_minus solid.t ≡ false

a_mark : (w : TextWord) → is_comma (Word w) ≡ false → (text : List ℕ) → IsText (letters (letters_of w)) text → IsFirst text
a_mark w c text h = record { solid = record { t = Word w; fine = tt; no_space = refl; no_comma = c; written = h }; no_minus = refl }

first_back : (text : List ℕ) → IsText first_form text → IsFirst text
first_back text (inl (inl h)) = a_mark word.Any refl text h
first_back text (inl (inr (inl h))) = a_mark word.QuotedComma refl text h
first_back text (inl (inr (inr (inl h)))) = a_mark word.QuotedSpace refl text h
first_back text (inl (inr (inr (inr (inl h))))) = a_mark word.QuotedAny refl text h
first_back text (inl (inr (inr (inr (inr (inl h)))))) = a_mark word.QuotedOne refl text h
first_back text (inl (inr (inr (inr (inr (inr (inl h))))))) = a_mark word.QuotedQuote refl text h
first_back text (inl (inr (inr (inr (inr (inr (inr (inl h)))))))) = a_mark word.QuotedMinus refl text h
first_back text (inl (inr (inr (inr (inr (inr (inr (inr h)))))))) = a_mark word.QuotedCaret refl text h
first_back text (inr h) = record { solid = record { t = Literal text; fine = inr (inr h); no_space = letter_is_no_space text h; no_comma = refl; written = exact_text text }; no_minus = letter_is_no_minus text h }

solid_back : (text : List ℕ) → IsText solid_form text → IsSolid text
solid_back text (inl h) = record { t = minus; fine = inr (inl (alone_byte 45)); no_space = refl; no_comma = refl; written = subst (IsText (token_form letters_of minus)) (sym (byte_alone 45 text h)) (exact_text (45 ∷ [])) }
solid_back text (inr h) = (first_back text h).solid

-- ---- patterns

abbrev Part : Form
Part = seq blanks solid_form

spaces_more : (n : ℕ) (tokens : List TextToken) → spaces n ++ space ∷ tokens ≡ spaces (suc n) ++ tokens
spaces_more zero tokens = refl
spaces_more (suc n) tokens = ap (λ z. space ∷ z) (spaces_more n tokens)

space_is : (t : TextToken) → is_space t ≡ true → t ≡ space
space_is (Word w) h = absurd (false≢true h)
space_is (Literal []) h = absurd (false≢true h)
space_is (Literal (b ∷ [])) h = ap (λ z. Literal (z ∷ [])) ((Decides-eqb b 32).0 h)
space_is (Literal (b ∷ d ∷ text)) h = absurd (false≢true h)

-- nothing is left, or what ends with no space
abbrev IsRest : ℕ → List TextToken → Type 0
IsRest n tokens = ((n ≡ zero) × (tokens ≡ [])) ⊎ (ends_solid tokens ≡ true)

rest_there : (tokens : List TextToken) (n : ℕ) → IsRest n tokens → Fine tokens → has_no_comma tokens ≡ true → (text : List ℕ) → Written (spaces n ++ tokens) text → IsText (many Part) text
rest_there [] n (inl none) fine comma text h = record { parts = []; joined = subst (λ z. Written (spaces z ++ []) text) none.0 h; each = tt }
rest_there [] n (inr ends) fine comma text h = absurd (false≢true ends)
rest_there (t ∷ tokens) n (inl none) fine comma text h = absurd (no_cons (sym none.1))
rest_there (t ∷ tokens) n (inr ends) fine comma text h =
    elim (is_space t) as (λ s. is_space t ≡ s → IsText (many Part) text) [
      | true ↦ λ s. rest_there tokens (suc n) (inr (ends_further t tokens s ends)) fine.1 p.1 text (subst (λ z. Written z text) (ap (λ z. spaces n ++ z ∷ tokens) (space_is t s) ∙ spaces_more n tokens) h)
      | false ↦ λ s.
          let cut = parted (spaces n) (t ∷ tokens) text h in
          let first = cut.second in
          let rest = rest_there tokens zero (rest_of t tokens ends) fine.1 p.1 first.back first.second in
          record {
            parts = (cut.front ++ first.front) ∷ rest.parts;
            joined = cut.joined ∙ ap (λ z. cut.front ++ z) (first.joined ∙ ap (λ z. first.front ++ z) rest.joined) ∙ sym (append_assoc cut.front first.front (concat rest.parts));
            each = (record { front = cut.front; back = first.front; joined = refl; first = blanks_there n cut.front cut.first; second = solid_there t fine.0 s (turned (is_comma t) p.0) first.front first.first }, rest.each);
          }
    ] refl
  where
    p : (not (is_comma t) ≡ true) × (has_no_comma tokens ≡ true)
    p = both (not (is_comma t)) (has_no_comma tokens) comma

    ends_further : (t : TextToken) (tokens : List TextToken) → is_space t ≡ true → ends_solid (t ∷ tokens) ≡ true → ends_solid tokens ≡ true
    ends_further t [] s ends = absurd (false≢true (sym (ap not s) ∙ ends))
    ends_further t (u ∷ tokens) s ends = ends

    rest_of : (t : TextToken) (tokens : List TextToken) → ends_solid (t ∷ tokens) ≡ true → IsRest zero tokens
    rest_of t [] ends = inl (refl, refl)
    rest_of t (u ∷ tokens) ends = inr ends

-- tokens behind a first one
record IsTail (text : List ℕ) : Type 0 where
  tokens : List TextToken
  fine : Fine tokens
  rest : IsRest zero tokens
  no_comma : has_no_comma tokens ≡ true
  written : Written tokens text

no_comma_spaces : (n : ℕ) (tokens : List TextToken) → has_no_comma tokens ≡ true → has_no_comma (spaces n ++ tokens) ≡ true
no_comma_spaces zero tokens h = h
no_comma_spaces (suc n) tokens h = no_comma_spaces n tokens h

ends_behind : (n : ℕ) (tokens : List TextToken) → ends_solid tokens ≡ true → ends_solid (spaces n ++ tokens) ≡ true
ends_behind zero tokens h = h
ends_behind (suc zero) [] h = absurd (false≢true h)
ends_behind (suc zero) (t ∷ tokens) h = h
ends_behind (suc (suc n)) tokens h = ends_behind (suc n) tokens h

ends_first : (t : TextToken) (tokens : List TextToken) → is_space t ≡ false → IsRest zero tokens → ends_solid (t ∷ tokens) ≡ true
ends_first t [] s rest = ap not s
ends_first t (u ∷ tokens) s (inl none) = absurd (no_cons (sym none.1))
ends_first t (u ∷ tokens) s (inr ends) = ends

tail_back : (parts : List (List ℕ)) → AllByRecursion (IsText Part) parts → IsTail (concat parts)
tail_back [] each = record { tokens = []; fine = tt; rest = inl (refl, refl); no_comma = refl; written = refl }
tail_back (q ∷ parts) each =
    let blank = blanks_back each.0.front each.0.first in
    let solid = solid_back each.0.back each.0.second in
    let rest = tail_back parts each.1 in
    let behind = solid.t ∷ rest.tokens in
    record {
      tokens = spaces blank.count ++ behind;
      fine = fine_joined (spaces blank.count) behind (fine_spaces blank.count) (solid.fine, rest.fine);
      rest = inr (ends_behind blank.count behind (ends_first solid.t rest.tokens solid.no_space rest.rest));
      no_comma = no_comma_spaces blank.count behind (and_both (not (is_comma solid.t)) (has_no_comma rest.tokens) (ap not solid.no_comma) rest.no_comma);
      written = subst (Written (spaces blank.count ++ behind)) (sym (ap (λ z. z ++ concat parts) each.0.joined ∙ append_assoc each.0.front each.0.back (concat parts)))
          (joined (spaces blank.count) behind each.0.front (each.0.back ++ concat parts) blank.spelled (record { front = each.0.back; back = concat parts; joined = refl; first = solid.written; second = rest.written }));
    }

-- a pattern from its first token
pattern_there : (first : Form) (t : TextToken) (tokens : List TextToken) → ((text : List ℕ) → IsText (token_form letters_of t) text → IsText first text) → ends_solid (t ∷ tokens) ≡ true → Fine tokens → has_no_comma tokens ≡ true → (text : List ℕ) → Written (t ∷ tokens) text → IsText (pattern_form first) text
pattern_there first t tokens there ends fine comma text h =
    record { front = h.front; back = h.back; joined = h.joined; first = there h.front h.first; second = rest_there tokens zero (rest_of tokens ends) fine comma h.back h.second }
  where
    rest_of : (tokens : List TextToken) → ends_solid (t ∷ tokens) ≡ true → IsRest zero tokens
    rest_of [] ends = inl (refl, refl)
    rest_of (u ∷ tokens) ends = inr ends

record IsPattern (excluded : Option ℕ) (text : List ℕ) : Type 0 where
  content : List TextToken
  fine : Fine content
  begins : begins_solid excluded content ≡ true
  ends : ends_solid content ≡ true
  no_comma : has_no_comma content ≡ true
  written : Written content text

pattern_back : (excluded : Option ℕ) (front back text : List ℕ) → text ≡ front ++ back → (s : IsSolid front) → begins_solid excluded (s.t ∷ []) ≡ true → IsText (many Part) back → IsPattern excluded text
pattern_back excluded front back text whole s begins h =
    let tail = tail_back h.parts h.each in
    record {
      content = s.t ∷ tail.tokens;
      fine = (s.fine, tail.fine);
      begins = begins_so excluded tail.tokens begins;
      ends = ends_first s.t tail.tokens s.no_space tail.rest;
      no_comma = and_both (not (is_comma s.t)) (has_no_comma tail.tokens) (ap not s.no_comma) tail.no_comma;
      written = record { front = front; back = concat h.parts; joined = whole ∙ ap (λ z. front ++ z) h.joined; first = s.written; second = tail.written };
    }
  where
    begins_so : (e : Option ℕ) (tokens : List TextToken) → begins_solid e (s.t ∷ []) ≡ true → begins_solid e (s.t ∷ tokens) ≡ true
    begins_so None tokens b = b
    begins_so (Some n) tokens b = b

-- ---- items

abbrev Middle : Form
Middle = either (seq (byte 45 45) (seq blanks (pattern_form solid_form))) (pattern_form first_form)

middle_there : (excluded : Option ℕ) (content : List TextToken) → begins_solid excluded content ≡ true → ends_solid content ≡ true → has_no_comma content ≡ true → Fine content → (text : List ℕ) → Written (minus_tokens excluded ++ content) text → IsText Middle text
middle_there None [] begins ends comma fine text h = absurd (false≢true begins)
middle_there (Some n) [] begins ends comma fine text h = absurd (false≢true begins)
middle_there None (t ∷ tokens) begins ends comma fine text h =
    let b = both (not (is_space t)) (not (is_minus t)) begins in
    let p = both (not (is_comma t)) (has_no_comma tokens) comma in
    inr (pattern_there first_form t tokens (first_there t fine.0 (turned (is_space t) b.0) (turned (is_minus t) b.1) (turned (is_comma t) p.0)) ends fine.1 p.1 text h)
middle_there (Some n) (t ∷ tokens) begins ends comma fine text h =
    let p = both (not (is_comma t)) (has_no_comma tokens) comma in
    let cut = parted (spaces n) (t ∷ tokens) h.back h.second in
    inl (record {
      front = h.front;
      back = h.back;
      joined = h.joined;
      first = subst (IsText (byte 45 45)) (sym (text_exact (45 ∷ []) h.front h.first)) (alone_byte 45);
      second = record { front = cut.front; back = cut.back; joined = cut.joined; first = blanks_there n cut.front cut.first; second = pattern_there solid_form t tokens (solid_there t fine.0 (turned (is_space t) begins) (turned (is_comma t) p.0)) ends fine.1 p.1 cut.back cut.second };
    })

record IsMiddle (text : List ℕ) : Type 0 where
  excluded : Option ℕ
  content : List TextToken
  fine : Fine (minus_tokens excluded ++ content)
  begins : begins_solid excluded content ≡ true
  ends : ends_solid content ≡ true
  no_comma : has_no_comma content ≡ true
  written : Written (minus_tokens excluded ++ content) text

middle_back : (text : List ℕ) → IsText Middle text → IsMiddle text
middle_back text (inr h) =
    let f = first_back h.front h.first in
    let p = pattern_back None h.front h.back text h.joined f.solid (and_both (not (is_space f.solid.t)) (not (is_minus f.solid.t)) (ap not f.solid.no_space) (ap not f.no_minus)) h.second in
    record { excluded = None; content = p.content; fine = p.fine; begins = p.begins; ends = p.ends; no_comma = p.no_comma; written = p.written }
middle_back text (inl h) =
    let blank = blanks_back h.second.front h.second.first in
    let pattern = h.second.second in
    let s = solid_back pattern.front pattern.first in
    let p = pattern_back (Some blank.count) pattern.front pattern.back h.second.back pattern.joined s (ap not s.no_space) pattern.second in
    record {
      excluded = Some blank.count;
      content = p.content;
      fine = (inr (inl (alone_byte 45)), fine_joined (spaces blank.count) p.content (fine_spaces blank.count) p.fine);
      begins = p.begins;
      ends = p.ends;
      no_comma = p.no_comma;
      written = record { front = h.front; back = h.back; joined = h.joined; first = subst (IsText (token_form letters_of minus)) (sym (byte_alone 45 h.front h.first)) (exact_text (45 ∷ [])); second = subst (Written (spaces blank.count ++ p.content)) (sym h.second.joined) (joined (spaces blank.count) p.content h.second.front h.second.back blank.spelled p.written) };
    }

item_is : (x : TextItem) → item_tokens x ≡ spaces x.before ++ ((minus_tokens x.excluded ++ x.content) ++ spaces x.behind)
item_is x = ap (λ z. spaces x.before ++ z) (sym (append_assoc (minus_tokens x.excluded) x.content (spaces x.behind)))

item_there : (x : TextItem) → IsTextItem x → Fine (item_tokens x) → (text : List ℕ) → Written (item_tokens x) text → IsText item_form text
item_there x is fine text h =
    let cut = parted (spaces x.before) ((minus_tokens x.excluded ++ x.content) ++ spaces x.behind) text (subst (λ z. Written z text) (item_is x) h) in
    let end = parted (minus_tokens x.excluded ++ x.content) (spaces x.behind) cut.back cut.second in
    let inner = fine_front (minus_tokens x.excluded ++ x.content) (spaces x.behind) (fine_back (spaces x.before) ((minus_tokens x.excluded ++ x.content) ++ spaces x.behind) (subst Fine (item_is x) fine)) in
    record {
      front = cut.front;
      back = cut.back;
      joined = cut.joined;
      first = blanks_there x.before cut.front cut.first;
      second = record { front = end.front; back = end.back; joined = end.joined; first = middle_there x.excluded x.content is.begins is.ends is.no_comma (fine_back (minus_tokens x.excluded) x.content inner) end.front end.first; second = blanks_there x.behind end.back end.second };
    }

record IsItem (text : List ℕ) : Type 0 where
  x : TextItem
  is : IsTextItem x
  fine : Fine (item_tokens x)
  written : Written (item_tokens x) text

item_back : (text : List ℕ) → IsText item_form text → IsItem text
item_back text h =
    let before = blanks_back h.front h.first in
    let m = middle_back h.second.front h.second.first in
    let behind = blanks_back h.second.back h.second.second in
    let x : TextItem = record { before = before.count; excluded = m.excluded; content = m.content; behind = behind.count } in
    let inner = minus_tokens m.excluded ++ m.content in
    record {
      x = x;
      is = record { begins = m.begins; ends = m.ends; no_comma = m.no_comma };
      fine = subst Fine (sym (item_is x)) (fine_joined (spaces before.count) (inner ++ spaces behind.count) (fine_spaces before.count) (fine_joined inner (spaces behind.count) m.fine (fine_spaces behind.count)));
      written = subst (λ z. Written z text) (sym (item_is x)) (subst (Written (spaces before.count ++ (inner ++ spaces behind.count))) (sym (h.joined ∙ ap (λ z. h.front ++ z) h.second.joined)) (joined (spaces before.count) (inner ++ spaces behind.count) h.front (h.second.front ++ h.second.back) before.spelled (joined inner (spaces behind.count) h.second.front h.second.back m.written behind.spelled)));
    }

-- ---- whole texts

more_there : (more : List TextItem) → AllByRecursion IsTextItem more → Fine (further_tokens more_tokens more) → (text : List ℕ) → Written (further_tokens more_tokens more) text → IsText (many further_form) text
more_there [] are fine text h = record { parts = []; joined = h; each = tt }
more_there (x ∷ more) are fine text h =
    let cut = parted (item_tokens x) (further_tokens more_tokens more) h.back h.second in
    let rest = more_there more are.1 (fine_back (item_tokens x) (further_tokens more_tokens more) fine.1) cut.back cut.second in
    record {
      parts = (h.front ++ cut.front) ∷ rest.parts;
      joined = h.joined ∙ ap (λ z. h.front ++ z) (cut.joined ∙ ap (λ z. cut.front ++ z) rest.joined) ∙ sym (append_assoc h.front cut.front (concat rest.parts));
      each = (record { front = h.front; back = cut.front; joined = refl; first = h.first; second = item_there x are.0 (fine_front (item_tokens x) (further_tokens more_tokens more) fine.1) cut.front cut.first }, rest.each);
    }

record AreItems (text : List ℕ) : Type 0 where
  more : List TextItem
  are : AllByRecursion IsTextItem more
  fine : Fine (further_tokens more_tokens more)
  written : Written (further_tokens more_tokens more) text

more_back : (parts : List (List ℕ)) → AllByRecursion (IsText further_form) parts → AreItems (concat parts)
more_back [] each = record { more = []; are = tt; fine = tt; written = refl }
more_back (q ∷ parts) each =
    let x = item_back each.0.back each.0.second in
    let rest = more_back parts each.1 in
    record {
      more = x.x ∷ rest.more;
      are = (x.is, rest.are);
      fine = (tt, fine_joined (item_tokens x.x) (further_tokens more_tokens rest.more) x.fine rest.fine);
      written = record { front = each.0.front; back = each.0.back ++ concat parts; joined = ap (λ z. z ++ concat parts) each.0.joined ∙ append_assoc each.0.front each.0.back (concat parts); first = each.0.first; second = joined (item_tokens x.x) (further_tokens more_tokens rest.more) each.0.back (concat parts) x.written rest.written };
    }

of_form : (all : TextItems) (text : List ℕ) → IsTextText all text → IsText (either blanks (seq item_form (many further_form))) text
of_form (blank n) text h = inl (blanks_there n text (written (spaces n) text h.spelled))
of_form (items x more) text h =
    let rest = further_tokens more_tokens more in
    let cut = parted (item_tokens x) rest text (written (item_tokens x ++ rest) text h.spelled) in
    inr (record { front = cut.front; back = cut.back; joined = cut.joined; first = item_there x h.are_items.0 (fine_front (item_tokens x) rest h.characters) cut.front cut.first; second = more_there more h.are_items.1 (fine_back (item_tokens x) rest h.characters) cut.back cut.second })

from_form : (text : List ℕ) → IsText (either blanks (seq item_form (many further_form))) text → IsTexts text
from_form text (inl h) =
    let b = blanks_back text h in
    (text_filter [], (blank b.count, record { spelled = spelled (spaces b.count) text b.spelled; characters = fine_spaces b.count; are_items = tt }, refl))
from_form text (inr h) =
    let x = item_back h.front h.first in
    let rest = more_back h.second.parts h.second.each in
    let all = items x.x rest.more in
    let tokens = item_tokens x.x ++ further_tokens more_tokens rest.more in
    (text_filter (parts_of all), (all, record { spelled = spelled tokens text (subst (Written tokens) (sym (h.joined ∙ ap (λ z. h.front ++ z) h.second.joined)) (joined (item_tokens x.x) (further_tokens more_tokens rest.more) h.front (concat h.second.parts) x.written rest.written)); characters = fine_joined (item_tokens x.x) (further_tokens more_tokens rest.more) x.fine rest.fine; are_items = (x.is, rest.are) }, refl))

pub texts_judged : (text : List ℕ) (o : Option ℕ) → Judges (IsText text_form) text o → Judges IsTexts text o
unfolding text_form
texts_judged text o = same_judgement from_form (λ text h. of_form h.1.0 text h.1.1) text o
