-- The literal of dates and counts in front of a text is one, it is the longest, and no word of letters is one.
use Rattle.std.proofs.Common.{◌≡◌, inl, inr, ℕ, suc, ◌-◌, ◌≤◌, Bool, true, false, not, ◌&&◌, nat_eq, nat_le, List, [], ◌∷◌, ◌++◌, length, take, if◌then◌else◌, refl, sym, ap, subst, ◌∙◌, arith}
use Rattle.std.specs.List.{concat, AllByRecursion}
use Rattle.std.proofs.lemmas.Bool.{false≢true, leb-true, le-leb}
use Rattle.std.proofs.lemmas.Bool.Decides.{Decides-eqb}
use Rattle.lk_grammar.specs.Forms.{IsText, many, either, byte}
use Rattle.lk_grammar.specs.Words.{one, letters, is_white, is_small, is_char}
use Rattle.lk_grammar.specs.Tokens.{IsBegun}
use Rattle.lk_grammar.specs.Literals.{is_ended, IsLiteralReader}
use Rattle.lk_grammar.specs.Numbers.{digit, is_digit, begins_no_digit}
use Rattle.lk_grammar.proofs.FormLaws.{both, and_both, one_of, or_other}
use Rattle.lk_grammar.proofs.WordLaws.{one_text, text_one, text_char, small_from}
use Rattle.lk_filter_date.specs.DateTexts.{date_literal, is_of_date, date_count, date_length}

pub same : (a b : ℕ) → nat_eq a b ≡ true → a ≡ b
same a b h = (Decides-eqb a b).0 h

-- what no test finds true is false
pub is_false : (b : Bool) → (b ≡ true → ⊥) → b ≡ false
is_false true f = absurd (f refl)
is_false false f = refl

pub turned : (b : Bool) → not b ≡ true → b ≡ false
turned true h = absurd (false≢true h)
turned false h = refl

-- ---- bytes

pub digit_text : (b : ℕ) → is_digit b ≡ true → IsText digit (b ∷ [])
digit_text b h =
    let p = both (nat_le 48 b) (nat_le b 57) h in
    record { value = b; from = leb-true 48 b p.0; upto = leb-true b 57 p.1; alone = refl }

-- a digit
pub record IsDigitText (text : List ℕ) : Type 0 where
  pub value : ℕ
  pub alone : text ≡ value ∷ []
  pub is : is_digit value ≡ true

pub is_digit_from : (b : ℕ) → 48 ≤ b → b ≤ 57 → is_digit b ≡ true
is_digit_from b low high = and_both (nat_le 48 b) (nat_le b 57) (le-leb 48 b low) (le-leb b 57 high)

pub digit_low : (b : ℕ) → is_digit b ≡ true → 48 ≤ b
digit_low b h = leb-true 48 b (both (nat_le 48 b) (nat_le b 57) h).0

pub digit_high : (b : ℕ) → is_digit b ≡ true → b ≤ 57
digit_high b h = leb-true b 57 (both (nat_le 48 b) (nat_le b 57) h).1

pub text_digit : (text : List ℕ) → IsText digit text → IsDigitText text
text_digit text h = record { value = h.value; alone = h.alone; is = is_digit_from h.value h.from h.upto }

of_date_text : (b : ℕ) → is_of_date b ≡ true → IsText (either (one 45) (byte 47 57)) (b ∷ [])
of_date_text b h =
    elim (one_of (nat_eq b 45) (nat_le 47 b && nat_le b 57) h) [
      | inl e ↦ inl (subst (λ z. IsText (one 45) (z ∷ [])) (sym (same b 45 e)) (one_text 45))
      | inr r ↦ let p = both (nat_le 47 b) (nat_le b 57) r in inr (record { value = b; from = leb-true 47 b p.0; upto = leb-true b 57 p.1; alone = refl })
    ]

record IsByteText (text : List ℕ) : Type 0 where
  value : ℕ
  alone : text ≡ value ∷ []
  is : is_of_date value ≡ true

text_of_date : (text : List ℕ) → IsText (either (one 45) (byte 47 57)) text → IsByteText text
text_of_date text (inl h) = record { value = 45; alone = text_one 45 text h; is = refl }
text_of_date text (inr h) =
    record { value = h.value; alone = h.alone; is = or_other (nat_eq h.value 45) (nat_le 47 h.value && nat_le h.value 57) (and_both (nat_le 47 h.value) (nat_le h.value 57) (le-leb 47 h.value h.from) (le-leb h.value 57 h.upto)) }

-- ---- what is found is a literal

many_bytes : (text : List ℕ) → IsText (many (either (one 45) (byte 47 57))) (take (date_count text) text)
many_bytes [] = record { parts = []; joined = refl; each = tt }
many_bytes (b ∷ text) =
    elim (is_of_date b) as (λ d. is_of_date b ≡ d → IsText (many (either (one 45) (byte 47 57))) (take (if d then suc (date_count text) else 0) (b ∷ text))) [
      | true ↦ λ d.
          let more = many_bytes text in
          record { parts = (b ∷ []) ∷ more.parts; joined = ap (λ z. b ∷ z) more.joined; each = (of_date_text b d, more.each) }
      | false ↦ λ _. record { parts = []; joined = refl; each = tt }
    ] refl

before : (text : List ℕ) → nat_eq (date_length text) 0 ≡ false → IsText date_literal (take (date_length text) text)
before [] h = absurd (false≢true (sym h))
before (b ∷ text) h =
    elim (is_digit b) as (λ d. is_digit b ≡ d → nat_eq (if d then suc (date_count text) else 0) 0 ≡ false → IsText date_literal (take (if d then suc (date_count text) else 0) (b ∷ text))) [
      | true ↦ λ d _. record { front = b ∷ []; back = take (date_count text) text; joined = refl; first = digit_text b d; second = many_bytes text }
      | false ↦ λ _ h. absurd (false≢true (sym h))
    ] refl h

-- ---- a literal that nothing goes on with is found whole

none_more : (rest : List ℕ) → is_ended is_of_date rest ≡ true → date_count rest ≡ 0
none_more [] h = refl
none_more (b ∷ rest) h = rw (turned (is_of_date b) h) refl

count_parts : (parts : List (List ℕ)) (rest : List ℕ) → AllByRecursion (IsText (either (one 45) (byte 47 57))) parts → is_ended is_of_date rest ≡ true → date_count (concat parts ++ rest) ≡ length (concat parts)
count_parts [] rest each ended = none_more rest ended
count_parts (p ∷ parts) rest each ended =
    let d = text_of_date p each.0 in
    let more = count_parts parts rest each.1 ended in
    subst (λ z. date_count ((z ++ concat parts) ++ rest) ≡ length (z ++ concat parts)) (sym d.alone) (rw d.is (ap suc more))

-- a literal begins with a digit
pub record IsDigitHead (text : List ℕ) : Type 0 where
  pub head : ℕ
  pub tail : List ℕ
  pub is : text ≡ head ∷ tail
  pub first : is_digit head ≡ true

pub literal_head : (literal : List ℕ) → IsText date_literal literal → IsDigitHead literal
literal_head literal h =
    let d = text_digit h.front h.first in
    record { head = d.value; tail = h.back; is = h.joined ∙ ap (λ z. z ++ h.back) d.alone; first = d.is }

found : (literal rest : List ℕ) → IsText date_literal literal → is_ended is_of_date rest ≡ true → date_length (literal ++ rest) ≡ length literal
found literal rest h ended =
    let d = text_digit h.front h.first in
    let whole : literal ≡ d.value ∷ h.back = h.joined ∙ ap (λ z. z ++ h.back) d.alone in
    let many = h.second in
    let counted : date_count (h.back ++ rest) ≡ length h.back = subst (λ z. date_count (z ++ rest) ≡ length z) (sym many.joined) (count_parts many.parts rest many.each ended) in
    subst (λ z. date_length (z ++ rest) ≡ length z) (sym whole) (rw d.is (ap suc counted))

-- ---- spaces and words

no_space : (b : ℕ) → is_digit b ≡ true → is_white (32 ∷ []) b ≡ false
no_space b h = rw (is_false (nat_eq b 32) (λ e. let from : 48 ≤ b = digit_low b h in let is : b ≡ 32 = same b 32 e in omega arith)) refl

begun : (literal : List ℕ) → IsText date_literal literal → IsBegun (32 ∷ []) literal
begun literal h =
    let d = literal_head literal h in
    record { head = d.head; tail = d.tail; is = d.is; no_space = no_space d.head d.first }

-- a letter in any case is a digit only if the letter is
no_digit : (letter b : ℕ) → is_char letter b ≡ true → is_digit letter ≡ false → is_digit b ≡ false
no_digit letter b h none =
    elim (one_of (nat_eq b letter) (is_small letter && nat_eq b (letter - 32)) h) [
      | inl p ↦ subst (λ z. is_digit z ≡ false) (sym (same b letter p)) none
      | inr q ↦
          let k = both (is_small letter) (nat_eq b (letter - 32)) q in
          let from : 97 ≤ letter = small_from letter k.0 in
          let is : b ≡ letter - 32 = same b (letter - 32) k.1 in
          is_false (is_digit b) (λ d. let upto : b ≤ 57 = digit_high b d in omega arith)
    ]

none_at : (b : ℕ) (text : List ℕ) → is_digit b ≡ false → date_length (b ∷ text) ≡ 0
none_at b text h = rw h refl

clear : (small front rest : List ℕ) → begins_no_digit small ≡ true → IsText (letters small) front → date_length (front ++ rest) ≡ 0
clear [] front rest starts h = absurd (false≢true starts)
clear (letter ∷ small) front rest starts h =
    let c = text_char letter h.front h.first in
    let whole : front ≡ c.value ∷ h.back = h.joined ∙ ap (λ z. z ++ h.back) c.alone in
    subst (λ z. date_length (z ++ rest) ≡ 0) (sym whole) (none_at c.value (h.back ++ rest) (no_digit letter c.value c.is (turned (is_digit letter) starts)))

pub date_reader : IsLiteralReader (32 ∷ []) date_literal is_of_date begins_no_digit date_length
date_reader = record {
  before = before;
  found = found;
  begun = begun;
  clear = clear;
}
