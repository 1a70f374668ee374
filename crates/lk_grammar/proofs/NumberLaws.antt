-- The number in front of a text is one, it is the longest, and no word of letters is one.
use Rattle.std.proofs.Common.{◌≡◌, inl, inr, ℕ, suc, ◌+◌, ◌-◌, ◌≤◌, ◌<◌, Bool, true, false, not, ◌&&◌, ◌||◌, nat_eq, nat_le, nat_lt, List, [], ◌∷◌, ◌++◌, length, take, drop, if◌then◌else◌, refl, sym, ap, subst, ◌∙◌, append_assoc, length-append, arith}
use Rattle.std.specs.List.{concat, AllByRecursion}
use Rattle.std.proofs.lemmas.Bool.{false≢true, leb-true, le-leb, ltb-true}
use Rattle.std.proofs.lemmas.Bool.Decides.{Decides-eqb}
use Rattle.std.proofs.Math.Seq.{take-add, drop-append_seam}
use Rattle.lk_grammar.specs.Forms.{IsText, many, optional, seq}
use Rattle.lk_grammar.specs.Words.{one, letters, is_white, is_small, is_char}
use Rattle.lk_grammar.specs.Tokens.{IsBegun}
use Rattle.lk_grammar.specs.Literals.{is_ended, IsLiteralReader}
use Rattle.lk_grammar.specs.Numbers.{digit, digits, unsigned_number, number, is_digit, digit_count, places_length, unsigned_length, signed_length, number_length, is_of_number, begins_no_digit, begins_no_number, are_low}
use Rattle.lk_grammar.proofs.FormLaws.{both, and_both, one_of}
use Rattle.lk_grammar.proofs.WordLaws.{one_text, text_one, text_char, small_from}

same : (a b : ℕ) → nat_eq a b ≡ true → a ≡ b
same a b h = (Decides-eqb a b).0 h

is_some : (n : ℕ) → nat_eq (suc n) 0 ≡ false
is_some n =
    elim (nat_eq (suc n) 0) as (λ b. nat_eq (suc n) 0 ≡ b → b ≡ false) [
      | true ↦ λ h. absurd (let e : suc n ≡ 0 = same (suc n) 0 h in omega arith)
      | false ↦ λ _. refl
    ] refl

-- what no test finds true is false
is_false : (b : Bool) → (b ≡ true → ⊥) → b ≡ false
is_false true f = absurd (f refl)
is_false false f = refl

turned : (b : Bool) → not b ≡ true → b ≡ false
turned true h = absurd (false≢true h)
turned false h = refl

neither : (a b : Bool) → not (a || b) ≡ true → (a ≡ false) × (b ≡ false)
neither true b h = absurd (false≢true h)
neither false b h = (refl, turned b h)

-- ---- what is found is a number

digit_text : (b : ℕ) → is_digit b ≡ true → IsText digit (b ∷ [])
digit_text b h =
    let p = both (nat_le 48 b) (nat_le b 57) h in
    record { value = b; from = leb-true 48 b p.0; upto = leb-true b 57 p.1; alone = refl }

many_digits : (text : List ℕ) → IsText (many digit) (take (digit_count text) text)
many_digits [] = record { parts = []; joined = refl; each = tt }
many_digits (b ∷ text) =
    elim (is_digit b) as (λ d. is_digit b ≡ d → IsText (many digit) (take (if d then suc (digit_count text) else 0) (b ∷ text))) [
      | true ↦ λ d.
          let more = many_digits text in
          record { parts = (b ∷ []) ∷ more.parts; joined = ap (λ z. b ∷ z) more.joined; each = (digit_text b d, more.each) }
      | false ↦ λ _. record { parts = []; joined = refl; each = tt }
    ] refl

digits_text : (text : List ℕ) → nat_eq (digit_count text) 0 ≡ false → IsText digits (take (digit_count text) text)
digits_text [] h = absurd (false≢true (sym h))
digits_text (b ∷ text) h =
    elim (is_digit b) as (λ d. is_digit b ≡ d → nat_eq (if d then suc (digit_count text) else 0) 0 ≡ false → IsText digits (take (if d then suc (digit_count text) else 0) (b ∷ text))) [
      | true ↦ λ d _. record { front = b ∷ []; back = take (digit_count text) text; joined = refl; first = digit_text b d; second = many_digits text }
      | false ↦ λ _ h. absurd (false≢true (sym h))
    ] refl h

places_text : (text : List ℕ) → IsText (optional (seq (one 46) digits)) (take (places_length text) text)
places_text [] = inr refl
places_text (b ∷ text) =
    elim (nat_eq b 46 && not (nat_eq (digit_count text) 0)) as (λ p. (nat_eq b 46 && not (nat_eq (digit_count text) 0)) ≡ p → IsText (optional (seq (one 46) digits)) (take (if p then suc (digit_count text) else 0) (b ∷ text))) [
      | true ↦ λ p.
          let q = both (nat_eq b 46) (not (nat_eq (digit_count text) 0)) p in
          inl (record { front = b ∷ []; back = take (digit_count text) text; joined = refl; first = subst (λ z. IsText (one 46) (z ∷ [])) (sym (same b 46 q.0)) (one_text 46); second = digits_text text (turned (nat_eq (digit_count text) 0) q.1) })
      | false ↦ λ _. inr refl
    ] refl

unsigned_text : (text : List ℕ) → nat_eq (unsigned_length text) 0 ≡ false → IsText unsigned_number (take (unsigned_length text) text)
unsigned_text text h =
    elim (nat_eq (digit_count text) 0) as (λ z. nat_eq (digit_count text) 0 ≡ z → nat_eq (if z then 0 else digit_count text + places_length (drop (digit_count text) text)) 0 ≡ false → IsText unsigned_number (take (if z then 0 else digit_count text + places_length (drop (digit_count text) text)) text)) [
      | true ↦ λ _ h. absurd (false≢true (sym h))
      | false ↦ λ some _.
          record {
            front = take (digit_count text) text;
            back = take (places_length (drop (digit_count text) text)) (drop (digit_count text) text);
            joined = take-add (digit_count text) (places_length (drop (digit_count text) text)) text;
            first = digits_text text some;
            second = places_text (drop (digit_count text) text);
          }
    ] refl h

number_text : (text : List ℕ) → nat_eq (number_length text) 0 ≡ false → IsText number (take (number_length text) text)
number_text [] h = absurd (false≢true (sym h))
number_text (b ∷ text) h =
    elim (nat_eq b 45) as (λ s. nat_eq b 45 ≡ s → nat_eq (if s then signed_length (unsigned_length text) else unsigned_length (b ∷ text)) 0 ≡ false → IsText number (take (if s then signed_length (unsigned_length text) else unsigned_length (b ∷ text)) (b ∷ text))) [
      | true ↦ λ s h.
          elim (nat_eq (unsigned_length text) 0) as (λ z. nat_eq (unsigned_length text) 0 ≡ z → nat_eq (if z then 0 else suc (unsigned_length text)) 0 ≡ false → IsText number (take (if z then 0 else suc (unsigned_length text)) (b ∷ text))) [
            | true ↦ λ _ h. absurd (false≢true (sym h))
            | false ↦ λ some _.
                record { front = b ∷ []; back = take (unsigned_length text) text; joined = refl; first = inl (subst (λ z. IsText (one 45) (z ∷ [])) (sym (same b 45 s)) (one_text 45)); second = unsigned_text text some }
          ] refl h
      | false ↦ λ _ h. record { front = []; back = take (unsigned_length (b ∷ text)) (b ∷ text); joined = refl; first = inr refl; second = unsigned_text (b ∷ text) h }
    ] refl h

-- ---- a number that nothing goes on with is found whole

text_digit : (text : List ℕ) → IsText digit text → (b : ℕ) × ((text ≡ b ∷ []) × (is_digit b ≡ true))
text_digit text h = (h.value, (h.alone, and_both (nat_le 48 h.value) (nat_le h.value 57) (from_le 48 h.value h.from) (from_le h.value 57 h.upto)))
  where
    from_le : (a b : ℕ) → a ≤ b → nat_le a b ≡ true
    from_le a b h = le-leb a b h

ended_digit : (rest : List ℕ) → is_ended is_of_number rest ≡ true → is_ended is_digit rest ≡ true
ended_digit [] h = refl
ended_digit (b ∷ rest) h = ap not (neither (is_digit b) (nat_eq b 46) h).0

no_digits : (rest : List ℕ) → is_ended is_digit rest ≡ true → digit_count rest ≡ 0
no_digits [] h = refl
no_digits (b ∷ rest) h = rw (turned (is_digit b) h) refl

count_parts : (parts : List (List ℕ)) (rest : List ℕ) → AllByRecursion (IsText digit) parts → is_ended is_digit rest ≡ true → digit_count (concat parts ++ rest) ≡ length (concat parts)
count_parts [] rest each ended = no_digits rest ended
count_parts (p ∷ parts) rest each ended =
    let d = text_digit p each.0 in
    let more = count_parts parts rest each.1 ended in
    subst (λ z. digit_count ((z ++ concat parts) ++ rest) ≡ length (z ++ concat parts)) (sym d.1.0) (rw d.1.1 (ap suc more))

record HasDigits (text : List ℕ) : Type 0 where
  head : ℕ
  tail : List ℕ
  is : text ≡ head ∷ tail
  first : is_digit head ≡ true
  counted : (rest : List ℕ) → is_ended is_digit rest ≡ true → digit_count (text ++ rest) ≡ length text

has_digits : (text : List ℕ) → IsText digits text → HasDigits text
has_digits text h =
    let d = text_digit h.front h.first in
    let whole : text ≡ d.0 ∷ h.back = h.joined ∙ ap (λ z. z ++ h.back) d.1.0 in
    record {
      head = d.0;
      tail = h.back;
      is = whole;
      first = d.1.1;
      counted = λ rest ended.
          subst (λ z. digit_count (z ++ rest) ≡ length z) (sym whole)
          (rw d.1.1 (ap suc (subst (λ z. digit_count (z ++ rest) ≡ length z) (sym h.second.joined) (count_parts h.second.parts rest h.second.each ended))));
    }

record HasPlaces (text rest : List ℕ) : Type 0 where
  ended : is_ended is_digit (text ++ rest) ≡ true
  counted : places_length (text ++ rest) ≡ length text

has_places : (text rest : List ℕ) → IsText (optional (seq (one 46) digits)) text → is_ended is_of_number rest ≡ true → HasPlaces text rest
has_places text rest (inr none) ended =
    subst (λ z. HasPlaces z rest) (sym none) (record { ended = ended_digit rest ended; counted = no_places rest ended })
  where
    no_places : (rest : List ℕ) → is_ended is_of_number rest ≡ true → places_length rest ≡ 0
    no_places [] h = refl
    no_places (b ∷ rest) h = rw (neither (is_digit b) (nat_eq b 46) h).1 refl
has_places text rest (inl h) ended =
    let d = has_digits h.back h.second in
    let whole : text ≡ 46 ∷ h.back = h.joined ∙ ap (λ z. z ++ h.back) (text_one 46 h.front h.first) in
    let count : digit_count (h.back ++ rest) ≡ length h.back = d.counted rest (ended_digit rest ended) in
    let some : nat_eq (length h.back) 0 ≡ false = ap (λ z. nat_eq (length z) 0) d.is ∙ is_some (length d.tail) in
    subst (λ z. HasPlaces z rest) (sym whole) (record { ended = refl; counted = rw (count, some) refl })

unsigned_found : (literal rest : List ℕ) → IsText unsigned_number literal → is_ended is_of_number rest ≡ true → unsigned_length (literal ++ rest) ≡ length literal
unsigned_found literal rest h ended =
    let d = has_digits h.front h.first in
    let p = has_places h.back rest h.second ended in
    let count : digit_count (h.front ++ (h.back ++ rest)) ≡ length h.front = d.counted (h.back ++ rest) p.ended in
    let some : nat_eq (length h.front) 0 ≡ false = ap (λ z. nat_eq (length z) 0) d.is ∙ is_some (length d.tail) in
    let behind : drop (length h.front) (h.front ++ (h.back ++ rest)) ≡ h.back ++ rest = drop-append_seam h.front (h.back ++ rest) in
    let sum : unsigned_length (h.front ++ (h.back ++ rest)) ≡ length h.front + length h.back = rw (count, some, behind, p.counted) refl in
    ap unsigned_length (ap (λ z. z ++ rest) h.joined ∙ append_assoc h.front h.back rest) ∙ sum ∙ sym (ap length h.joined ∙ length-append h.front h.back)

-- the first byte of a number without a sign is a digit
record IsDigitHead (text : List ℕ) : Type 0 where
  head : ℕ
  tail : List ℕ
  is : text ≡ head ∷ tail
  first : is_digit head ≡ true

digit_head : (literal : List ℕ) → IsText unsigned_number literal → IsDigitHead literal
digit_head literal h =
    let d = has_digits h.front h.first in
    record { head = d.head; tail = d.tail ++ h.back; is = h.joined ∙ ap (λ z. z ++ h.back) d.is; first = d.first }

no_sign : (b : ℕ) → is_digit b ≡ true → nat_eq b 45 ≡ false
no_sign b h = is_false (nat_eq b 45) (λ e. let from : 48 ≤ b = leb-true 48 b (both (nat_le 48 b) (nat_le b 57) h).0 in let is : b ≡ 45 = same b 45 e in omega arith)

number_found : (literal rest : List ℕ) → IsText number literal → is_ended is_of_number rest ≡ true → number_length (literal ++ rest) ≡ length literal
number_found literal rest h ended =
    elim h.first [
      | inl sign ↦
          let whole : literal ≡ 45 ∷ h.back = h.joined ∙ ap (λ z. z ++ h.back) (text_one 45 h.front sign) in
          let d = digit_head h.back h.second in
          let some : nat_eq (length h.back) 0 ≡ false = ap (λ z. nat_eq (length z) 0) d.is ∙ is_some (length d.tail) in
          let found : unsigned_length (h.back ++ rest) ≡ length h.back = unsigned_found h.back rest h.second ended in
          subst (λ z. number_length (z ++ rest) ≡ length z) (sym whole) (rw (found, some) refl)
      | inr none ↦
          let whole : literal ≡ h.back = h.joined ∙ ap (λ z. z ++ h.back) none in
          let d = digit_head h.back h.second in
          let begins : h.back ++ rest ≡ d.head ∷ (d.tail ++ rest) = ap (λ z. z ++ rest) d.is in
          let found : unsigned_length (d.head ∷ (d.tail ++ rest)) ≡ length h.back = ap unsigned_length (sym begins) ∙ unsigned_found h.back rest h.second ended in
          let plain : number_length (d.head ∷ (d.tail ++ rest)) ≡ length h.back = rw (no_sign d.head d.first) found in
          subst (λ z. number_length (z ++ rest) ≡ length z) (sym whole) (ap number_length begins ∙ plain)
    ]

-- ---- spaces and words

no_white : (white : List ℕ) (b : ℕ) → are_low white ≡ true → 45 ≤ b → is_white white b ≡ false
no_white [] b low h = refl
no_white (w ∷ white) b low h =
    let l = both (nat_lt w 45) (are_low white) low in
    let less : w < 45 = ltb-true w 45 l.0 in
    let differs : nat_eq b w ≡ false = is_false (nat_eq b w) (λ e. let is : b ≡ w = same b w e in omega arith) in
    rw differs (no_white white b l.1 h)

from_digit : (b : ℕ) → is_digit b ≡ true → 45 ≤ b
from_digit b h = let from : 48 ≤ b = leb-true 48 b (both (nat_le 48 b) (nat_le b 57) h).0 in omega arith

unsigned_begun : (white literal : List ℕ) → are_low white ≡ true → IsText unsigned_number literal → IsBegun white literal
unsigned_begun white literal low h =
    let d = digit_head literal h in
    record { head = d.head; tail = d.tail; is = d.is; no_space = no_white white d.head low (from_digit d.head d.first) }

number_begun : (white literal : List ℕ) → are_low white ≡ true → IsText number literal → IsBegun white literal
number_begun white literal low h =
    elim h.first [
      | inl sign ↦ record { head = 45; tail = h.back; is = h.joined ∙ ap (λ z. z ++ h.back) (text_one 45 h.front sign); no_space = no_white white 45 low (omega arith) }
      | inr none ↦ subst (IsBegun white) (sym (h.joined ∙ ap (λ z. z ++ h.back) none)) (unsigned_begun white h.back low h.second)
    ]

-- a letter in any case is a digit only if the letter is
no_digit : (letter b : ℕ) → is_char letter b ≡ true → is_digit letter ≡ false → is_digit b ≡ false
no_digit letter b h none =
    elim (one_of (nat_eq b letter) (is_small letter && nat_eq b (letter - 32)) h) [
      | inl p ↦ subst (λ z. is_digit z ≡ false) (sym (same b letter p)) none
      | inr q ↦
          let k = both (is_small letter) (nat_eq b (letter - 32)) q in
          let from : 97 ≤ letter = small_from letter k.0 in
          let is : b ≡ letter - 32 = same b (letter - 32) k.1 in
          is_false (is_digit b) (λ d. let upto : b ≤ 57 = leb-true b 57 (both (nat_le 48 b) (nat_le b 57) d).1 in omega arith)
    ]

no_minus : (letter b : ℕ) → is_char letter b ≡ true → nat_eq letter 45 ≡ false → nat_eq b 45 ≡ false
no_minus letter b h none =
    elim (one_of (nat_eq b letter) (is_small letter && nat_eq b (letter - 32)) h) [
      | inl p ↦ subst (λ z. nat_eq z 45 ≡ false) (sym (same b letter p)) none
      | inr q ↦
          let k = both (is_small letter) (nat_eq b (letter - 32)) q in
          let from : 97 ≤ letter = small_from letter k.0 in
          let is : b ≡ letter - 32 = same b (letter - 32) k.1 in
          is_false (nat_eq b 45) (λ e. let at : b ≡ 45 = same b 45 e in omega arith)
    ]

none_at : (b : ℕ) (text : List ℕ) → is_digit b ≡ false → unsigned_length (b ∷ text) ≡ 0
none_at b text h = rw h refl

unsigned_clear : (small front rest : List ℕ) → begins_no_digit small ≡ true → IsText (letters small) front → unsigned_length (front ++ rest) ≡ 0
unsigned_clear [] front rest clear h = absurd (false≢true clear)
unsigned_clear (letter ∷ small) front rest clear h =
    let c = text_char letter h.front h.first in
    let whole : front ≡ c.value ∷ h.back = h.joined ∙ ap (λ z. z ++ h.back) c.alone in
    subst (λ z. unsigned_length (z ++ rest) ≡ 0) (sym whole) (none_at c.value (h.back ++ rest) (no_digit letter c.value c.is (turned (is_digit letter) clear)))

number_clear : (small front rest : List ℕ) → begins_no_number small ≡ true → IsText (letters small) front → number_length (front ++ rest) ≡ 0
number_clear [] front rest clear h = absurd (false≢true clear)
number_clear (letter ∷ small) front rest clear h =
    let c = text_char letter h.front h.first in
    let whole : front ≡ c.value ∷ h.back = h.joined ∙ ap (λ z. z ++ h.back) c.alone in
    subst (λ z. number_length (z ++ rest) ≡ 0) (sym whole)
    (elim (nat_eq letter 45) as (λ m. nat_eq letter 45 ≡ m → (if m then begins_no_digit small else not (is_digit letter)) ≡ true → number_length (c.value ∷ (h.back ++ rest)) ≡ 0) [
      | true ↦ λ m clear.
          let none : unsigned_length (h.back ++ rest) ≡ 0 = unsigned_clear small h.back rest clear h.second in
          elim (nat_eq c.value 45) as (λ s. nat_eq c.value 45 ≡ s → (if s then signed_length (unsigned_length (h.back ++ rest)) else unsigned_length (c.value ∷ (h.back ++ rest))) ≡ 0) [
            | true ↦ λ _. rw none refl
            | false ↦ λ s.
                none_at c.value (h.back ++ rest) (no_digit letter c.value c.is (subst (λ z. is_digit z ≡ false) (sym (same letter 45 m)) refl))
          ] refl
      | false ↦ λ m clear.
          rw (no_minus letter c.value c.is m) (none_at c.value (h.back ++ rest) (no_digit letter c.value c.is (turned (is_digit letter) clear)))
    ] refl clear)

pub unsigned_reader : (white : List ℕ) → are_low white ≡ true → IsLiteralReader white unsigned_number is_of_number begins_no_digit unsigned_length
unsigned_reader white low = record {
  before = unsigned_text;
  found = unsigned_found;
  begun = λ literal h. unsigned_begun white literal low h;
  clear = unsigned_clear;
}

pub number_reader : (white : List ℕ) → are_low white ≡ true → IsLiteralReader white number is_of_number begins_no_number number_length
number_reader white low = record {
  before = number_text;
  found = number_found;
  begun = λ literal h. number_begun white literal low h;
  clear = number_clear;
}
