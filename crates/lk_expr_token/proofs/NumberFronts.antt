-- Where a text stops beginning a number that a table may hold, where the number in front of it is one.
use Rattle.std.proofs.Common.{◌≡◌, ◌⊎◌, inl, inr, ℕ, zero, suc, ◌+◌, ◌≤◌, Bool, true, false, not, ◌&&◌, nat_eq, nat_lt, if◌then◌else◌, List, [], ◌∷◌, ◌++◌, length, take, drop, Some, None, Result, Err, refl, sym, ap, subst, ◌∙◌, append_assoc, length-append, arith}
use Rattle.std.specs.Prelude.{◌==◌, is_ok}
use Rattle.std.specs.List.{list_all, position, prefix_len}
use Rattle.std.proofs.lemmas.Bool.{false≢true, lt-ltb}
use Rattle.std.proofs.lemmas.Bool.Decides.{nat_tests, Decides-eqb}
use Rattle.std.proofs.lemmas.List.{append-nil}
use Rattle.std.proofs.Math.Dec.{eqb-suc-zero}
use Rattle.std.proofs.Math.Seq.{take-append_seam, drop-append_seam}
use Rattle.lk_val.specs.declared.num.Num.{Num}
use Rattle.lk_val.specs.declared.num.NumFault.{NumFault}
use Rattle.lk_val.specs.Numbers.{num_of, decimal_at, is_digits, is_dot, in_range, magnitude, parted_of}
use Rattle.lk_grammar.specs.Forms.{IsText}
use Rattle.lk_grammar.specs.Places.{IsViable, IsPlace}
use Rattle.lk_grammar.specs.Numbers.{digit, digits, unsigned_number, is_digit, digit_count, places_length, unsigned_length}
use Rattle.lk_grammar.proofs.FormLaws.{and_both}
use Rattle.lk_grammar.proofs.NumberLaws.{unsigned_reader}
use Rattle.lk_grammar.proofs.WordLaws.{one_text}
use Rattle.lk_expr_token.specs.declared.token.Token.TheVariants as token
use Rattle.lk_expr_token.specs.declared.terminal.Terminal.TheVariants as terminal
use Rattle.lk_expr_token.specs.Tokens.{is_number}
use Rattle.lk_expr_token.specs.TokenFronts.{IsOfTerminal, is_unread}
use Rattle.lk_expr_token.specs.TerminalForms.{terminal_form}
use Rattle.lk_expr_token.proofs.LexSteps.{both}
use Rattle.lk_expr_token.proofs.TerminalLaws.{terminal_text}
use Rattle.lk_expr_token.proofs.FormFronts.{whole_viable, IsClass, range_class, class_into}
use Rattle.lk_expr_token.proofs.TerminalFronts.{terminal_is_text}

-- ---- the length of the longest front

-- behind the first digit: digits, and behind a dot digits again, of which there may be none yet
abbrev whole_place : List ℕ → ℕ
whole_place [] = 0
whole_place (b ∷ text) = if is_digit b then suc (whole_place text) else if nat_eq b 46 then suc (digit_count text) else 0

abbrev number_place : List ℕ → ℕ
number_place [] = 0
number_place (b ∷ text) = if is_digit b then suc (whole_place text) else 0

-- the length of the number in front, behind its first digit
abbrev tail_length : List ℕ → ℕ
tail_length text = digit_count text + places_length (drop (digit_count text) text)

number_is : (b : ℕ) (text : List ℕ) → is_digit b ≡ true → unsigned_length (b ∷ text) ≡ suc (tail_length text)
number_is b text d = rw (d, eqb-suc-zero (digit_count text)) (omega arith)

no_number : (b : ℕ) (text : List ℕ) → is_digit b ≡ false → unsigned_length (b ∷ text) ≡ 0
no_number b text d = rw d refl

-- ---- no longer front begins a number

counted : (text more : List ℕ) (m : ℕ) → m ≤ length text → digit_count (take m text ++ more) ≡ length (take m text ++ more) → m ≤ digit_count text
counted [] more m fits e = fits
counted (b ∷ text) more zero fits e = omega arith
counted (b ∷ text) more (suc m) fits e =
    let t = take m text ++ more in
    elim (is_digit b) as (λ d. (if d then suc (digit_count t) else 0) ≡ suc (length t) → suc m ≤ (if d then suc (digit_count text) else 0)) [
      | true ↦ λ e. let less : m ≤ digit_count text = counted text more m (omega arith) (omega (arith, e)) in omega arith
      | false ↦ λ e. absurd (omega (arith, e))
    ] e

tail_longest : (text more : List ℕ) (m : ℕ) → m ≤ length text → tail_length (take m text ++ more) ≡ length (take m text ++ more) → m ≤ whole_place text
tail_longest [] more m fits e = fits
tail_longest (b ∷ text) more zero fits e = omega arith
tail_longest (b ∷ text) more (suc m) fits e =
    let t = take m text ++ more in
    elim (is_digit b) as (λ d. (if d then suc (digit_count t) else 0) + places_length (drop (if d then suc (digit_count t) else 0) (b ∷ t)) ≡ suc (length t) → suc m ≤ (if d then suc (whole_place text) else if nat_eq b 46 then suc (digit_count text) else 0)) [
      | true ↦ λ e. let less : m ≤ whole_place text = tail_longest text more m (omega arith) (omega (arith, e)) in omega arith
      | false ↦ λ e.
          elim (nat_eq b 46) as (λ p. 0 + (if p && not (nat_eq (digit_count t) 0) then suc (digit_count t) else 0) ≡ suc (length t) → suc m ≤ (if p then suc (digit_count text) else 0)) [
            | true ↦ λ e.
                elim (nat_eq (digit_count t) 0) as (λ z. 0 + (if not z then suc (digit_count t) else 0) ≡ suc (length t) → suc m ≤ suc (digit_count text)) [
                  | true ↦ λ e. absurd (omega (arith, e))
                  | false ↦ λ e. let less : m ≤ digit_count text = counted text more m (omega arith) (omega (arith, e)) in omega arith
                ] e
            | false ↦ λ e. absurd (omega (arith, e))
          ] e
    ] e

-- a number is as long as the number in front of it
number_whole : (text : List ℕ) → IsText unsigned_number text → unsigned_length text ≡ length text
number_whole text h = ap unsigned_length (sym (append-nil text)) ∙ (unsigned_reader [] refl).found text [] h refl

number_longest : (text more : List ℕ) (m : ℕ) → m ≤ length text → IsText unsigned_number (take m text ++ more) → m ≤ number_place text
number_longest [] more m fits h = fits
number_longest (b ∷ text) more zero fits h = omega arith
number_longest (b ∷ text) more (suc m) fits h =
    let t = take m text ++ more in
    let e : unsigned_length (b ∷ t) ≡ suc (length t) = number_whole (b ∷ t) h in
    elim (is_digit b) as (λ d. is_digit b ≡ d → suc m ≤ (if d then suc (whole_place text) else 0)) [
      | true ↦ λ d. let less : m ≤ whole_place text = tail_longest text more m (omega arith) (omega (arith, e, number_is b t d)) in omega arith
      | false ↦ λ d. absurd (omega (arith, e, no_number b t d))
    ] refl

-- ---- a number with a dot behind it goes on

digits_class : IsClass digit is_digit
digits_class = range_class 48 57

digits_into : (b : ℕ) (text : List ℕ) → list_all is_digit (b ∷ text) ≡ true → IsText digits (b ∷ text)
digits_into b text h = let p = both (is_digit b) (list_all is_digit text) h in class_into digit digit is_digit is_digit digits_class digits_class b text p.0 p.1

dotted_text : (b : ℕ) (text : List ℕ) → list_all is_digit (b ∷ text) ≡ true → IsText unsigned_number ((b ∷ text) ++ 46 ∷ 48 ∷ [])
dotted_text b text h = record {
  front = b ∷ text;
  back = 46 ∷ 48 ∷ [];
  joined = refl;
  first = digits_into b text h;
  second = inl (record { front = 46 ∷ []; back = 48 ∷ []; joined = refl; first = one_text 46; second = digits_into 48 [] refl });
}

no_dot : (b : ℕ) → is_digit b ≡ true → is_dot b ≡ false
no_dot b h = grind (arith, nat_tests)

no_minus : (b : ℕ) → is_digit b ≡ true → (b == 45) ≡ false
no_minus b h = grind (arith, nat_tests)

dots_behind : (text rest : List ℕ) → list_all is_digit text ≡ true → prefix_len (λ x. not (is_dot x)) (text ++ 46 ∷ rest) ≡ length text
dots_behind [] rest h = refl
dots_behind (b ∷ text) rest h = let p = both (is_digit b) (list_all is_digit text) h in rw (no_dot b p.0) (omega (arith, dots_behind text rest p.1))

no_dots : (text : List ℕ) → list_all is_digit text ≡ true → prefix_len (λ x. not (is_dot x)) text ≡ length text
no_dots [] h = refl
no_dots (b ∷ text) h = let p = both (is_digit b) (list_all is_digit text) h in rw (no_dot b p.0) (omega (arith, no_dots text p.1))

no_position : (text : List ℕ) → list_all is_digit text ≡ true → position is_dot text ≡ None
no_position text h =
    let none : nat_lt (length text) (length text) ≡ false = grind (arith, nat_tests) in
    rw (no_dots text h, none) refl

dot_position : (text rest : List ℕ) → list_all is_digit text ≡ true → position is_dot (text ++ 46 ∷ rest) ≡ Some (length text)
dot_position text rest h =
    let some : nat_lt (length text) (length (text ++ 46 ∷ rest)) ≡ true = lt-ltb (length text) (length (text ++ 46 ∷ rest)) (omega (arith, length-append text (46 ∷ rest))) in
    rw (dots_behind text rest h, some) refl

behind_dot : (text rest : List ℕ) → drop (length text + 1) (text ++ 46 ∷ rest) ≡ rest
behind_dot text rest =
    let e : drop (length (text ++ 46 ∷ [])) ((text ++ 46 ∷ []) ++ rest) ≡ rest = drop-append_seam (text ++ 46 ∷ []) rest in
    subst (λ n. drop n (text ++ 46 ∷ rest) ≡ rest) (length-append text (46 ∷ [])) (subst (λ z. drop (length (text ++ 46 ∷ [])) z ≡ rest) (append_assoc text (46 ∷ []) rest) e)

held_if : (b : Bool) (found : Result Num NumFault) (fault : NumFault) → is_ok (if b then found else Err fault) ≡ true → (b ≡ true) × (is_ok found ≡ true)
held_if true found fault h = (refl, h)
held_if false found fault h = absurd (false≢true h)

plain_number : (b : ℕ) (text : List ℕ) → list_all is_digit (b ∷ text) ≡ true → is_number (b ∷ text) ≡ is_ok (decimal_at false (b ∷ text) None)
unfolding num_of
plain_number b text h =
    let p = both (is_digit b) (list_all is_digit text) h in
    rw (no_minus b p.0) (ap (λ o. is_ok (decimal_at false (b ∷ text) o)) (no_position (b ∷ text) h))

dotted_is : (b : ℕ) (text : List ℕ) → list_all is_digit (b ∷ text) ≡ true → is_number ((b ∷ text) ++ 46 ∷ 48 ∷ []) ≡ is_ok (parted_of false (b ∷ text) (48 ∷ []))
unfolding num_of
dotted_is b text h =
    let p = both (is_digit b) (list_all is_digit text) h in
    rw (no_minus b p.0)
    (ap (λ o. is_ok (decimal_at false ((b ∷ text) ++ 46 ∷ 48 ∷ []) o)) (dot_position (b ∷ text) (48 ∷ []) h)
    ∙ (λ i. is_ok (parted_of false (take-append_seam (b ∷ text) (46 ∷ 48 ∷ []) i) (behind_dot (b ∷ text) (48 ∷ []) i))))

dotted_number : (b : ℕ) (text : List ℕ) → list_all is_digit (b ∷ text) ≡ true → is_number (b ∷ text) ≡ true → is_number ((b ∷ text) ++ 46 ∷ 48 ∷ []) ≡ true
dotted_number b text h is =
    let held = held_if (is_digits (b ∷ text)) (in_range false (magnitude (b ∷ text) [])) _ (sym (plain_number b text h) ∙ is) in
    dotted_is b text h ∙ rw held.0 held.1

-- ---- the longest front begins a number

all_digits : (text : List ℕ) → list_all is_digit (take (digit_count text) text) ≡ true
all_digits [] = refl
all_digits (b ∷ text) =
    elim (is_digit b) as (λ d. is_digit b ≡ d → list_all is_digit (take (if d then suc (digit_count text) else 0) (b ∷ text)) ≡ true) [
      | true ↦ λ d. and_both (is_digit b) _ d (all_digits text)
      | false ↦ λ _. refl
    ] refl

-- the longest front is the number in front, or its digits and a dot
record IsDotted (text : List ℕ) : Type 0 where
  ended : tail_length text ≡ digit_count text
  front : take (whole_place text) text ≡ take (digit_count text) text ++ 46 ∷ []

dotted_more : (b : ℕ) (text : List ℕ) → is_digit b ≡ true → IsDotted text → IsDotted (b ∷ text)
dotted_more b text d h = record { ended = rw d (omega (arith, h.ended)); front = rw d (ap (λ z. b ∷ z) h.front) }

whole_front : (text : List ℕ) → (whole_place text ≡ tail_length text) ⊎ IsDotted text
whole_front [] = inl refl
whole_front (b ∷ text) =
    elim (is_digit b) as (λ d. is_digit b ≡ d → (whole_place (b ∷ text) ≡ tail_length (b ∷ text)) ⊎ IsDotted (b ∷ text)) [
      | true ↦ λ d. elim (whole_front text) [ inl e ↦ inl (rw d (omega (arith, e))) | inr h ↦ inr (dotted_more b text d h) ]
      | false ↦ λ d.
          elim (nat_eq b 46) as (λ p. nat_eq b 46 ≡ p → (whole_place (b ∷ text) ≡ tail_length (b ∷ text)) ⊎ IsDotted (b ∷ text)) [
            | true ↦ λ p.
                elim (nat_eq (digit_count text) 0) as (λ z. nat_eq (digit_count text) 0 ≡ z → (whole_place (b ∷ text) ≡ tail_length (b ∷ text)) ⊎ IsDotted (b ∷ text)) [
                  | true ↦ λ z. let none : digit_count text ≡ 0 = (Decides-eqb (digit_count text) 0).0 z in inr (record { ended = rw (d, p, z) refl; front = rw (d, p, none) (ap (λ z. z ∷ []) ((Decides-eqb b 46).0 p)) })
                  | false ↦ λ z. inl (rw (d, p, z) (omega arith))
                ] refl
            | false ↦ λ p. inl (rw (d, p) refl)
          ] refl
    ] refl

number_into : (text : List ℕ) → IsText unsigned_number text → is_number text ≡ true → IsOfTerminal terminal.Number text
number_into text h is = (0, token.Number text, refl, (refl, h, is, refl))

readable : (text : List ℕ) → nat_eq (unsigned_length text) 0 ≡ false → is_unread text ≡ false → is_number (take (unsigned_length text) text) ≡ true
readable text some h = by (nat_eq (unsigned_length text) 0) (is_number (take (unsigned_length text) text)) some h
  where
    by : (z n : Bool) → z ≡ false → (not z && not n) ≡ false → n ≡ true
    by true n s h = absurd (false≢true (sym s))
    by false true s h = refl
    by false false s h = absurd (false≢true (sym h))

digit_front : (b : ℕ) (text : List ℕ) → is_digit b ≡ true → is_unread (b ∷ text) ≡ false → IsViable (IsOfTerminal terminal.Number) (b ∷ take (whole_place text) text)
digit_front b text d read =
    let some : nat_eq (unsigned_length (b ∷ text)) 0 ≡ false = ap (λ n. nat_eq n 0) (number_is b text d) ∙ eqb-suc-zero (tail_length text) in
    let held : is_number (b ∷ take (tail_length text) text) ≡ true = subst (λ n. is_number (take n (b ∷ text)) ≡ true) (number_is b text d) (readable (b ∷ text) some read) in
    let spelled : IsText unsigned_number (b ∷ take (tail_length text) text) = subst (λ n. IsText unsigned_number (take n (b ∷ text))) (number_is b text d) ((unsigned_reader [] refl).before (b ∷ text) some) in
    elim (whole_front text) [
      | inl e ↦ subst (λ n. IsViable (IsOfTerminal terminal.Number) (b ∷ take n text)) (sym e) (whole_viable (IsOfTerminal terminal.Number) (b ∷ take (tail_length text) text) (number_into (b ∷ take (tail_length text) text) spelled held))
      | inr h ↦
          let whole = take (digit_count text) text in
          let all = and_both (is_digit b) _ d (all_digits text) in
          let held : is_number (b ∷ whole) ≡ true = subst (λ n. is_number (b ∷ take n text) ≡ true) h.ended held in
          let is = number_into ((b ∷ whole) ++ 46 ∷ 48 ∷ []) (dotted_text b whole all) (dotted_number b whole all held) in
          (48 ∷ [], subst (IsOfTerminal terminal.Number) (sym (ap (λ z. (b ∷ z) ++ 48 ∷ []) h.front ∙ append_assoc (b ∷ whole) (46 ∷ []) (48 ∷ []))) is)
    ]

number_front : (text : List ℕ) → is_unread text ≡ false → IsViable (IsOfTerminal terminal.Number) (take (number_place text) text)
number_front [] read = terminal_text terminal.Number
number_front (b ∷ text) read =
    elim (is_digit b) as (λ d. is_digit b ≡ d → IsViable (IsOfTerminal terminal.Number) (take (if d then suc (whole_place text) else 0) (b ∷ text))) [
      | true ↦ λ d. digit_front b text d read
      | false ↦ λ _. terminal_text terminal.Number
    ] refl

count_within : (text : List ℕ) → digit_count text ≤ length text
count_within [] = omega arith
count_within (b ∷ text) =
    let more : digit_count text ≤ length text = count_within text in
    elim (is_digit b) as (λ d. (if d then suc (digit_count text) else 0) ≤ suc (length text)) [ true ↦ omega arith | false ↦ omega arith ]

whole_within : (text : List ℕ) → whole_place text ≤ length text
whole_within [] = omega arith
whole_within (b ∷ text) =
    let more : whole_place text ≤ length text = whole_within text in
    let count : digit_count text ≤ length text = count_within text in
    elim (is_digit b) as (λ d. (if d then suc (whole_place text) else if nat_eq b 46 then suc (digit_count text) else 0) ≤ suc (length text)) [
      | true ↦ omega arith
      | false ↦ elim (nat_eq b 46) as (λ p. (if p then suc (digit_count text) else 0) ≤ suc (length text)) [ true ↦ omega arith | false ↦ omega arith ]
    ]

place_within : (text : List ℕ) → number_place text ≤ length text
place_within [] = omega arith
place_within (b ∷ text) =
    let more : whole_place text ≤ length text = whole_within text in
    elim (is_digit b) as (λ d. (if d then suc (whole_place text) else 0) ≤ suc (length text)) [ true ↦ omega arith | false ↦ omega arith ]

number_text : (text : List ℕ) → IsOfTerminal terminal.Number text → IsText unsigned_number text
unfolding terminal_form
number_text text h = terminal_is_text terminal.Number unsigned_number text refl h

viable_text : (front : List ℕ) → IsViable (IsOfTerminal terminal.Number) front → IsViable (IsText unsigned_number) front
viable_text front v = (v.0, number_text (front ++ v.0) v.1)

-- the place among all numbers is the place among those that a table may hold
pub numbers_placed : (text : List ℕ) (n : ℕ) → is_unread text ≡ false → IsPlace (IsText unsigned_number) text n → IsPlace (IsOfTerminal terminal.Number) text n
numbers_placed text n read place =
    let v = number_front text read in
    let least : number_place text ≤ n = place.longest (number_place text) (place_within text) (viable_text (take (number_place text) text) v) in
    let most : n ≤ number_place text = number_longest text place.begins.0 n place.within place.begins.1 in
    let e : number_place text ≡ n = omega arith in
    record {
      within = place.within;
      begins = subst (λ m. IsViable (IsOfTerminal terminal.Number) (take m text)) e v;
      longest = λ m fits more. place.longest m fits (viable_text (take m text) more);
    }
