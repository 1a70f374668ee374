-- A number of one or two digits is found whole, what is found is such a number, and a text of one of some numbers is a text of some one of them.
use Rattle.std.proofs.Common.{◌≡◌, inl, inr, ℕ, zero, suc, ◌+◌, ◌-◌, ◌/◌, ◌%◌, ◌≤◌, ◌<◌, Bool, true, false, not, nat_eq, nat_le, List, [], ◌∷◌, ◌++◌, Option, Some, None, if◌then◌else◌, refl, sym, ap, subst, ◌∙◌, arith}
use Rattle.std.proofs.lemmas.Bool.{false≢true, leb-true, le-leb}
use Rattle.std.proofs.lemmas.Bool.Decides.{Decides-eqb}
use Rattle.lk_grammar.specs.Forms.{Form, nothing, IsText}
use Rattle.lk_grammar.specs.Words.{one}
use Rattle.lk_grammar.specs.Literals.{is_ended}
use Rattle.lk_grammar.specs.Numbers.{is_digit}
use Rattle.lk_grammar.proofs.ReadingLaws.{none_some, some_is}
use Rattle.lk_grammar.proofs.WordLaws.{one_text, text_one}
use Rattle.lk_filter_date.specs.DateTexts.{pair_value, numeral_from, first_numeral, pair, numeral, each_from}
use Rattle.lk_filter_date.proofs.DateLiteralLaws.{same, is_false, is_digit_from, digit_low, digit_high}

-- ---- numbers of two digits, and of one

pub one_at : (a b : ℕ) → a ≡ b → IsText (one a) (b ∷ [])
one_at a b e = subst (λ z. IsText (one a) (z ∷ [])) e (one_text a)

pub digits_pair : (a b : ℕ) → is_digit a ≡ true → is_digit b ≡ true → IsText (pair (pair_value a b)) (a ∷ b ∷ [])
digits_pair a b p q =
    let la : 48 ≤ a = digit_low a p in
    let ha : a ≤ 57 = digit_high a p in
    let lb : 48 ≤ b = digit_low b q in
    let hb : b ≤ 57 = digit_high b q in
    record {
      front = a ∷ [];
      back = b ∷ [];
      joined = refl;
      first = one_at (48 + pair_value a b / 10) a (omega arith);
      second = one_at (48 + pair_value a b % 10) b (omega arith);
    }

-- two digits of a number
pub record IsPairText (n : ℕ) (text : List ℕ) : Type 0 where
  pub a : ℕ
  pub b : ℕ
  pub is : text ≡ a ∷ b ∷ []
  pub tens : is_digit a ≡ true
  pub ones : is_digit b ≡ true
  pub value : pair_value a b ≡ n

pub pair_digits : (n : ℕ) (text : List ℕ) → n < 100 → IsText (pair n) text → IsPairText n text
pair_digits n text small h = record {
  a = 48 + n / 10;
  b = 48 + n % 10;
  is = h.joined ∙ ap (λ z. z ++ h.back) (text_one (48 + n / 10) h.front h.first) ∙ ap (λ z. (48 + n / 10) ∷ z) (text_one (48 + n % 10) h.back h.second);
  tens = is_digit_from (48 + n / 10) (omega arith) (omega (arith, small));
  ones = is_digit_from (48 + n % 10) (omega arith) (omega arith);
  value = omega arith;
}

by_size : (n b : ℕ) (text : List ℕ) → n ≤ 9 → IsText (one (48 + n)) text → IsText (numeral n) text
by_size n b text small h = inr (subst (λ z. IsText (if z then one (48 + n) else nothing) text) (sym (le-leb n 9 small)) h)

abbrev number_and : ℕ → List ℕ → Option (ℕ × List ℕ)
number_and n rest = Some (n, rest)

found_as : (m n : ℕ) (rest : List ℕ) → m ≡ n → number_and m rest ≡ number_and n rest
found_as m n rest e = rw e refl

-- a number of one or two digits is found whole before what begins with no digit
pub numeral_found : (n : ℕ) (text rest : List ℕ) → n < 100 → IsText (numeral n) text → is_ended is_digit rest ≡ true → first_numeral (text ++ rest) ≡ Some (n, rest)
numeral_found n text rest small (inl h) ended =
    let p = pair_digits n text small h in
    subst (λ z. first_numeral (z ++ rest) ≡ Some (n, rest)) (sym p.is) (rw (p.tens, p.ones) (ap (λ z. Some (z, rest)) p.value))
numeral_found n text rest small (inr h) ended =
    elim (nat_le n 9) as (λ t. nat_le n 9 ≡ t → IsText (if t then one (48 + n) else nothing) text → first_numeral (text ++ rest) ≡ Some (n, rest)) [
      | true ↦ λ t h.
          let upto : n ≤ 9 = leb-true n 9 t in
          subst (λ z. first_numeral (z ++ rest) ≡ Some (n, rest)) (sym (text_one (48 + n) text h)) (alone rest ended (is_digit_from (48 + n) (omega arith) (omega (arith, upto))))
      | false ↦ λ t h. absurd h
    ] refl h
  where
    no_digit : (b : ℕ) → not (is_digit b) ≡ true → is_digit b ≡ false
    no_digit b h = is_false (is_digit b) (λ d. false≢true (rw d at h))

    alone : (rest : List ℕ) → is_ended is_digit rest ≡ true → is_digit (48 + n) ≡ true → first_numeral ((48 + n) ∷ rest) ≡ Some (n, rest)
    alone [] ended d = rw d (found_as (48 + n - 48) n [] (omega arith))
    alone (b ∷ rest) ended d = rw (d, no_digit b ended) (found_as (48 + n - 48) n (b ∷ rest) (omega arith))

abbrev second_digit : Bool → ℕ → ℕ → List ℕ → ℕ × List ℕ
second_digit is_one a b text = if is_one then (pair_value a b, text) else (a - 48, b ∷ text)

pub record IsNumeralText (n : ℕ) (rest text : List ℕ) : Type 0 where
  pub front : List ℕ
  pub joined : text ≡ front ++ rest
  pub spelled : IsText (numeral n) front

pub numeral_before : (text : List ℕ) (n : ℕ × List ℕ) → first_numeral text ≡ Some n → IsNumeralText n.0 n.1 text
numeral_before [] n e = absurd (none_some e)
numeral_before (a ∷ text) n e =
    elim (is_digit a) as (λ d. is_digit a ≡ d → (if d then Some (numeral_from a text) else None) ≡ Some n → IsNumeralText n.0 n.1 (a ∷ text)) [
      | true ↦ λ d e. subst (λ z. IsNumeralText z.0 z.1 (a ∷ text)) (some_is (numeral_from a text) n e) (digits a text d)
      | false ↦ λ d e. absurd (none_some e)
    ] refl e
  where
    single : (a : ℕ) (text : List ℕ) → is_digit a ≡ true → IsNumeralText (a - 48) text (a ∷ text)
    single a text d =
        let low : 48 ≤ a = digit_low a d in
        let high : a ≤ 57 = digit_high a d in
        record { front = a ∷ []; joined = refl; spelled = by_size (a - 48) a (a ∷ []) (omega arith) (one_at (48 + (a - 48)) a (omega arith)) }

    digits : (a : ℕ) (text : List ℕ) → is_digit a ≡ true → IsNumeralText (numeral_from a text).0 (numeral_from a text).1 (a ∷ text)
    digits a [] d = single a [] d
    digits a (b ∷ text) d =
        elim (is_digit b) as (λ t. is_digit b ≡ t → IsNumeralText (second_digit t a b text).0 (second_digit t a b text).1 (a ∷ b ∷ text)) [
          | true ↦ λ t. record { front = a ∷ b ∷ []; joined = refl; spelled = inl (digits_pair a b d t) }
          | false ↦ λ t. single a (b ∷ text) d
        ] refl

-- ---- one of some numbers

pub each_there : (form_of : ℕ → Form) (first count n : ℕ) (text : List ℕ) → first ≤ n → n < first + count → IsText (form_of n) text → IsText (each_from form_of first count) text
each_there form_of first zero n text low high h = absurd (omega (arith, low, high))
each_there form_of first (suc count) n text low high h =
    elim (nat_eq first n) as (λ e. nat_eq first n ≡ e → IsText (each_from form_of first (suc count)) text) [
      | true ↦ λ e. inl (subst (λ z. IsText (form_of z) text) (sym (same first n e)) h)
      | false ↦ λ e. inr (each_there form_of (suc first) count n text (differs e) (omega (arith, high)) h)
    ] refl
  where
    no_less : nat_le (suc first) n ≡ false → suc first ≤ n → ⊥
    no_less t h = false≢true (sym t ∙ le-leb (suc first) n h)

    equal : nat_le (suc first) n ≡ false → first ≡ n
    equal t = omega (arith, low, no_less t)

    differs : nat_eq first n ≡ false → suc first ≤ n
    differs e =
        elim (nat_le (suc first) n) as (λ t. nat_le (suc first) n ≡ t → suc first ≤ n) [
          | true ↦ λ t. leb-true (suc first) n t
          | false ↦ λ t. absurd (false≢true (sym e ∙ (Decides-eqb first n).1 (equal t)))
        ] refl

-- a text of one of the forms
pub record IsEachText (form_of : ℕ → Form) (first count : ℕ) (text : List ℕ) : Type 0 where
  pub n : ℕ
  pub low : first ≤ n
  pub high : n < first + count
  pub spelled : IsText (form_of n) text

pub each_back : (form_of : ℕ → Form) (first count : ℕ) (text : List ℕ) → IsText (each_from form_of first count) text → IsEachText form_of first count text
each_back form_of first zero text h = absurd h
each_back form_of first (suc count) text (inl h) = record { n = first; low = omega arith; high = omega arith; spelled = h }
each_back form_of first (suc count) text (inr h) =
    let e = each_back form_of (suc first) count text h in
    let low : suc first ≤ e.n = e.low in
    let high : e.n < suc first + count = e.high in
    record { n = e.n; low = omega arith; high = omega arith; spelled = e.spelled }
