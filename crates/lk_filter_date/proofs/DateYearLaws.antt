-- The texts of the form of years are the four digits that are a year, and those of the form of leap years the ones that are a leap year.
use Rattle.std.proofs.Common.{◌≡◌, ◌⊎◌, inl, inr, ℕ, ◌+◌, ◌*◌, ◌/◌, ◌%◌, ◌≤◌, ◌<◌, true, false, not, ◌&&◌, ◌||◌, nat_eq, nat_le, nat_lt, List, [], ◌∷◌, ◌++◌, Some, None, if◌then◌else◌, refl, sym, ap, subst, ◌∙◌, arith}
use Rattle.std.proofs.lemmas.Bool.{false≢true, leb-true, le-leb, ltb-true}
use Rattle.std.proofs.lemmas.Bool.Decides.{Decides-eqb, Decides-ltb}
use Rattle.lk_grammar.specs.Forms.{IsText}
use Rattle.lk_grammar.specs.Numbers.{is_digit}
use Rattle.lk_grammar.proofs.FormLaws.{both, one_of}
use Rattle.lk_grammar.proofs.ReadingLaws.{none_some, some_is}
use Rattle.lk_grammar.proofs.WordLaws.{text_one}
use Rattle.lk_types.specs.Calendar.{is_leap}
use Rattle.lk_filter_date.specs.DateTexts.{pair_value, year_of_digits, pair, four_times, fourths, two_digits, some_digits, year_form, leap_form}
use Rattle.lk_filter_date.proofs.DateLiteralLaws.{same, is_false, digit_text, is_digit_from, digit_low, digit_high, text_digit}
use Rattle.lk_filter_date.proofs.DateNumeralLaws.{one_at, digits_pair, pair_digits, each_there, each_back}

-- ---- years

some_digits_text : (a b : ℕ) → is_digit a ≡ true → is_digit b ≡ true → 0 < pair_value a b → IsText some_digits (a ∷ b ∷ [])
some_digits_text a b p q some =
    elim (nat_le 49 a) as (λ t. nat_le 49 a ≡ t → IsText some_digits (a ∷ b ∷ [])) [
      | true ↦ λ t. inl (record { front = a ∷ []; back = b ∷ []; joined = refl; first = record { value = a; from = leb-true 49 a t; upto = digit_high a p; alone = refl }; second = digit_text b q })
      | false ↦ λ t.
          let below : 49 ≤ a → ⊥ = λ h. false≢true (sym t ∙ le-leb 49 a h) in
          let low : 48 ≤ a = digit_low a p in
          let is_zero : 48 ≡ a = omega (arith, low, below) in
          inr (record { front = a ∷ []; back = b ∷ []; joined = refl; first = one_at 48 a is_zero; second = record { value = b; from = omega (arith, some, is_zero); upto = digit_high b q; alone = refl } })
    ] refl

two_digits_text : (a b : ℕ) → is_digit a ≡ true → is_digit b ≡ true → IsText two_digits (a ∷ b ∷ [])
two_digits_text a b p q = record { front = a ∷ []; back = b ∷ []; joined = refl; first = digit_text a p; second = digit_text b q }

-- two digits
record IsTwoText (text : List ℕ) : Type 0 where
  a : ℕ
  b : ℕ
  is : text ≡ a ∷ b ∷ []
  tens : is_digit a ≡ true
  ones : is_digit b ≡ true

text_two : (text : List ℕ) → IsText two_digits text → IsTwoText text
text_two text h =
    let t = text_digit h.front h.first in
    let o = text_digit h.back h.second in
    record { a = t.value; b = o.value; is = h.joined ∙ ap (λ z. z ++ h.back) t.alone ∙ ap (λ z. t.value ∷ z) o.alone; tens = t.is; ones = o.is }

record IsSomeText (text : List ℕ) : Type 0 where
  two : IsTwoText text
  some : 0 < pair_value two.a two.b

text_some : (text : List ℕ) → IsText some_digits text → IsSomeText text
text_some text (inl h) =
    let o = text_digit h.back h.second in
    let first = h.first in
    let from : 49 ≤ first.value = first.from in
    record {
      two = record { a = first.value; b = o.value; is = h.joined ∙ ap (λ z. z ++ h.back) first.alone ∙ ap (λ z. first.value ∷ z) o.alone; tens = is_digit_from first.value (omega (arith, from)) first.upto; ones = o.is };
      some = omega (arith, from);
    }
text_some text (inr h) =
    let second = h.second in
    let from : 49 ≤ second.value = second.from in
    record {
      two = record { a = 48; b = second.value; is = h.joined ∙ ap (λ z. z ++ h.back) (text_one 48 h.front h.first) ∙ ap (λ z. 48 ∷ z) second.alone; tens = refl; ones = is_digit_from second.value (omega (arith, from)) second.upto };
      some = omega (arith, from);
    }

-- a year in four digits
pub record IsYearText (text : List ℕ) : Type 0 where
  pub a : ℕ
  pub b : ℕ
  pub c : ℕ
  pub d : ℕ
  pub is : text ≡ a ∷ b ∷ c ∷ d ∷ []
  pub read : year_of_digits a b c d ≡ Some (100 * pair_value a b + pair_value c d)

four : (a b c d : ℕ) (text front back : List ℕ) → text ≡ front ++ back → front ≡ a ∷ b ∷ [] → back ≡ c ∷ d ∷ [] → is_digit a ≡ true → is_digit b ≡ true → is_digit c ≡ true → is_digit d ≡ true → 0 < 100 * pair_value a b + pair_value c d → IsYearText text
four a b c d text front back joined first second p q r s some =
    record { a = a; b = b; c = c; d = d; is = joined ∙ ap (λ z. z ++ back) first ∙ ap (λ z. a ∷ b ∷ z) second; read = rw (p, q, r, s, (Decides-ltb 0 (100 * pair_value a b + pair_value c d)).1 some) refl }

pub text_year : (text : List ℕ) → IsText year_form text → IsYearText text
text_year text (inl h) =
    let x = text_some h.front h.first in
    let y = text_two h.back h.second in
    let some : 0 < pair_value x.two.a x.two.b = x.some in
    four x.two.a x.two.b y.a y.b text h.front h.back h.joined x.two.is y.is x.two.tens x.two.ones y.tens y.ones (omega (arith, some))
text_year text (inr h) =
    let x = pair_digits 0 h.front (omega arith) h.first in
    let y = text_some h.back h.second in
    let some : 0 < pair_value y.two.a y.two.b = y.some in
    four x.a x.b y.two.a y.two.b text h.front h.back h.joined x.is y.two.is x.tens x.ones y.two.tens y.two.ones (omega (arith, some))

-- what was tested of four digits
pub record AreYearDigits (a b c d year : ℕ) : Type 0 where
  thousands : is_digit a ≡ true
  hundreds : is_digit b ≡ true
  tens : is_digit c ≡ true
  ones : is_digit d ≡ true
  some : 0 < 100 * pair_value a b + pair_value c d
  pub is : 100 * pair_value a b + pair_value c d ≡ year

pub year_digits : (a b c d year : ℕ) → year_of_digits a b c d ≡ Some year → AreYearDigits a b c d year
year_digits a b c d year e =
    elim (is_digit a && is_digit b && is_digit c && is_digit d && nat_lt 0 (100 * pair_value a b + pair_value c d)) as (λ t. (is_digit a && is_digit b && is_digit c && is_digit d && nat_lt 0 (100 * pair_value a b + pair_value c d)) ≡ t → (if t then Some (100 * pair_value a b + pair_value c d) else None) ≡ Some year → AreYearDigits a b c d year) [
      | true ↦ λ t e.
          let p = both (is_digit a && is_digit b && is_digit c && is_digit d) (nat_lt 0 (100 * pair_value a b + pair_value c d)) t in
          let q = both (is_digit a && is_digit b && is_digit c) (is_digit d) p.0 in
          let r = both (is_digit a && is_digit b) (is_digit c) q.0 in
          let s = both (is_digit a) (is_digit b) r.0 in
          record { thousands = s.0; hundreds = s.1; tens = r.1; ones = q.1; some = ltb-true 0 (100 * pair_value a b + pair_value c d) p.1; is = some_is (100 * pair_value a b + pair_value c d) year e }
      | false ↦ λ t e. absurd (none_some e)
    ] refl e

pub year_text : (a b c d year : ℕ) → AreYearDigits a b c d year → IsText year_form (a ∷ b ∷ c ∷ d ∷ [])
year_text a b c d year h =
    elim (nat_lt 0 (pair_value a b)) as (λ t. nat_lt 0 (pair_value a b) ≡ t → IsText year_form (a ∷ b ∷ c ∷ d ∷ [])) [
      | true ↦ λ t. inl (record { front = a ∷ b ∷ []; back = c ∷ d ∷ []; joined = refl; first = some_digits_text a b h.thousands h.hundreds (ltb-true 0 (pair_value a b) t); second = two_digits_text c d h.tens h.ones })
      | false ↦ λ t.
          let none : 0 < pair_value a b → ⊥ = λ p. false≢true (sym t ∙ (Decides-ltb 0 (pair_value a b)).1 p) in
          let some : 0 < 100 * pair_value a b + pair_value c d = h.some in
          let is_zero : pair_value a b ≡ 0 = omega (arith, none) in
          inr (record { front = a ∷ b ∷ []; back = c ∷ d ∷ []; joined = refl; first = subst (λ z. IsText (pair z) (a ∷ b ∷ [])) is_zero (digits_pair a b h.thousands h.hundreds); second = some_digits_text c d h.tens h.ones (omega (arith, some, is_zero)) })
    ] refl

-- ---- leap years

-- multiples of 4 that are no century, and those of 400
leap_pair : (p k : ℕ) → 1 ≤ k → k ≤ 24 → is_leap (100 * p + 4 * k) ≡ true
leap_pair p k low high = rw (fourth, no_century) refl
  where
    fourth : nat_eq ((100 * p + 4 * k) % 4) 0 ≡ true
    fourth = (Decides-eqb ((100 * p + 4 * k) % 4) 0).1 (omega arith)

    no_century : nat_eq ((100 * p + 4 * k) % 100) 0 ≡ false
    no_century = is_false (nat_eq ((100 * p + 4 * k) % 100) 0) (λ e. let is : (100 * p + 4 * k) % 100 ≡ 0 = same ((100 * p + 4 * k) % 100) 0 e in omega (arith, low, high, is))

leap_century : (k : ℕ) → is_leap (100 * (4 * k) + 0) ≡ true
leap_century k = rw (fourth, century, fourth_century) refl
  where
    fourth : nat_eq ((100 * (4 * k) + 0) % 4) 0 ≡ true
    fourth = (Decides-eqb ((100 * (4 * k) + 0) % 4) 0).1 (omega arith)

    century : nat_eq ((100 * (4 * k) + 0) % 100) 0 ≡ true
    century = (Decides-eqb ((100 * (4 * k) + 0) % 100) 0).1 (omega arith)

    fourth_century : nat_eq ((100 * (4 * k) + 0) % 400) 0 ≡ true
    fourth_century = (Decides-eqb ((100 * (4 * k) + 0) % 400) 0).1 (omega arith)

-- a leap year in four digits
pub record IsLeapText (text : List ℕ) : Type 0 where
  pub year : IsYearText text
  pub leap : is_leap (100 * pair_value year.a year.b + pair_value year.c year.d) ≡ true

pub text_leap : (text : List ℕ) → IsText leap_form text → IsLeapText text
unfolding four text_two
text_leap text (inl h) =
    let x = text_two h.front h.first in
    let e = each_back four_times 1 24 h.back h.second in
    let low : 1 ≤ e.n = e.low in
    let high : e.n < 1 + 24 = e.high in
    let y = pair_digits (4 * e.n) h.back (omega (arith, high)) e.spelled in
    let value : pair_value y.a y.b ≡ 4 * e.n = y.value in
    record {
      year = four x.a x.b y.a y.b text h.front h.back h.joined x.is y.is x.tens x.ones y.tens y.ones (omega (arith, value, low));
      leap = subst (λ z. is_leap (100 * pair_value x.a x.b + z) ≡ true) (sym value) (leap_pair (pair_value x.a x.b) e.n low (omega (arith, high)));
    }
text_leap text (inr h) =
    let e = each_back four_times 1 24 h.front h.first in
    let low : 1 ≤ e.n = e.low in
    let high : e.n < 1 + 24 = e.high in
    let x = pair_digits (4 * e.n) h.front (omega (arith, high)) e.spelled in
    let y = pair_digits 0 h.back (omega arith) h.second in
    let century : pair_value x.a x.b ≡ 4 * e.n = x.value in
    let none : pair_value y.a y.b ≡ 0 = y.value in
    record {
      year = four x.a x.b y.a y.b text h.front h.back h.joined x.is y.is x.tens x.ones y.tens y.ones (omega (arith, century, low));
      leap = subst (λ z. is_leap (100 * z + pair_value y.a y.b) ≡ true) (sym century) (subst (λ z. is_leap (100 * (4 * e.n) + z) ≡ true) (sym none) (leap_century e.n));
    }

fourth_text : (a b : ℕ) → is_digit a ≡ true → is_digit b ≡ true → pair_value a b % 4 ≡ 0 → 0 < pair_value a b → IsText fourths (a ∷ b ∷ [])
fourth_text a b p q fourth some =
    let ha : a ≤ 57 = digit_high a p in
    let hb : b ≤ 57 = digit_high b q in
    let is : pair_value a b ≡ 4 * (pair_value a b / 4) = omega (arith, fourth) in
    each_there four_times 1 24 (pair_value a b / 4) (a ∷ b ∷ []) (omega (arith, is, some)) (omega (arith, ha, hb)) (subst (λ z. IsText (pair z) (a ∷ b ∷ [])) is (digits_pair a b p q))

pub leap_text : (a b c d year : ℕ) → AreYearDigits a b c d year → is_leap (100 * pair_value a b + pair_value c d) ≡ true → IsText leap_form (a ∷ b ∷ c ∷ d ∷ [])
leap_text a b c d year h leap =
    elim (nat_lt 0 (pair_value c d)) as (λ t. nat_lt 0 (pair_value c d) ≡ t → IsText leap_form (a ∷ b ∷ c ∷ d ∷ [])) [
      | true ↦ λ t. inl (record { front = a ∷ b ∷ []; back = c ∷ d ∷ []; joined = refl; first = two_digits_text a b h.thousands h.hundreds; second = fourth_text c d h.tens h.ones (omega (arith, fourth)) (ltb-true 0 (pair_value c d) t) })
      | false ↦ λ t.
          let none : 0 < pair_value c d → ⊥ = λ p. false≢true (sym t ∙ (Decides-ltb 0 (pair_value c d)).1 p) in
          let is_zero : pair_value c d ≡ 0 = omega (arith, none) in
          let some : 0 < 100 * pair_value a b + pair_value c d = h.some in
          inr (record { front = a ∷ b ∷ []; back = c ∷ d ∷ []; joined = refl; first = fourth_text a b h.thousands h.hundreds (by_century is_zero (one_of (not (nat_eq ((100 * pair_value a b + pair_value c d) % 100) 0)) (nat_eq ((100 * pair_value a b + pair_value c d) % 400) 0) tested.1)) (omega (arith, some, is_zero)); second = subst (λ z. IsText (pair z) (c ∷ d ∷ [])) is_zero (digits_pair c d h.tens h.ones) })
    ] refl
  where
    tested : (nat_eq ((100 * pair_value a b + pair_value c d) % 4) 0 ≡ true) × ((not (nat_eq ((100 * pair_value a b + pair_value c d) % 100) 0) || nat_eq ((100 * pair_value a b + pair_value c d) % 400) 0) ≡ true)
    tested = both (nat_eq ((100 * pair_value a b + pair_value c d) % 4) 0) (not (nat_eq ((100 * pair_value a b + pair_value c d) % 100) 0) || nat_eq ((100 * pair_value a b + pair_value c d) % 400) 0) leap

    fourth : (100 * pair_value a b + pair_value c d) % 4 ≡ 0
    fourth = same ((100 * pair_value a b + pair_value c d) % 4) 0 tested.0

    by_century : pair_value c d ≡ 0 → ((not (nat_eq ((100 * pair_value a b + pair_value c d) % 100) 0) ≡ true) ⊎ (nat_eq ((100 * pair_value a b + pair_value c d) % 400) 0 ≡ true)) → pair_value a b % 4 ≡ 0
    by_century is_zero (inl differs) = absurd (false≢true (ap not (sym ((Decides-eqb ((100 * pair_value a b + pair_value c d) % 100) 0).1 (omega (arith, is_zero)))) ∙ differs))
    by_century is_zero (inr divides) =
        let is : (100 * pair_value a b + pair_value c d) % 400 ≡ 0 = same ((100 * pair_value a b + pair_value c d) % 400) 0 divides in
        omega (arith, is, is_zero)
