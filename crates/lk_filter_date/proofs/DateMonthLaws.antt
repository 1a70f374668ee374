-- The texts of the forms of what is behind a year are those that are read there: a month, a day of a month, and 29 February of a leap year.
use Rattle.std.proofs.Common.{◌≡◌, ◌⊎◌, inl, inr, ℕ, zero, suc, ◌+◌, ◌-◌, ◌≤◌, ◌<◌, Bool, true, false, ◌&&◌, nat_eq, nat_le, List, [], ◌∷◌, ◌++◌, slice_index, Option, Some, None, if◌then◌else◌, refl, sym, ap, subst, ◌∙◌, append-nil, arith}
use Rattle.std.specs.Option.{option_and_then}
use Rattle.std.specs.List.{list_all}
use Rattle.std.proofs.lemmas.Bool.{false≢true, leb-true, le-leb}
use Rattle.lk_grammar.specs.Forms.{IsText, seq, optional}
use Rattle.lk_grammar.specs.Literals.{is_ended}
use Rattle.lk_grammar.specs.Numbers.{is_digit}
use Rattle.lk_grammar.proofs.FormLaws.{both, and_both, one_of}
use Rattle.lk_grammar.proofs.ReadingLaws.{none_some, then_before}
use Rattle.lk_grammar.proofs.WordLaws.{text_one}
use Rattle.lk_types.specs.Calendar.{is_leap}
use Rattle.lk_types.specs.declared.filter.Days.{Days}
use Rattle.lk_filter_date.specs.DateTexts.{month_length, days_of_month, days_of_day, is_separator, first_numeral, first_part, day_at, month_at, year_at, separator, pair, numeral, numerals, month_form, in_year_form, leap_day_form}
use Rattle.lk_filter_date.proofs.DateLiteralLaws.{same}
use Rattle.lk_filter_date.proofs.DateNumeralLaws.{one_at, numeral_found, IsNumeralText, numeral_before, each_there, each_back}

separator_text : (b : ℕ) → is_separator b ≡ true → IsText separator (b ∷ [])
separator_text b h =
    elim (one_of (nat_eq b 45) (nat_eq b 47) h) [
      | inl e ↦ inl (one_at 45 b (sym (same b 45 e)))
      | inr e ↦ inr (one_at 47 b (sym (same b 47 e)))
    ]

record IsSeparatorText (text : List ℕ) : Type 0 where
  b : ℕ
  is : text ≡ b ∷ []
  separates : is_separator b ≡ true
  ends : is_digit b ≡ false

text_separator : (text : List ℕ) → IsText separator text → IsSeparatorText text
text_separator text (inl h) = record { b = 45; is = text_one 45 text h; separates = refl; ends = refl }
text_separator text (inr h) = record { b = 47; is = text_one 47 text h; separates = refl; ends = refl }

bounded : (lengths : List ℕ) (i : ℕ) → list_all (λ n. nat_le n 31) lengths ≡ true → slice_index lengths i ≤ 31
bounded [] i h = omega arith
bounded (n ∷ lengths) zero h = leb-true n 31 (both (nat_le n 31) (list_all (λ n. nat_le n 31) lengths) h).0
bounded (n ∷ lengths) (suc i) h = bounded lengths i (both (nat_le n 31) (list_all (λ n. nat_le n 31) lengths) h).1

length_bound : (month : ℕ) → month_length false month ≤ 31
length_bound month = bounded (31 ∷ 28 ∷ 31 ∷ 30 ∷ 31 ∷ 30 ∷ 31 ∷ 31 ∷ 30 ∷ 31 ∷ 30 ∷ 31 ∷ []) (month - 1) refl

no_shorter : (i : ℕ) (lengths : List ℕ) → slice_index (31 ∷ 28 ∷ lengths) i ≤ slice_index (31 ∷ 29 ∷ lengths) i
no_shorter zero lengths = omega arith
no_shorter (suc zero) lengths = omega arith
no_shorter (suc (suc i)) lengths = omega arith

-- a month of a leap year is no shorter than of another
in_leap : (leap : Bool) (month : ℕ) → month_length false month ≤ month_length leap month
in_leap false month = omega arith
in_leap true month = no_shorter (month - 1) (31 ∷ 30 ∷ 31 ∷ 30 ∷ 31 ∷ 31 ∷ 30 ∷ 31 ∷ 30 ∷ 31 ∷ [])

longer : (i day : ℕ) (lengths : List ℕ) → day ≤ slice_index (31 ∷ 29 ∷ lengths) i → (day ≤ slice_index (31 ∷ 28 ∷ lengths) i → ⊥) → (i ≡ 1) × (day ≡ 29)
longer zero day lengths high over = absurd (over high)
longer (suc zero) day lengths high over = (refl, omega (arith, high, over))
longer (suc (suc i)) day lengths high over = absurd (over high)

-- a day that a month has in leap years alone is 29 February
only_leap : (leap : Bool) (month day : ℕ) → 1 ≤ month → day ≤ month_length leap month → (day ≤ month_length false month → ⊥) → (leap ≡ true) × (month ≡ 2) × (day ≡ 29)
only_leap false month day low high over = absurd (over high)
only_leap true month day low high over =
    let d = longer (month - 1) day (31 ∷ 30 ∷ 31 ∷ 30 ∷ 31 ∷ 31 ∷ 30 ∷ 31 ∷ 30 ∷ 31 ∷ []) high over in
    let second : month - 1 ≡ 1 = d.0 in
    (refl, omega (arith, low, second), d.1)

-- the days of what a text is
abbrev pub IsSomeDays : Option Days → Type 0
IsSomeDays found = (days : Days) × (found ≡ Some days)

within : (low n high : ℕ) → low ≤ n → n ≤ high → (nat_le low n && nat_le n high) ≡ true
within low n high p q = and_both (nat_le low n) (nat_le n high) (le-leb low n p) (le-leb n high q)

month_found : (year month : ℕ) (rest : List ℕ) → 1 ≤ month → month ≤ 12 → IsText (optional (seq separator (numerals (month_length false month)))) rest → (is_ended is_digit rest ≡ true) × IsSomeDays (month_at year (month, rest))
month_found year month rest low high (inr none) =
    subst (λ z. (is_ended is_digit z ≡ true) × IsSomeDays (month_at year (month, z))) (sym none) (refl, (days_of_month year month, rw (within 1 month 12 low high) refl))
month_found year month rest low high (inl h) =
    let s = text_separator h.front h.first in
    let e = each_back numeral 1 (month_length false month) h.back h.second in
    let from : 1 ≤ e.n = e.low in
    let upto : e.n < 1 + month_length false month = e.high in
    let short : month_length false month ≤ 31 = length_bound month in
    let fits : e.n ≤ month_length (is_leap year) month = omega (arith, upto, in_leap (is_leap year) month) in
    let whole : rest ≡ s.b ∷ h.back = h.joined ∙ ap (λ z. z ++ h.back) s.is in
    let read : first_numeral h.back ≡ Some (e.n, []) = ap first_numeral (sym (append-nil h.back)) ∙ numeral_found e.n h.back [] (omega (arith, upto, short)) e.spelled refl in
    subst (λ z. (is_ended is_digit z ≡ true) × IsSomeDays (month_at year (month, z))) (sym whole)
    (rw s.ends refl, (days_of_day year month e.n, rw (within 1 month 12 low high, s.separates, read, within 1 e.n (month_length (is_leap year) month) from fits) refl))

-- what is behind a year is a month or a day of it
pub year_found : (year : ℕ) (text : List ℕ) → IsText in_year_form text → IsSomeDays (year_at year text)
year_found year text h =
    let s = text_separator h.front h.first in
    let e = each_back month_form 1 12 h.back h.second in
    let m = e.spelled in
    let from : 1 ≤ e.n = e.low in
    let upto : e.n < 1 + 12 = e.high in
    let d = month_found year e.n m.back from (omega (arith, upto)) m.second in
    let whole : text ≡ s.b ∷ (m.front ++ m.back) = h.joined ∙ ap (λ z. z ++ h.back) s.is ∙ ap (λ z. s.b ∷ z) m.joined in
    let read : first_numeral (m.front ++ m.back) ≡ Some (e.n, m.back) = numeral_found e.n m.front m.back (omega (arith, upto)) m.first d.0 in
    subst (λ z. IsSomeDays (year_at year z)) (sym whole) (d.1.0, rw (s.separates, read) d.1.1)

-- and where the year is a leap year, 29 February
pub leap_day_found : (year : ℕ) (text : List ℕ) → is_leap year ≡ true → IsText leap_day_form text → IsSomeDays (year_at year text)
leap_day_found year text leap h =
    let s = text_separator h.front h.first in
    let m = h.second in
    let d = m.second in
    let t = text_separator d.front d.first in
    let behind : m.back ≡ t.b ∷ d.back = d.joined ∙ ap (λ z. z ++ d.back) t.is in
    let whole : text ≡ s.b ∷ (m.front ++ (t.b ∷ d.back)) = h.joined ∙ ap (λ z. z ++ h.back) s.is ∙ ap (λ z. s.b ∷ z) (m.joined ∙ ap (λ z. m.front ++ z) behind) in
    let month : first_numeral (m.front ++ (t.b ∷ d.back)) ≡ Some (2, t.b ∷ d.back) = numeral_found 2 m.front (t.b ∷ d.back) (omega arith) m.first (rw t.ends refl) in
    let day : first_numeral d.back ≡ Some (29, []) = ap first_numeral (sym (append-nil d.back)) ∙ numeral_found 29 d.back [] (omega arith) (inl d.second) refl in
    subst (λ z. IsSomeDays (year_at year z)) (sym whole) (days_of_day year 2 29, rw (s.separates, month, t.separates, day, leap) refl)

record IsPartText (n : ℕ) (rest text : List ℕ) : Type 0 where
  b : ℕ
  behind : List ℕ
  is : text ≡ b ∷ behind
  separates : is_separator b ≡ true
  number : IsNumeralText n rest behind

part_before : (text : List ℕ) (n : ℕ × List ℕ) → first_part text ≡ Some n → IsPartText n.0 n.1 text
part_before [] n e = absurd (none_some e)
part_before (b ∷ text) n e =
    elim (is_separator b) as (λ s. is_separator b ≡ s → (if s then first_numeral text else None) ≡ Some n → IsPartText n.0 n.1 (b ∷ text)) [
      | true ↦ λ s e. record { b = b; behind = text; is = refl; separates = s; number = numeral_before text n e }
      | false ↦ λ s e. absurd (none_some e)
    ] refl e

-- a test that was met
met : {A : Type 0} (low n high : ℕ) (o : Option A) (x : A) → (if nat_le low n && nat_le n high then o else None) ≡ Some x → (low ≤ n) × (n ≤ high) × (o ≡ Some x)
met low n high o x e =
    elim (nat_le low n && nat_le n high) as (λ t. (nat_le low n && nat_le n high) ≡ t → (if t then o else None) ≡ Some x → (low ≤ n) × (n ≤ high) × (o ≡ Some x)) [
      | true ↦ λ t e. let p = both (nat_le low n) (nat_le n high) t in (leb-true low n p.0, leb-true n high p.1, e)
      | false ↦ λ t e. absurd (none_some e)
    ] refl e

day_before : (year month : ℕ) (day : ℕ × List ℕ) (days : Days) → day_at year month day ≡ Some days → (day.1 ≡ []) × (1 ≤ day.0) × (day.0 ≤ month_length (is_leap year) month)
day_before year month (day, []) days e = let m = met 1 day (month_length (is_leap year) month) _ days e in (refl, m.0, m.1)
day_before year month (day, b ∷ rest) days e = absurd (none_some e)

-- a day of a month behind a separator
record IsDayRest (year month : ℕ) (rest : List ℕ) : Type 0 where
  b : ℕ
  behind : List ℕ
  is : rest ≡ b ∷ behind
  separates : is_separator b ≡ true
  day : ℕ
  low : 1 ≤ day
  high : day ≤ month_length (is_leap year) month
  spelled : IsText (numeral day) behind

record IsMonthRest (year month : ℕ) (rest : List ℕ) : Type 0 where
  low : 1 ≤ month
  high : month ≤ 12
  day : (rest ≡ []) ⊎ IsDayRest year month rest

month_before : (year : ℕ) (month : ℕ × List ℕ) (days : Days) → month_at year month ≡ Some days → IsMonthRest year month.0 month.1
month_before year (month, []) days e = let m = met 1 month 12 _ days e in record { low = m.0; high = m.1; day = inl refl }
month_before year (month, b ∷ rest) days e =
    let m = met 1 month 12 (option_and_then (day_at year month) (first_part (b ∷ rest))) days e in
    record { low = m.0; high = m.1; day = then_before (day_at year month) (first_part (b ∷ rest)) days m.2 (λ day part found. inr (day_rest day part (day_before year month day days found))) }
  where
    day_rest : (day : ℕ × List ℕ) → first_part (b ∷ rest) ≡ Some day → (day.1 ≡ []) × (1 ≤ day.0) × (day.0 ≤ month_length (is_leap year) month) → IsDayRest year month (b ∷ rest)
    day_rest day part d =
        let p = part_before (b ∷ rest) day part in
        let alone : p.behind ≡ p.number.front = p.number.joined ∙ ap (λ z. p.number.front ++ z) d.0 ∙ append-nil p.number.front in
        record { b = p.b; behind = p.behind; is = p.is; separates = p.separates; day = day.0; low = d.1; high = d.2; spelled = subst (IsText (numeral day.0)) (sym alone) p.number.spelled }

-- what is behind a year is a month or a day of it, or 29 February where it is a leap year
pub year_before : (year : ℕ) (text : List ℕ) (days : Days) → option_and_then (month_at year) (first_part text) ≡ Some days → (IsText in_year_form text) ⊎ ((is_leap year ≡ true) × IsText leap_day_form text)
year_before year text days e =
    then_before (month_at year) (first_part text) days e (λ month part found. of_month month (part_before text month part) (month_before year month days found))
  where
    in_year : (month : ℕ × List ℕ) → IsPartText month.0 month.1 text → 1 ≤ month.0 → month.0 ≤ 12 → IsText (optional (seq separator (numerals (month_length false month.0)))) month.1 → IsText in_year_form text
    in_year month p low high day =
        record {
          front = p.b ∷ [];
          back = p.behind;
          joined = p.is;
          first = separator_text p.b p.separates;
          second = each_there month_form 1 12 month.0 p.behind low (omega (arith, high)) (record { front = p.number.front; back = month.1; joined = p.number.joined; first = p.number.spelled; second = day });
        }

    in_two_digits : (text : List ℕ) → IsText (numeral 29) text → IsText (pair 29) text
    in_two_digits text (inl h) = h
    in_two_digits text (inr h) = absurd h

    leap_day : (month : ℕ × List ℕ) → IsPartText month.0 month.1 text → (d : IsDayRest year month.0 month.1) → (month.0 ≡ 2) × (d.day ≡ 29) → IsText leap_day_form text
    leap_day month p d is =
        record {
          front = p.b ∷ [];
          back = p.behind;
          joined = p.is;
          first = separator_text p.b p.separates;
          second = record {
            front = p.number.front;
            back = month.1;
            joined = p.number.joined;
            first = subst (λ z. IsText (numeral z) p.number.front) is.0 p.number.spelled;
            second = record { front = d.b ∷ []; back = d.behind; joined = d.is; first = separator_text d.b d.separates; second = in_two_digits d.behind (subst (λ z. IsText (numeral z) d.behind) is.1 d.spelled) };
          };
        }

    of_month : (month : ℕ × List ℕ) → IsPartText month.0 month.1 text → IsMonthRest year month.0 month.1 → (IsText in_year_form text) ⊎ ((is_leap year ≡ true) × IsText leap_day_form text)
    of_month month p m =
        elim m.day [
          | inl none ↦ inl (in_year month p m.low m.high (inr none))
          | inr d ↦
              elim (nat_le d.day (month_length false month.0)) as (λ t. nat_le d.day (month_length false month.0) ≡ t → (IsText in_year_form text) ⊎ ((is_leap year ≡ true) × IsText leap_day_form text)) [
                | true ↦ λ t.
                    let high : d.day ≤ month_length false month.0 = leb-true d.day (month_length false month.0) t in
                    inl (in_year month p m.low m.high (inl (record { front = d.b ∷ []; back = d.behind; joined = d.is; first = separator_text d.b d.separates; second = each_there numeral 1 (month_length false month.0) d.day d.behind d.low (omega (arith, high)) d.spelled })))
                | false ↦ λ t.
                    let only = only_leap (is_leap year) month.0 d.day m.low d.high (λ h. false≢true (sym t ∙ le-leb d.day (month_length false month.0) h)) in
                    inr (only.0, leap_day month p d (only.1, only.2))
              ] refl
        ]
