-- The texts of the form of dates are those that are the days of some date.
use Rattle.std.proofs.Common.{◌≡◌, inl, inr, ℕ, ◌+◌, ◌*◌, true, List, [], ◌∷◌, ◌++◌, Some, refl, sym, ap, subst, ◌∙◌}
use Rattle.lk_grammar.specs.Forms.{IsText}
use Rattle.lk_grammar.proofs.ReadingLaws.{none_some, then_before}
use Rattle.lk_types.specs.Calendar.{is_leap}
use Rattle.lk_types.specs.declared.filter.Days.{Days}
use Rattle.lk_filter_date.specs.DateTexts.{days_of_year, pair_value, year_at, year_of_digits, days_of, date_form}
use Rattle.lk_filter_date.proofs.DateMonthLaws.{IsSomeDays, year_found, leap_day_found, year_before}
use Rattle.lk_filter_date.proofs.DateYearLaws.{IsYearText, text_year, AreYearDigits, year_digits, year_text, text_leap, leap_text}

date_of_year : (text front back : List ℕ) → text ≡ front ++ back → (y : IsYearText front) → IsSomeDays (year_at (100 * pair_value y.a y.b + pair_value y.c y.d) back) → IsSomeDays (days_of text)
date_of_year text front back joined y d =
    subst (λ z. IsSomeDays (days_of z)) (sym (joined ∙ ap (λ z. z ++ back) y.is)) (d.0, rw y.read d.1)

pub date_read : (text : List ℕ) → IsText date_form text → IsSomeDays (days_of text)
unfolding date_form
date_read text (inl h) =
    let y = text_year h.front h.first in
    let year = 100 * pair_value y.a y.b + pair_value y.c y.d in
    date_of_year text h.front h.back h.joined y
    (elim h.second [
      | inl more ↦ year_found year h.back more
      | inr none ↦ subst (λ z. IsSomeDays (year_at year z)) (sym none) (days_of_year year, refl)
    ])
date_read text (inr h) =
    let y = text_leap h.front h.first in
    let year = 100 * pair_value y.year.a y.year.b + pair_value y.year.c y.year.d in
    date_of_year text h.front h.back h.joined y.year (leap_day_found year h.back y.leap h.second)

pub date_spelled : (text : List ℕ) (days : Days) → days_of text ≡ Some days → IsText date_form text
unfolding date_form
date_spelled [] days e = absurd (none_some e)
date_spelled (a ∷ []) days e = absurd (none_some e)
date_spelled (a ∷ b ∷ []) days e = absurd (none_some e)
date_spelled (a ∷ b ∷ c ∷ []) days e = absurd (none_some e)
date_spelled (a ∷ b ∷ c ∷ d ∷ text) days e =
    then_before (λ year. year_at year text) (year_of_digits a b c d) days e (λ year digits found. with_year year (year_digits a b c d year digits) text found)
  where
    with_year : (year : ℕ) → AreYearDigits a b c d year → (text : List ℕ) → year_at year text ≡ Some days → IsText date_form (a ∷ b ∷ c ∷ d ∷ text)
    with_year year y [] found = inl (record { front = a ∷ b ∷ c ∷ d ∷ []; back = []; joined = refl; first = year_text a b c d year y; second = inr refl })
    with_year year y (s ∷ text) found =
        elim (year_before year (s ∷ text) days found) [
          | inl rest ↦ inl (record { front = a ∷ b ∷ c ∷ d ∷ []; back = s ∷ text; joined = refl; first = year_text a b c d year y; second = inl rest })
          | inr rest ↦ inr (record { front = a ∷ b ∷ c ∷ d ∷ []; back = s ∷ text; joined = refl; first = leap_text a b c d year y (subst (λ z. is_leap z ≡ true) (sym y.is) rest.0); second = rest.1 })
        ]
