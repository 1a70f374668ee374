-- A moment that a cell writes is read back from its printed form.
use Rattle.std.proofs.Common.{◌≡◌, ◌<◌, ◌≤◌, ◌+◌, ◌-◌, ◌*◌, ◌/◌, ◌%◌, ◌++◌, ◌∷◌, ◌==◌, ◌&&◌, ◌||◌, [], ℕ, ℤ, pos, ◌+ℤ◌, Bool, true, false, List, Option, Some, None, drop, take, refl, sym, ap, ap₂, subst, arith, ◌∙◌, nat_le, if◌then◌else◌, codes, decimal, IfSome, append_assoc}
use Rattle.std.specs.Char.{is_ascii_digit}
use Rattle.std.proofs.lemmas.Bool.{leb-true}
use Rattle.std.proofs.lemmas.Bool.Decides.{nat_tests}
use Rattle.std.proofs.lemmas.Fmt.{decimal_digit}
use Rattle.std.proofs.Math.Seq.{drop-append_seam, take-append_seam}
use Rattle.lk_val.proofs.FractionSteps.{both}
use Rattle.lk_types.specs.Calendar.{day_of_moment, from_year_one, midnight, second_of_moment}
use Rattle.lk_types.specs.Printing.{date_text, time_text}
use Rattle.lk_types.specs.Printing as print
use Rattle.lk_cell.specs.Days.{day_cell, two_digits}
use Rattle.lk_cell.specs.Moments.{clock_second, is_fraction, moment_cell, moment_of, second_at, second_behind, second_by, second_of_numbers, without_zone}
use Rattle.lk_time.proofs.FrameLaws.{day_of_moment-midnight, second_of_moment-midnight}
use Rattle.lk_table.proofs.DayBackLaws.{day_long, day_text}

-- ---- the seconds of a day

at_small : (hour minute second : ℕ) (b : Bool) → (nat_le hour 23 && nat_le minute 59 && nat_le second 59) ≡ b
    → IfSome (if b then Some (3600 * hour + 60 * minute + second) else None) (λ s. s < 86400)
at_small hour minute second false e = tt
at_small hour minute second true e =
    let outer = both (nat_le hour 23 && nat_le minute 59) (nat_le second 59) e in
    let inner = both (nat_le hour 23) (nat_le minute 59) outer.0 in
    omega (arith, leb-true hour 23 inner.0, leb-true minute 59 inner.1, leb-true second 59 outer.1)

numbers_small : (hour minute second : Option ℕ) → IfSome (second_of_numbers hour minute second) (λ k. k < 86400)
numbers_small (Some hour) (Some minute) (Some second) = at_small hour minute second (nat_le hour 23 && nat_le minute 59 && nat_le second 59) refl
numbers_small hour minute second = tt

if_small : (b : Bool) (o : Option ℕ) → IfSome o (λ s. s < 86400) → IfSome (if b then o else None) (λ s. s < 86400)
if_small true o h = h
if_small false o h = tt

clock_small : (text : List ℕ) → IfSome (clock_second text) (λ s. s < 86400)
clock_small (mark ∷ h ∷ o ∷ colon ∷ m ∷ n ∷ dots ∷ s ∷ c ∷ []) =
    if_small ((mark == 32 || mark == 84) && colon == 58 && dots == 58) (second_of_numbers (two_digits h o) (two_digits m n) (two_digits s c))
    (numbers_small (two_digits h o) (two_digits m n) (two_digits s c))
clock_small text = tt

by_small : (clock : Option ℕ) (text : List ℕ) → IfSome clock (λ s. s < 86400) → IfSome (second_by clock text) (λ s. s < 86400)
by_small (Some second) text h = if_small (is_fraction (without_zone (drop 9 text))) (Some second) h
by_small None text h = if_small (is_fraction (without_zone text)) (Some 0) (omega arith)

behind_small : (text : List ℕ) → IfSome (second_behind text) (λ s. s < 86400)
unfolding second_behind
behind_small text = by_small (clock_second (take 9 text)) text (clock_small (take 9 text))

-- ---- a clock that is printed

digits_text : (n : ℕ) → n < 100 → print.two_digits n ≡ (48 + n / 10) ∷ (48 + n % 10) ∷ []
digits_text n small =
    let tens : n / 10 % 10 ≡ n / 10 = omega arith in
    ap₂ (λ (x y : List ℕ). x ++ y) (ap decimal tens ∙ decimal_digit (n / 10) (omega arith)) (decimal_digit (n % 10) (omega arith))

is_digit : (d : ℕ) → d < 10 → is_ascii_digit (48 + d) ≡ true
is_digit d small = grind (arith, nat_tests)

digits_read : (n : ℕ) → n < 100 → two_digits (48 + n / 10) (48 + n % 10) ≡ Some n
digits_read n small =
    let sum : 10 * (48 + n / 10 - 48) + (48 + n % 10 - 48) ≡ n = omega arith in
    rw (is_digit (n / 10) (omega arith), is_digit (n % 10) (omega arith)) (ap Some sum)

clock : ℕ → List ℕ
clock s =
    (48 + s / 3600 / 10) ∷ (48 + s / 3600 % 10) ∷ 58 ∷ (48 + s / 60 % 60 / 10) ∷ (48 + s / 60 % 60 % 10) ∷ 58
    ∷ (48 + s % 60 / 10) ∷ (48 + s % 60 % 10) ∷ []

abbrev clock_shape : List ℕ → List ℕ → List ℕ → List ℕ
clock_shape hours minutes seconds = hours ++ codes ":" ++ minutes ++ codes ":" ++ seconds

time_is : (s : ℕ) → s < 86400 → time_text s ≡ clock s
unfolding time_text clock
time_is s small =
    ap (λ (t : List ℕ). clock_shape t (print.two_digits (s / 60 % 60)) (print.two_digits (s % 60))) (digits_text (s / 3600) (omega arith))
    ∙ ap (λ (t : List ℕ). clock_shape ((48 + s / 3600 / 10) ∷ (48 + s / 3600 % 10) ∷ []) t (print.two_digits (s % 60))) (digits_text (s / 60 % 60) (omega arith))
    ∙ ap (λ (t : List ℕ). clock_shape ((48 + s / 3600 / 10) ∷ (48 + s / 3600 % 10) ∷ []) ((48 + s / 60 % 60 / 10) ∷ (48 + s / 60 % 60 % 10) ∷ []) t)
    (digits_text (s % 60) (omega arith))

le_is : (a b : ℕ) → a ≤ b → nat_le a b ≡ true
le_is a b h = grind (arith, nat_tests)

second_read : (s : ℕ) → s < 86400 → second_at (s / 3600) (s / 60 % 60) (s % 60) ≡ Some s
second_read s small =
    let sum : 3600 * (s / 3600) + 60 * (s / 60 % 60) + s % 60 ≡ s = omega arith in
    rw (le_is (s / 3600) 23 (omega arith), le_is (s / 60 % 60) 59 (omega arith), le_is (s % 60) 59 (omega arith)) (ap Some sum)

clock_read : (s : ℕ) → s < 86400 → clock_second (32 ∷ clock s) ≡ Some s
unfolding clock
clock_read s small =
    rw (digits_read (s / 3600) (omega arith), digits_read (s / 60 % 60) (omega arith), digits_read (s % 60) (omega arith)) (second_read s small)

clock_behind : (s : ℕ) → s < 86400 → second_behind (32 ∷ clock s) ≡ Some s
unfolding second_behind clock
clock_behind s small = ap (λ (o : Option ℕ). second_by o (32 ∷ clock s)) (clock_read s small)

-- ---- a moment

module _ (front : List ℕ) (z : ℤ) (s : ℕ) (day : day_cell front ≡ Some z) (small : s < 86400) where
  front_is : take 10 (front ++ (32 ∷ clock s)) ≡ front
  front_is = ap (λ (n : ℕ). take n (front ++ (32 ∷ clock s))) (sym (day_long front z day)) ∙ take-append_seam front (32 ∷ clock s)

  behind_is : drop 10 (front ++ (32 ∷ clock s)) ≡ 32 ∷ clock s
  behind_is = ap (λ (n : ℕ). drop n (front ++ (32 ∷ clock s))) (sym (day_long front z day)) ∙ drop-append_seam front (32 ∷ clock s)

  printed_moment : moment_cell (front ++ (32 ∷ clock s)) ≡ Some (midnight z +ℤ pos s)
  unfolding moment_cell
  printed_moment =
      ap₂ (λ (d : Option ℤ) (o : Option ℕ). moment_of d o) (ap day_cell front_is ∙ day) (ap second_behind behind_is ∙ clock_behind s small)

  text_of_moment : date_text (from_year_one (day_of_moment (midnight z +ℤ pos s))) ++ codes " " ++ time_text (second_of_moment (midnight z +ℤ pos s))
      ≡ front ++ (32 ∷ clock s)
  text_of_moment =
      ap₂ (λ (d : ℤ) (k : ℕ). date_text (from_year_one d) ++ codes " " ++ time_text k) (day_of_moment-midnight z s small) (second_of_moment-midnight z s small)
      ∙ ap₂ (λ (d t : List ℕ). d ++ codes " " ++ t) (day_text front z day) (time_is s small)
      ∙ append_assoc front (32 ∷ []) (clock s)

moment_by : (cell : List ℕ) (day : Option ℤ) (second : Option ℕ) (m : ℤ) → day_cell (take 10 cell) ≡ day
    → IfSome second (λ s. s < 86400) → moment_of day second ≡ Some m
    → moment_cell (date_text (from_year_one (day_of_moment m)) ++ codes " " ++ time_text (second_of_moment m)) ≡ Some m
moment_by cell (Some z) (Some s) m is small e =
    let same : midnight z +ℤ pos s ≡ m = cc in
    subst (λ (k : ℤ). moment_cell (date_text (from_year_one (day_of_moment k)) ++ codes " " ++ time_text (second_of_moment k)) ≡ Some k) same
    (ap moment_cell (text_of_moment (take 10 cell) z s is small) ∙ printed_moment (take 10 cell) z s is small)
moment_by cell day second m is small e = cc e

pub moment_text : (cell : List ℕ) (m : ℤ) → moment_cell cell ≡ Some m
    → moment_cell (date_text (from_year_one (day_of_moment m)) ++ codes " " ++ time_text (second_of_moment m)) ≡ Some m
unfolding moment_cell
moment_text cell m e = moment_by cell (day_cell (take 10 cell)) (second_behind (drop 10 cell)) m refl (behind_small (drop 10 cell)) e

pub nothing_is_no_moment : (m : ℤ) → moment_cell [] ≡ Some m → ⊥
unfolding moment_cell
nothing_is_no_moment m e = cc e
