-- A day and a moment of the years 1 to 9999 are read behind their words.
use Rattle.std.proofs.Common.{◌≡◌, ◌<◌, ◌≤◌, ◌+◌, ◌*◌, ◌/◌, ◌%◌, ◌++◌, ◌∷◌, [], ℕ, ℤ, pos, ◌+ℤ◌, true, List, Option, Some, length, drop, take, refl, sym, ap, ap₂, arith, ◌∙◌, nat_le, codes, append_assoc, length-append}
use Rattle.std.specs.Prelude.{option_map}
use Rattle.std.proofs.lemmas.Bool.Decides.{nat_tests}
use Rattle.std.proofs.lemmas.Int.{ints}
use Rattle.std.proofs.Math.Seq.{drop-append_seam, take-append_seam}
use Rattle.lk_val.specs.Years.{IsDayInYears, is_day_in_years, IsMomentInYears, is_moment_in_years}
use Rattle.lk_val.specs.declared.value.Value.TheVariants as value
use Rattle.lk_types.specs.Calendar.{day_of_moment, from_year_one, midnight, second_of_moment}
use Rattle.lk_types.specs.Printing.{date_text, time_text, value_text}
use Rattle.lk_types.specs.Printing as print
use Rattle.lk_cell.specs.Days.{day_cell, two_digits}
use Rattle.lk_cell.specs.Moments.{clock_second, moment_cell, moment_of, second_at, second_behind, second_by}
use Rattle.lk_time.proofs.FrameLaws.{from_1970-from_year_one, from_year_one-bound, moment-parts, day_of_moment-range, second_of_moment-bound}
use Rattle.lk_sql_tree.specs.Texts.{literal_text}
use Rattle.lk_sql_read.specs.declared.token.Token.TheVariants as token
use Rattle.lk_sql_read.specs.Tokens.{first_token, closed_if}
use Rattle.lk_sql_read.proofs.DayLaws.{date_reads, digits_read, digits_text}

-- ---- a day

years : (d : ℤ) → is_day_in_years d ≡ true → IsDayInYears d
years d h = (grind (arith, ints), grind (arith, ints))

moments : (m : ℤ) → is_moment_in_years m ≡ true → IsMomentInYears m
moments m h = (grind (arith, ints), grind (arith, ints))

day_back : (d : ℤ) → IsDayInYears d → day_cell (date_text (from_year_one d)) ≡ Some d
day_back d is = date_reads (from_year_one d) (from_year_one-bound d is) ∙ ap Some (from_1970-from_year_one d is.0)

day_long : (cell : List ℕ) (z : ℤ) → day_cell cell ≡ Some z → 10 ≡ length cell
day_long (c ∷ e ∷ y ∷ r ∷ dash ∷ m ∷ n ∷ hyphen ∷ d ∷ g ∷ []) z f = refl
day_long cell z f = cc f

pub day_reads : (d : ℤ) (rest : List ℕ) → is_day_in_years d ≡ true → first_token (literal_text (value.Day d) ++ rest) ≡ Some (token.Literal (value.Day d), rest)
day_reads d rest h =
    let text = date_text (from_year_one d) in
    let cell : day_cell text ≡ Some d = day_back d (years d h) in
    let long : 10 ≡ length text = day_long text d cell in
    ap (λ (t : List ℕ). closed_if (drop 10 t) (option_map value.Day (day_cell (take 10 t)))) (append_assoc text (39 ∷ []) rest)
    ∙ ap (λ (n : ℕ). closed_if (drop n (text ++ 39 ∷ rest)) (option_map value.Day (day_cell (take n (text ++ 39 ∷ rest))))) long
    ∙ ap₂ (λ (b t : List ℕ). closed_if b (option_map value.Day (day_cell t))) (drop-append_seam text (39 ∷ rest)) (take-append_seam text (39 ∷ rest))
    ∙ ap (λ (o : Option ℤ). closed_if (39 ∷ rest) (option_map value.Day o)) cell

-- ---- a clock

clock : ℕ → List ℕ
clock s =
    (48 + s / 3600 / 10) ∷ (48 + s / 3600 % 10) ∷ 58 ∷ (48 + s / 60 % 60 / 10) ∷ (48 + s / 60 % 60 % 10) ∷ 58
    ∷ (48 + s % 60 / 10) ∷ (48 + s % 60 % 10) ∷ []

abbrev clock_shape : List ℕ → List ℕ → List ℕ → List ℕ
clock_shape hours minutes seconds = hours ++ codes ":" ++ minutes ++ codes ":" ++ seconds

time_is : (s : ℕ) → s < 86400 → time_text s ≡ clock s
unfolding time_text clock
time_is s small =
    ap (λ (t : List ℕ). clock_shape t (print.two_digits (s / 60 % 60)) (print.two_digits (s % 60))) (digits_text (s / 3600) (omega arith))
    ∙ ap (λ (t : List ℕ). clock_shape ((48 + s / 3600 / 10) ∷ (48 + s / 3600 % 10) ∷ []) t (print.two_digits (s % 60))) (digits_text (s / 60 % 60) (omega arith))
    ∙ ap (λ (t : List ℕ). clock_shape ((48 + s / 3600 / 10) ∷ (48 + s / 3600 % 10) ∷ []) ((48 + s / 60 % 60 / 10) ∷ (48 + s / 60 % 60 % 10) ∷ []) t)
    (digits_text (s % 60) (omega arith))

le_is : (a b : ℕ) → a ≤ b → nat_le a b ≡ true
le_is a b h = grind (arith, nat_tests)

second_read : (s : ℕ) → s < 86400 → second_at (s / 3600) (s / 60 % 60) (s % 60) ≡ Some s
second_read s small =
    let sum : 3600 * (s / 3600) + 60 * (s / 60 % 60) + s % 60 ≡ s = omega arith in
    rw (le_is (s / 3600) 23 (omega arith), le_is (s / 60 % 60) 59 (omega arith), le_is (s % 60) 59 (omega arith)) (ap Some sum)

pair_read : (n : ℕ) → n < 100 → two_digits (48 + n / 10) (48 + n % 10) ≡ Some n
pair_read n small =
    let whole : 10 * (n / 10) + n % 10 ≡ n = omega arith in
    digits_read (n / 10) (n % 10) (omega arith) (omega arith) ∙ ap Some whole

clock_read : (s : ℕ) → s < 86400 → clock_second (32 ∷ clock s) ≡ Some s
unfolding clock
clock_read s small =
    rw (pair_read (s / 3600) (omega arith), pair_read (s / 60 % 60) (omega arith), pair_read (s % 60) (omega arith)) (second_read s small)

clock_behind : (s : ℕ) → s < 86400 → second_behind (32 ∷ clock s) ≡ Some s
unfolding second_behind clock
clock_behind s small = ap (λ (o : Option ℕ). second_by o (32 ∷ clock s)) (clock_read s small)

-- ---- a moment

module _ (front : List ℕ) (z : ℤ) (s : ℕ) (day : day_cell front ≡ Some z) (small : s < 86400) where
  front_is : take 10 (front ++ (32 ∷ clock s)) ≡ front
  front_is = ap (λ (n : ℕ). take n (front ++ (32 ∷ clock s))) (day_long front z day) ∙ take-append_seam front (32 ∷ clock s)

  behind_is : drop 10 (front ++ (32 ∷ clock s)) ≡ 32 ∷ clock s
  behind_is = ap (λ (n : ℕ). drop n (front ++ (32 ∷ clock s))) (day_long front z day) ∙ drop-append_seam front (32 ∷ clock s)

  printed_moment : moment_cell (front ++ (32 ∷ clock s)) ≡ Some (midnight z +ℤ pos s)
  unfolding moment_cell
  printed_moment =
      ap₂ (λ (d : Option ℤ) (o : Option ℕ). moment_of d o) (ap day_cell front_is ∙ day) (ap second_behind behind_is ∙ clock_behind s small)

  moment_long : 19 ≡ length (front ++ (32 ∷ clock s))
  unfolding clock
  moment_long = omega (arith, day_long front z day, length-append front (32 ∷ clock s))

moment_back : (m : ℤ) → IsMomentInYears m → (moment_cell (value_text (value.Moment m)) ≡ Some m) × (19 ≡ length (value_text (value.Moment m)))
moment_back m is =
    let day = day_of_moment m in
    let s = second_of_moment m in
    let small = second_of_moment-bound m in
    let front = date_text (from_year_one (day_of_moment m)) in
    let cell = day_back (day_of_moment m) (day_of_moment-range m is) in
    let text : value_text (value.Moment m) ≡ date_text (from_year_one (day_of_moment m)) ++ (32 ∷ clock (second_of_moment m)) =
    ap (λ (t : List ℕ). date_text (from_year_one (day_of_moment m)) ++ codes " " ++ t) (time_is (second_of_moment m) small)
    ∙ append_assoc (date_text (from_year_one (day_of_moment m))) (32 ∷ []) (clock (second_of_moment m)) in (
      ap moment_cell text ∙ printed_moment (date_text (from_year_one (day_of_moment m))) (day_of_moment m) (second_of_moment m) cell small ∙ ap Some (moment-parts m),
      moment_long (date_text (from_year_one (day_of_moment m))) (day_of_moment m) (second_of_moment m) cell small ∙ ap length (sym text),
    )

pub moment_reads : (m : ℤ) (rest : List ℕ) → is_moment_in_years m ≡ true → first_token (literal_text (value.Moment m) ++ rest) ≡ Some (token.Literal (value.Moment m), rest)
moment_reads m rest h =
    let text = value_text (value.Moment m) in
    let back = moment_back m (moments m h) in
    ap (λ (t : List ℕ). closed_if (drop 19 t) (option_map value.Moment (moment_cell (take 19 t)))) (append_assoc text (39 ∷ []) rest)
    ∙ ap (λ (n : ℕ). closed_if (drop n (text ++ 39 ∷ rest)) (option_map value.Moment (moment_cell (take n (text ++ 39 ∷ rest))))) back.1
    ∙ ap₂ (λ (b t : List ℕ). closed_if b (option_map value.Moment (moment_cell t))) (drop-append_seam text (39 ∷ rest)) (take-append_seam text (39 ∷ rest))
    ∙ ap (λ (o : Option ℤ). closed_if (39 ∷ rest) (option_map value.Moment o)) back.0
