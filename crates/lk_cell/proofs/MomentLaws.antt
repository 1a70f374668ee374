-- The moments that cells write are seconds of the years 1 to 9999.
use Rattle.std.proofs.Common.{◌≡◌, ℕ, ◌+◌, ◌*◌, ◌<◌, ◌==◌, Bool, true, false, nat_le, ◌&&◌, ◌||◌, if◌then◌else◌, List, [], ◌∷◌, take, drop, IfSome, Some, None, Option, ℤ, pos, neg_ℤ, ◌+ℤ◌, int_le, refl, sym, arith}
use Rattle.std.proofs.lemmas.Bool.{leb-true}
use Rattle.std.proofs.lemmas.Int.{ints}
use Rattle.lk_val.proofs.FractionSteps.{both, together, le-true}
use Rattle.lk_val.specs.declared.value.Value.TheVariants.{Day, Moment}
use Rattle.lk_types.specs.Calendar.{midnight}
use Rattle.lk_types.specs.Dates.{is_dated}
use Rattle.lk_cell.specs.Days.{two_digits, day_cell}
use Rattle.lk_cell.specs.Moments.{second_at, second_of_numbers, clock_second, is_fraction, without_zone, if_ended, second_by, second_behind, moment_of, moment_cell}
use Rattle.lk_cell.proofs.DayLaws.{day_cell-dated}

second_at-small : (hour minute second : ℕ) → IfSome (second_at hour minute second) (λ s. s < 86400)
second_at-small hour minute second = by (nat_le hour 23 && nat_le minute 59 && nat_le second 59) refl
  where
    by : (b : Bool) → b ≡ (nat_le hour 23 && nat_le minute 59 && nat_le second 59) → IfSome (if b then Some (3600 * hour + 60 * minute + second) else None) (λ s. s < 86400)
    by false e = tt
    by true e =
        let outer = both (nat_le hour 23 && nat_le minute 59) (nat_le second 59) (sym e) in
        let inner = both (nat_le hour 23) (nat_le minute 59) outer.0 in
        omega (arith, leb-true hour 23 inner.0, leb-true minute 59 inner.1, leb-true second 59 outer.1)

clock_second-small : (text : List ℕ) → IfSome (clock_second text) (λ s. s < 86400)
clock_second-small (mark ∷ h ∷ o ∷ colon ∷ m ∷ n ∷ dots ∷ s ∷ c ∷ []) = by ((mark == 32 || mark == 84) && colon == 58 && dots == 58)
  where
    numbers : (hour minute second : Option ℕ) → IfSome (second_of_numbers hour minute second) (λ k. k < 86400)
    numbers (Some hour) (Some minute) (Some second) = second_at-small hour minute second
    numbers hour minute second = tt

    by : (b : Bool) → IfSome (if b then second_of_numbers (two_digits h o) (two_digits m n) (two_digits s c) else None) (λ k. k < 86400)
    by true = numbers (two_digits h o) (two_digits m n) (two_digits s c)
    by false = tt
clock_second-small text = tt

if_ended-small : (second : ℕ) (text : List ℕ) → second < 86400 → IfSome (if_ended second text) (λ s. s < 86400)
if_ended-small second text h = by (is_fraction (without_zone text))
  where
    by : (b : Bool) → IfSome (if b then Some second else None) (λ s. s < 86400)
    by true = h
    by false = tt

second_behind-small : (text : List ℕ) → IfSome (second_behind text) (λ s. s < 86400)
unfolding second_behind
second_behind-small text = by (clock_second (take 9 text)) (clock_second-small (take 9 text))
  where
    by : (clock : Option ℕ) → IfSome clock (λ s. s < 86400) → IfSome (second_by clock text) (λ s. s < 86400)
    by (Some second) h = if_ended-small second (drop 9 text) h
    by None h = if_ended-small 0 text (omega arith)

-- each second of a day of the years is one of their seconds
second_dated : (day : ℤ) (second : ℕ) → is_dated (Day day) ≡ true → second < 86400 → is_dated (Moment (midnight day +ℤ pos second)) ≡ true
second_dated day second e h =
    let ends = both (int_le (neg_ℤ (pos 719162)) day) (int_le day (pos 2932896)) e in
    let low : int_le (neg_ℤ (pos 719162)) day ≡ true = ends.0 in
    let high : int_le day (pos 2932896) ≡ true = ends.1 in
    let z = midnight day +ℤ pos second in
    together (le-true (neg_ℤ (pos 62135596800)) z (omega (arith, ints))) (le-true z (pos 253402300799) (omega (arith, ints)))

pub moment_cell-dated : (text : List ℕ) → IfSome (moment_cell text) (λ m. is_dated (Moment m) ≡ true)
unfolding moment_cell
moment_cell-dated text = by (day_cell (take 10 text)) (second_behind (drop 10 text)) (day_cell-dated (take 10 text)) (second_behind-small (drop 10 text))
  where
    by : (day : Option ℤ) (second : Option ℕ) → IfSome day (λ d. is_dated (Day d) ≡ true) → IfSome second (λ s. s < 86400) → IfSome (moment_of day second) (λ m. is_dated (Moment m) ≡ true)
    by (Some day) (Some second) e h = second_dated day second e h
    by day second e h = tt
