-- The year of a day is the one that has it.
use Rattle.std.proofs.Common.{◌≡◌, ℕ, ◌+◌, ◌-◌, ◌*◌, ◌/◌, ◌<◌, ◌≤◌, true, false, refl, arith, ⊎_elim}
use Rattle.std.specs.Prelude.{nat_le, if◌then◌else◌, ◌⊎◌}
use Rattle.std.proofs.lemmas.Bool.Decides.{leb_tells}
use Rattle.lk_types.specs.Calendar.{year_start, year_of}

-- the day lies in the year
pub record IsInYear (n year : ℕ) : Type 0 where
  pub from : year_start year ≤ n
  pub before : n < year_start (year + 1)

-- the mean length of a year finds the year but for one
low : (n g : ℕ) → g ≡ n * 400 / 146097 + 1 → year_start (g - 1) ≤ n
low n g e = omega arith

high : (n g : ℕ) → g ≡ n * 400 / 146097 + 1 → n < year_start (g + 2)
high n g e = omega arith

chosen : (n g : ℕ) → g ≡ n * 400 / 146097 + 1 → IsInYear n (if nat_le (year_start (g + 1)) n then g + 1 else (if nat_le (year_start g) n then g else g - 1))
chosen n g e =
    elim (nat_le (year_start (g + 1)) n) as (λ b. ((b ≡ true) × (year_start (g + 1) ≤ n)) ⊎ ((b ≡ false) × (n < year_start (g + 1))) → IsInYear n (if b then g + 1 else (if nat_le (year_start g) n then g else g - 1))) [
      | true ↦ ⊎_elim (λ is. record { from = is.1; before = let top = high n g e in omega arith }) (λ isnt. absurd (cc))
      | false ↦ ⊎_elim (λ is. absurd (cc)) (λ isnt.
          elim (nat_le (year_start g) n) as (λ b. ((b ≡ true) × (year_start g ≤ n)) ⊎ ((b ≡ false) × (n < year_start g)) → IsInYear n (if b then g else g - 1)) [
            | true ↦ ⊎_elim (λ here. record { from = here.1; before = isnt.1 }) (λ wrong. absurd (cc))
            | false ↦ ⊎_elim (λ wrong. absurd (cc)) (λ below. record { from = low n g e; before = omega (arith, below.1) })
          ] (leb_tells (year_start g) n))
    ] (leb_tells (year_start (g + 1)) n)

-- the year of a day has the day
pub year_of-IsInYear : (n : ℕ) → IsInYear n (year_of n)
unfolding year_of
year_of-IsInYear n = chosen n (n * 400 / 146097 + 1) refl

-- a year that has it is no later than another that has it
within : (n y z : ℕ) → IsInYear n y → IsInYear n z → z ≤ y
within n y z iny inz = omega (arith, iny.before, inz.from)

-- no other year has it
pub only_year : (n y z : ℕ) → IsInYear n y → IsInYear n z → y ≡ z
only_year n y z iny inz = omega (arith, within n y z iny inz, within n z y inz iny)

-- the years of the first 3,652,059 days are 1 to 9999
pub year_of-range : (n : ℕ) → n ≤ 3652058 → (1 ≤ year_of n) × (year_of n ≤ 9999)
year_of-range n h = let is = year_of-IsInYear n in (omega (arith, is.from, is.before), omega (arith, is.from, is.before))
