-- Rounding to a whole number, half away from zero, and numbers that are rounded to four places.
use Rattle.std.specs.Prelude.{ℕ, Bool, ℤ, pos, neg_ℤ, ◌+ℤ◌, ◌-ℤ◌, ◌*ℤ◌, ◌≡◌, ◌^◌, ◌&&◌, if◌then◌else◌, Option, Some, None, int_le, int_lt, unsigned_abs, ◌≤◌, ◌+◌, ◌*◌, ◌/◌}
use Rattle.std.specs.Ordering.{int_eq}
use Rattle.lk_val.specs.declared.num.Num.{Num}
use Rattle.lk_val.specs.Fractions.{Fraction}

-- the number of a sign and a size
abbrev pub signed : Bool → ℕ → ℤ
signed negative size = if negative then neg_ℤ (pos size) else pos size

-- n / d rounded to a whole number, half away from zero; d is above 0
unfoldable pub rounded : ℤ → ℤ → ℤ
rounded n d = signed (int_lt n (pos 0)) ((2 * unsigned_abs n + unsigned_abs d) / (2 * unsigned_abs d))

-- no whole number is nearer to n / d than r, and of two that are equally near r is the one away from zero
pub record IsRounded (n d r : ℤ) : Type 0 where
  pub nearest : 2 * unsigned_abs (n -ℤ d *ℤ r) ≤ unsigned_abs d
  pub away : 2 * unsigned_abs (n -ℤ d *ℤ r) ≡ unsigned_abs d → unsigned_abs n ≤ unsigned_abs (d *ℤ r)

-- the number of a count of 1/10,000, where it is one of 64 bits
unfoldable pub number_of : ℤ → Option Num
number_of count = if int_le (neg_ℤ (pos (2 ^ 63))) count && int_lt count (pos (2 ^ 63)) then Some (record { 0 = count }) else None

abbrev pub num_add : Num → Num → Option Num
num_add a b = number_of (a.0 +ℤ b.0)

abbrev pub num_sub : Num → Num → Option Num
num_sub a b = number_of (a.0 -ℤ b.0)

-- a product has eight places, of which four are kept
abbrev pub num_mul : Num → Num → Option Num
num_mul a b = number_of (rounded (a.0 *ℤ b.0) (pos 10000))

-- nothing for a division by 0
abbrev pub num_div : Num → Num → Option Num
num_div a b =
    if int_eq b.0 (pos 0) then None
    else (if int_lt b.0 (pos 0) then number_of (rounded (neg_ℤ (a.0 *ℤ pos 10000)) (neg_ℤ b.0)) else number_of (rounded (a.0 *ℤ pos 10000) b.0))

abbrev pub num_neg : Num → Option Num
num_neg a = number_of (neg_ℤ a.0)

-- a fraction at four places
abbrev pub num_of_fraction : Fraction → Option Num
num_of_fraction f = number_of (rounded (f.n *ℤ pos 10000) f.d)
