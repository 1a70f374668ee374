-- Exact fractions of two numbers of 128 bits, in lowest terms.
use Rattle.std.specs.Prelude.{ℕ, zero, suc, ℤ, pos, neg_ℤ, ◌≡◌, ◌+ℤ◌, ◌-ℤ◌, ◌*ℤ◌, ◌<ℤ◌, Bool, not, ◌&&◌, if◌then◌else◌, ◌^◌, ◌%◌, List, [], ◌∷◌, Option, Some, None, int_le, int_lt, int_div, unsigned_abs}
use Rattle.std.specs.List.{list_all}
use Rattle.std.specs.Ordering.{int_cmp, int_eq}
use Rattle.std.specs.declared.cmp.Ordering.{Ordering}

-- n / d
pub record Fraction : Type 0 where
  pub n : ℤ
  pub d : ℤ

-- ---- lowest terms

-- Euclid's remainders of a and b, of which there are at most `steps`
abbrev pub gcd_within : ℕ → ℕ → ℕ → ℕ
gcd_within zero a b = a
gcd_within (suc steps) a zero = a
gcd_within (suc steps) a (suc b) = gcd_within steps (suc b) (a % suc b)

-- the greatest common divisor
unfoldable pub gcd : ℕ → ℕ → ℕ
gcd a b = gcd_within (suc b) a b

-- the denominator is above 0, and nothing but 1 divides both
pub record IsReduced (f : Fraction) : Type 0 where
  pub positive : pos 0 <ℤ f.d
  pub lowest : gcd (unsigned_abs f.n) (unsigned_abs f.d) ≡ 1

-- n / d in lowest terms, for d above 0
unfoldable pub reduced : ℤ → ℤ → Fraction
reduced n d = let g = pos (gcd (unsigned_abs n) (unsigned_abs d)) in record { n = int_div n g; d = int_div d g }

-- ---- arithmetic. It gives no fraction where a number that is formed on the way is not one of 128 bits

-- the number is one of 128 bits
unfoldable pub fits_128 : ℤ → Bool
fits_128 z = int_le (neg_ℤ (pos (2 ^ 127))) z && int_lt z (pos (2 ^ 127))

-- the number, where it is one of 128 bits
abbrev pub fitting : ℤ → Option ℤ
fitting z = if fits_128 z then Some z else None

-- n / d, where the numbers formed on the way are of 128 bits and d is not 0
abbrev pub fraction : List ℤ → ℤ → ℤ → Option Fraction
fraction formed n d = if list_all fits_128 formed && not (int_eq d (pos 0)) then Some (reduced n d) else None

-- a / b + c / d forms a * d, c * b, their sum and b * d
unfoldable pub frac_add : Fraction → Fraction → Option Fraction
frac_add a b =
    let left = a.n *ℤ b.d in
    let right = b.n *ℤ a.d in
    let below = a.d *ℤ b.d in
    fraction (left ∷ right ∷ (left +ℤ right) ∷ below ∷ []) (left +ℤ right) below

-- a / b - c / d forms the same products and their difference
unfoldable pub frac_sub : Fraction → Fraction → Option Fraction
frac_sub a b =
    let left = a.n *ℤ b.d in
    let right = b.n *ℤ a.d in
    let below = a.d *ℤ b.d in
    fraction (left ∷ right ∷ (left -ℤ right) ∷ below ∷ []) (left -ℤ right) below

unfoldable pub frac_mul : Fraction → Fraction → Option Fraction
frac_mul a b = fraction ((a.n *ℤ b.n) ∷ (a.d *ℤ b.d) ∷ []) (a.n *ℤ b.n) (a.d *ℤ b.d)

-- a / b over c / d forms a * d and b * c, and where c is below 0 both with the other sign
unfoldable pub frac_div : Fraction → Fraction → Option Fraction
frac_div a b =
    let above = a.n *ℤ b.d in
    let below = a.d *ℤ b.n in
    if int_lt below (pos 0)
    then fraction (above ∷ below ∷ neg_ℤ above ∷ neg_ℤ below ∷ []) (neg_ℤ above) (neg_ℤ below)
    else fraction (above ∷ below ∷ []) above below

-- 0 - a / b
unfoldable pub frac_neg : Fraction → Option Fraction
frac_neg a = fraction (neg_ℤ a.n ∷ []) (neg_ℤ a.n) a.d

-- by the exact value
abbrev pub frac_cmp : Fraction → Fraction → Ordering
frac_cmp a b = int_cmp (a.n *ℤ b.d) (b.n *ℤ a.d)

-- ---- other numbers as fractions

-- a count of 1/10,000
abbrev pub frac_of_sum : ℤ → Fraction
frac_of_sum sum = reduced sum (pos 10000)

abbrev pub frac_of_count : ℕ → Fraction
frac_of_count count = record { n = pos count; d = pos 1 }
