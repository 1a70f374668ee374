-- Steps of rounding: the range of numbers, and the nearest whole number of a ratio by its whole part and its rest.
use Rattle.std.proofs.Common.{◌≡◌, ℕ, ◌+◌, ◌-◌, ◌*◌, ◌/◌, ◌%◌, ◌^◌, ◌<◌, ◌≤◌, Bool, true, false, cond, ◌&&◌, ℤ, pos, negsuc, neg_ℤ, ◌*ℤ◌, ◌-ℤ◌, ◌<ℤ◌, Option, Some, None, SomeIff, FitsSigned, unsigned_abs, int_lt, int_le, refl, sym, ap, ◌∙◌, subst, arith, div-add-mod', mod-lt, le_of_lt, ◌≢◌, mul-le-mul_left, mul-le-mul_right, le_of_mul-le-mul_right, w64, to_z, of_z}
use Rattle.std.proofs.Math.Nat.{mul-add-div_right}
use Rattle.std.proofs.lemmas.Nat.{le-div, div_below}
use Rattle.std.proofs.lemmas.Int.{ints, to_z-of_z, to_z_pos, unsigned_abs-mul}
use Rattle.lk_val.specs.declared.num.Num.{Num}
use Rattle.lk_val.specs.Rounding.{number_of, signed, rounded}
use Rattle.lk_val.proofs.FractionSteps.{both, together, le-true, lt-true}

-- ---- the range

number-fits : (z : ℤ) → (int_le (neg_ℤ (pos (2 ^ 63))) z && int_lt z (pos (2 ^ 63))) ≡ true → FitsSigned w64 z
number-fits z h =
    let p = both (int_le (neg_ℤ (pos (2 ^ 63))) z) (int_lt z (pos (2 ^ 63))) h in
    let low : int_le (neg_ℤ (pos (2 ^ 63))) z ≡ true = p.0 in
    let high : int_lt z (pos (2 ^ 63)) ≡ true = p.1 in
    omega (arith, ints)

pub number-in : (z : ℤ) → FitsSigned w64 z → Some (record { 0 = z }) ≡ number_of z
unfolding number_of
number-in z f =
    ap (λ b. cond b (Some (record { 0 = z })) None)
    (sym (together (le-true (neg_ℤ (pos (2 ^ 63))) z (omega (arith, ints))) (lt-true z (pos (2 ^ 63)) (omega (arith, ints)))))

pub number-out : (z : ℤ) → (FitsSigned w64 z → ⊥) → None ≡ number_of z
unfolding number_of
number-out z f = by (int_le (neg_ℤ (pos (2 ^ 63))) z && int_lt z (pos (2 ^ 63))) refl
  where
    by : (b : Bool) → (int_le (neg_ℤ (pos (2 ^ 63))) z && int_lt z (pos (2 ^ 63))) ≡ b → ◌≡◌ {A = Option Num} None (cond b (Some (record { 0 = z })) None)
    by true e = absurd (f (number-fits z e))
    by false e = refl

-- what a checked operation gives, as a number
pub number-checked : (r : Option ℤ) (z x : ℤ) → SomeIff r (FitsSigned w64 z) z → Some x ≡ r → Some (record { 0 = x }) ≡ number_of z
number-checked None z x h e = absurd (cc)
number-checked (Some y) z x h e =
    let same : x ≡ z = cc in
    (λ i. Some (record { 0 = same i })) ∙ number-in z h.0

pub number-unchecked : (r : Option ℤ) (z : ℤ) → SomeIff r (FitsSigned w64 z) z → None ≡ r → None ≡ number_of z
number-unchecked None z h e = number-out z h
number-unchecked (Some y) z h e = absurd (cc)

pub signed-low : (size : ℕ) → 2 ^ 63 < size → None ≡ number_of (signed true size)
signed-low size h = number-out (neg_ℤ (pos size)) (λ f. omega (arith, ints))

pub signed-least : (size : ℕ) → size ≡ 2 ^ 63 → Some (record { 0 = negsuc 9223372036854775807 }) ≡ number_of (signed true size)
signed-least size e = number-in (negsuc 9223372036854775807) (omega (arith, ints)) ∙ ap (λ n. number_of (neg_ℤ (pos n))) (sym e)

pub signed-below : (size : ℕ) → size < 2 ^ 63 → Some (record { 0 = to_z w64 (of_z w64 (pos 0 -ℤ to_z w64 size)) }) ≡ number_of (signed true size)
signed-below size h =
    let same : to_z w64 (of_z w64 (pos 0 -ℤ to_z w64 size)) ≡ neg_ℤ (pos size) = omega (arith, ints) in
    (λ i. Some (record { 0 = same i })) ∙ number-in (neg_ℤ (pos size)) (omega (arith, ints))

pub signed-above : (size : ℕ) → size < 2 ^ 63 → Some (record { 0 = to_z w64 size }) ≡ number_of (signed false size)
signed-above size h = (λ i. Some (record { 0 = to_z_pos w64 size h i })) ∙ number-in (pos size) (omega (arith, ints))

pub signed-high : (size : ℕ) → 2 ^ 63 ≤ size → None ≡ number_of (signed false size)
signed-high size h = number-out (pos size) (λ f. omega (arith, ints))

pub ruleset ranges = (number-checked, number-unchecked)

-- ---- the nearest whole number

half-above : (rest by : ℕ) → rest < by → by ≤ 2 * rest → (2 * rest + by) / (2 * by) ≡ 1
half-above rest by h k =
    let low : 1 ≤ (2 * rest + by) / (2 * by) = le-div 1 (2 * rest + by) (2 * by) (omega arith) (omega arith) in
    let high : (2 * rest + by) / (2 * by) < 2 = div_below (2 * rest + by) (2 * by) 2 (omega arith) (omega arith) in
    omega arith

half-below : (rest by : ℕ) → rest < by → 2 * rest < by → (2 * rest + by) / (2 * by) ≡ 0
half-below rest by h k =
    let high : (2 * rest + by) / (2 * by) < 1 = div_below (2 * rest + by) (2 * by) 1 (omega arith) (omega arith) in
    omega arith

pub half-up : (rest by : ℕ) → rest < by → by - rest ≤ rest → 1 ≡ (2 * rest + by) / (2 * by)
half-up rest by h k = sym (half-above rest by h (omega arith))

pub half-down : (rest by : ℕ) → rest < by → rest < by - rest → 0 ≡ (2 * rest + by) / (2 * by)
half-down rest by h k = sym (half-below rest by h (omega arith))

pub ruleset halves = (half-up, half-down)

-- whole part and rest are rounded by the rest
pub rounded-parts : (whole rest by : ℕ) → rest < by → whole + (2 * rest + by) / (2 * by) ≡ (2 * (whole * by + rest) + by) / (2 * by)
rounded-parts whole rest by h =
    let n : 2 * (whole * by + rest) + by ≡ whole * (2 * by) + (2 * rest + by) = omega arith in
    sym (ap (λ n. n / (2 * by)) n ∙ mul-add-div_right (omega arith) whole (2 * rest + by))

pub rounded-over : (n d : ℤ) → pos 0 <ℤ d
    → signed (int_lt n (pos 0)) (unsigned_abs n / unsigned_abs d + (2 * (unsigned_abs n % unsigned_abs d) + unsigned_abs d) / (2 * unsigned_abs d)) ≡ rounded n d
unfolding rounded
rounded-over n d h =
    let size = unsigned_abs n in
    let by = unsigned_abs d in
    let positive : 0 < by = omega (arith, ints) in
    ap (signed (int_lt n (pos 0))) (rounded-parts (size / by) (size % by) by (mod-lt size positive) ∙ ap (λ m. (2 * m + by) / (2 * by)) (div-add-mod' size by))

-- ---- a product over a divisor, by doubling

pub times-few : (k part by times rest : ℕ) → part < by → times * by + rest ≡ k * part → times ≤ k
times-few k part by times rest h e =
    let more : k * part ≤ k * by = mul-le-mul_left k (le_of_lt h) in
    let all : times * by ≤ k * by = omega arith in
    le_of_mul-le-mul_right all (omega arith)

pub times-even : (k part by half_times half_rest times rest : ℕ) → half_times * by + half_rest ≡ k / 2 * part → times * by + rest ≡ 2 * half_times * by + half_rest + half_rest → k % 2 ≡ 0 → times * by + rest ≡ k * part
times-even k part by half_times half_rest times rest e f even =
    let all : k ≡ 2 * (k / 2) = omega arith in
    let product : k * part ≡ 2 * (k / 2) * part = ap (λ n. n * part) all in
    omega arith

pub times-odd : (k part by half_times half_rest even_times even_rest times rest : ℕ) → half_times * by + half_rest ≡ k / 2 * part → even_times * by + even_rest ≡ 2 * half_times * by + half_rest + half_rest
    → times * by + rest ≡ even_times * by + even_rest + part → k % 2 ≢ 0 → times * by + rest ≡ k * part
times-odd k part by half_times half_rest even_times even_rest times rest e f g odd =
    let all : k ≡ 2 * (k / 2) + 1 = omega arith in
    let product : k * part ≡ (2 * (k / 2) + 1) * part = ap (λ n. n * part) all in
    omega arith

-- ---- a fraction at four places

pub not-negative : (k : ℕ) → int_lt (pos k) (pos 0) ≡ false
not-negative k =
    elim (int_lt (pos k) (pos 0)) as (λ b. int_lt (pos k) (pos 0) ≡ b → b ≡ false) [
      | true ↦ λ e. absurd (omega (arith, ints))
      | false ↦ λ e. refl
    ] refl

sign-kept : (n : ℤ) → int_lt n (pos 0) ≡ int_lt (n *ℤ pos 10000) (pos 0)
sign-kept (pos k) = not-negative k ∙ sym (not-negative (k * 10000))
sign-kept (negsuc k) = sym (lt-true (negsuc k *ℤ pos 10000) (pos 0) (omega (arith, ints)))

pub rounded-places : (n d : ℤ) (times rest : ℕ) → pos 0 <ℤ d → times * unsigned_abs d + rest ≡ 10000 * (unsigned_abs n % unsigned_abs d) → rest < unsigned_abs d
    → signed (int_lt n (pos 0)) (unsigned_abs n / unsigned_abs d * 10000 + times + (2 * rest + unsigned_abs d) / (2 * unsigned_abs d)) ≡ rounded (n *ℤ pos 10000) d
unfolding rounded
rounded-places n d times rest h e r =
    let size = unsigned_abs n in
    let by = unsigned_abs d in
    let split : size / by * by + size % by ≡ size = div-add-mod' size by in
    let all : (size / by * 10000 + times) * by + rest ≡ size * 10000 = omega arith in
    (λ i. signed (sign-kept n i) (rounded-parts (size / by * 10000 + times) rest by r i))
    ∙ ap (λ m. signed (int_lt (n *ℤ pos 10000) (pos 0)) ((2 * m + by) / (2 * by))) (all ∙ sym (unsigned_abs-mul n (pos 10000)))

signed-out : (negative : Bool) (size : ℕ) → 2 ^ 63 < size → None ≡ number_of (signed negative size)
signed-out true size h = signed-low size h
signed-out false size h = signed-high size (omega arith)

pub rounded-large : (n d : ℤ) → pos 0 <ℤ d → 2 ^ 64 ≤ unsigned_abs n / unsigned_abs d → None ≡ number_of (rounded (n *ℤ pos 10000) d)
unfolding rounded
rounded-large n d h more =
    let size = unsigned_abs n in
    let by = unsigned_abs d in
    let positive : 0 < by = omega (arith, ints) in
    let split : size / by * by + size % by ≡ size = div-add-mod' size by in
    let much : 2 ^ 64 * by ≤ size / by * by = mul-le-mul_right by more in
    let large : 2 ^ 64 ≤ (2 * (size * 10000) + by) / (2 * by) = le-div (2 ^ 64) (2 * (size * 10000) + by) (2 * by) (omega arith) (omega arith) in
    signed-out (int_lt (n *ℤ pos 10000) (pos 0)) ((2 * (size * 10000) + by) / (2 * by)) (omega arith)
    ∙ ap (λ m. number_of (signed (int_lt (n *ℤ pos 10000) (pos 0)) ((2 * m + by) / (2 * by)))) (sym (unsigned_abs-mul n (pos 10000)))

pub number-passed : (z y x : ℤ) → y ≡ z → FitsSigned w64 y × (x ≡ y) → Some (record { 0 = to_z w64 (of_z w64 x) }) ≡ number_of z
number-passed z y x e h =
    let same : x ≡ z = h.1 ∙ e in
    let fits : FitsSigned w64 x = subst (FitsSigned w64) (sym h.1) h.0 in
    (λ i. Some (record { 0 = (to_z-of_z w64 x fits ∙ same) i })) ∙ number-in z (subst (FitsSigned w64) e h.0)
