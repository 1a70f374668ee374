-- The greatest common divisor by Euclid's remainders, and what it leaves of the two numbers.
use Rattle.std.proofs.Common.{◌≡◌, ℕ, zero, suc, ◌+◌, ◌<◌, ◌≤◌, ◌*◌, ◌/◌, ◌%◌, refl, sym, ap, ◌∙◌, subst, arith, mod-lt, le_trans, le_of_mul-le-mul_right, div-add-mod', mul-lt-mul_of_pos_right}
use Rattle.std.proofs.Math.Nat.{div-mul_cancel, mul-dvd-mul_right, dvd-mul_left, dvd-mul_right}
use Rattle.std.proofs.lemmas.Nat.{mod-mul-add}
use Rattle.std.specs.Int.{IsGcd, ◌∣◌}
use Rattle.std.proofs.lemmas.Nat.Gcd.{IsGcd-from_zero, IsGcd-from_mod, IsGcd-swap, same_from_IsGcd, dvd-zero, dvd_antisymm, le_of_dvd}
use Rattle.lk_val.specs.Fractions.{gcd, gcd_within}

gcd_within-is : (n a b : ℕ) → b < n → IsGcd a b (gcd_within n a b)
gcd_within-is zero a b h = absurd (omega arith)
gcd_within-is (suc n) a zero h = IsGcd-from_zero a 0 refl
gcd_within-is (suc n) a (suc b) h = IsGcd-from_mod a (suc b) _ (gcd_within-is n (suc b) (a % suc b) (omega arith))

pub gcd-is : (a b : ℕ) → IsGcd a b (gcd a b)
unfolding gcd
gcd-is a b = gcd_within-is (suc b) a b (omega arith)

-- a step of the loop
pub gcd-step : (a b : ℕ) → gcd b (a % b) ≡ gcd a b
gcd-step a b = same_from_IsGcd a b _ _ (IsGcd-from_mod a b _ (gcd-is b (a % b))) (gcd-is a b)

pub gcd-zero : (a : ℕ) → gcd a 0 ≡ a
gcd-zero a = same_from_IsGcd a 0 _ _ (gcd-is a 0) (IsGcd-from_zero a 0 refl)

pub gcd-comm : (a b : ℕ) → gcd a b ≡ gcd b a
gcd-comm a b = same_from_IsGcd b a _ _ (IsGcd-swap a b _ (gcd-is a b)) (gcd-is b a)

pub gcd-positive : (a b : ℕ) → 0 < b → 0 < gcd a b
gcd-positive a b h = positive (gcd a b) (gcd-is a b).1
  where
    positive : (g : ℕ) → g ∣ b → 0 < g
    positive zero d =
        let none : zero ≡ b = dvd_antisymm d (dvd-zero b) in
        absurd (omega arith)
    positive (suc g) d = omega arith

pub gcd-small : (a b : ℕ) → 0 < b → gcd a b ≤ b
gcd-small a b h = le_of_dvd h (gcd-is a b).1

pub ruleset gcd_laws = (gcd-step, gcd-zero, gcd-positive, gcd-small)

-- ---- what it leaves of the two numbers

one_of_product : (k g : ℕ) → 0 < k → 0 < g → k * g ∣ g → k ≡ 1
one_of_product k g pk pg d =
    let small : k * g ≤ 1 * g = le_trans (le_of_dvd pg d) (omega arith) in
    let one : k ≤ 1 = le_of_mul-le-mul_right small pg in
    omega arith

pub positive-quotient : (b g : ℕ) → 0 < b → g ∣ b → 0 < b / g
positive-quotient b g pb d = some (b / g) (div-mul_cancel g d)
  where
    some : (n : ℕ) → n * g ≡ b → 0 < n
    some zero e = absurd (omega arith)
    some (suc n) e = omega arith

-- nothing but 1 divides both quotients
pub gcd-divided : (a b : ℕ) → 0 < b → gcd (a / gcd a b) (b / gcd a b) ≡ 1
gcd-divided a b h =
    let g = gcd a b in
    let k = gcd (a / g) (b / g) in
    let is = gcd-is a b in
    let inner = gcd-is (a / g) (b / g) in
    let first : k * g ∣ a = subst (λ m. k * g ∣ m) (div-mul_cancel g is.0) (mul-dvd-mul_right k inner.0 g) in
    let second : k * g ∣ b = subst (λ m. k * g ∣ m) (div-mul_cancel g is.1) (mul-dvd-mul_right k inner.1 g) in
    one_of_product k g (gcd-positive (a / g) (b / g) (positive-quotient b g h is.1)) (gcd-positive a b h) (is.2 (k * g) first second)

-- ---- two ratios in lowest terms

scaled-rest : (a b k : ℕ) → 0 < b → 0 < k → a * k % (b * k) ≡ a % b * k
scaled-rest a b k pb pk =
    let split : a / b * b + a % b ≡ a = div-add-mod' a b in
    let all : a * k ≡ a / b * (b * k) + a % b * k = ap (λ n. n * k) (sym split) ∙ omega arith in
    ap (λ n. n % (b * k)) all ∙ mod-mul-add (a / b) (b * k) (a % b * k) (mul-lt-mul_of_pos_right (mod-lt a pb) pk)

gcd_within-scaled : (n a b k : ℕ) → b < n → 0 < k → IsGcd (a * k) (b * k) (gcd_within n a b * k)
gcd_within-scaled zero a b k h pk = absurd (omega arith)
gcd_within-scaled (suc n) a zero k h pk = IsGcd-from_zero (a * k) (0 * k) (omega arith)
gcd_within-scaled (suc n) a (suc b) k h pk =
    let rest : a % suc b < suc b = mod-lt a (omega arith) in
    IsGcd-from_mod (a * k) (suc b * k) _
    (subst (λ r. IsGcd (suc b * k) r (gcd_within n (suc b) (a % suc b) * k)) (sym (scaled-rest a (suc b) k (omega arith) pk))
    (gcd_within-scaled n (suc b) (a % suc b) k (omega arith) pk))

gcd-scaled : (a b k : ℕ) → 0 < k → IsGcd (a * k) (b * k) (gcd a b * k)
unfolding gcd
gcd-scaled a b k pk = gcd_within-scaled (suc b) a b k (omega arith) pk

-- what divides a product and has nothing in common with one factor divides the other
divides-other : (a b k : ℕ) → gcd a b ≡ 1 → 0 < k → b ∣ a * k → b ∣ k
divides-other a b k e pk d =
    subst (λ m. b ∣ m) (ap (λ g. g * k) e ∙ omega arith) ((gcd-scaled a b k pk).2 b d (dvd-mul_right b k))

pub same-below : (a b c d : ℕ) → 0 < b → 0 < d → gcd a b ≡ 1 → gcd c d ≡ 1 → a * d ≡ c * b → b ≡ d
same-below a b c d pb pd first second e =
    dvd_antisymm
    (divides-other a b d first pd (subst (λ m. b ∣ m) (sym e) (dvd-mul_left b c)))
    (divides-other c d b second pb (subst (λ m. d ∣ m) e (dvd-mul_left d a)))
