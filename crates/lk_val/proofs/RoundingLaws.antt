-- A ratio is rounded to the nearest whole number, half away from zero, and to no other.
use Rattle.std.proofs.Common.{◌≡◌, ℕ, zero, suc, ◌+◌, ◌*◌, ◌/◌, ◌%◌, ◌<◌, ◌≤◌, ℤ, pos, negsuc, neg_ℤ, ◌+ℤ◌, ◌-ℤ◌, ◌*ℤ◌, ◌<ℤ◌, ◌≤ℤ◌, Ordering, Less, Equal, Greater, int_cmp, unsigned_abs, refl, sym, ap, ◌∙◌, subst, arith, div-add-mod', mod-lt, mul-le-mul_left}
use Rattle.std.proofs.lemmas.Int.{ints}
use Rattle.std.proofs.lemmas.Cmp.{int_ranked}
use borrow.Author.Differences.{up, down, product_is}
use Rattle.lk_val.specs.Rounding.{IsRounded, rounded, signed}
use Rattle.lk_val.proofs.RoundingSteps.{not-negative}

-- ---- it is near, and away from zero where it is half way

near : (size by q : ℕ) → 0 < by → q ≡ (2 * size + by) / (2 * by) → (2 * (by * q) ≤ 2 * size + by) × (2 * size < 2 * (by * q) + by)
near size by q h e =
    let whole : (2 * size + by) / (2 * by) * (2 * by) + (2 * size + by) % (2 * by) ≡ 2 * size + by = div-add-mod' (2 * size + by) (2 * by) in
    let rest : (2 * size + by) % (2 * by) < 2 * by = mod-lt (2 * size + by) (omega arith) in
    let same : q * (2 * by) ≡ (2 * size + by) / (2 * by) * (2 * by) = ap (λ n. n * (2 * by)) e in
    let turned : q * (2 * by) ≡ 2 * (by * q) = omega arith in
    (omega arith, omega arith)

negative_product : (a b : ℕ) → pos a *ℤ neg_ℤ (pos b) ≡ neg_ℤ (pos (a * b))
negative_product a zero =
    let none : a * 0 ≡ 0 = omega arith in
    ap pos none ∙ ap (λ n. neg_ℤ (pos n)) (sym none)
negative_product a (suc b) = refl

near_above : (n by q : ℕ) → (2 * (by * q) ≤ 2 * n + by) × (2 * n < 2 * (by * q) + by) → IsRounded (pos n) (pos by) (pos q)
near_above n by q h = record { nearest = omega (arith, ints); away = λ e. omega (arith, ints) }

near_below : (n by q : ℕ) → (2 * (by * q) ≤ 2 * n + by) × (2 * n < 2 * (by * q) + by) → IsRounded (neg_ℤ (pos n)) (pos by) (neg_ℤ (pos q))
near_below n by q h =
    let product : pos by *ℤ neg_ℤ (pos q) ≡ neg_ℤ (pos (by * q)) = negative_product by q in
    record {
      nearest = subst (λ z. 2 * unsigned_abs (neg_ℤ (pos n) -ℤ z) ≤ by) (sym product) (omega (arith, ints));
      away = subst (λ z. 2 * unsigned_abs (neg_ℤ (pos n) -ℤ z) ≡ by → unsigned_abs (neg_ℤ (pos n)) ≤ unsigned_abs z) (sym product) (λ e. omega (arith, ints));
    }

pub rounded-is : (n d : ℤ) → pos 0 <ℤ d → IsRounded n d (rounded n d)
unfolding rounded
rounded-is (pos n) (pos by) h =
    subst (λ b. IsRounded (pos n) (pos by) (signed b ((2 * n + by) / (2 * by)))) (sym (not-negative n))
    (near_above n by ((2 * n + by) / (2 * by)) (near n by ((2 * n + by) / (2 * by)) (omega (arith, ints)) refl))
rounded-is (negsuc n) (pos by) h =
    near_below (suc n) by ((2 * suc n + by) / (2 * by)) (near (suc n) by ((2 * suc n + by) / (2 * by)) (omega (arith, ints)) refl)
rounded-is n (negsuc by) h = absurd (omega (arith, ints))

-- ---- and no other is

-- of two multiples the greater is greater by the factor at least
apart : (d r s : ℤ) → pos 0 <ℤ d → r <ℤ s → ((d *ℤ r) +ℤ d) ≤ℤ (d *ℤ s)
apart (pos k) r s h l =
    let gap : up r + down s + 1 ≤ down r + up s = omega (arith, ints) in
    let more : k * (up r + down s + 1) ≤ k * (down r + up s) = mul-le-mul_left k gap in
    let first = product_is (pos k) r in
    let second = product_is (pos k) s in
    let one : up (pos k *ℤ r) ≡ k * up r = first.0 ∙ omega arith in
    let two : down (pos k *ℤ r) ≡ k * down r = first.1 ∙ omega arith in
    let three : up (pos k *ℤ s) ≡ k * up s = second.0 ∙ omega arith in
    let four : down (pos k *ℤ s) ≡ k * down s = second.1 ∙ omega arith in
    omega (arith, ints)
apart (negsuc k) r s h l = absurd (omega (arith, ints))

-- of two that are near, the ratio lies half way between
record IsHalfWay (n d x y : ℤ) : Type 0 where
  pub next : y ≡ x +ℤ d
  pub from_first : 2 * unsigned_abs (n -ℤ x) ≡ unsigned_abs d
  pub from_second : 2 * unsigned_abs (n -ℤ y) ≡ unsigned_abs d
  pub above : x <ℤ n
  pub below : n <ℤ y

half_way : (n d x y : ℤ) → pos 0 <ℤ d → (x +ℤ d) ≤ℤ y → 2 * unsigned_abs (n -ℤ x) ≤ unsigned_abs d → 2 * unsigned_abs (n -ℤ y) ≤ unsigned_abs d → IsHalfWay n d x y
half_way n d x y h l p q = record {
  next = omega (arith, ints);
  from_first = omega (arith, ints);
  from_second = omega (arith, ints);
  above = omega (arith, ints);
  below = omega (arith, ints);
}

-- then one of them is not away from zero
not_both : (n d r s : ℤ) → pos 0 <ℤ d → r <ℤ s → IsRounded n d r → IsRounded n d s → ⊥
not_both n (negsuc k) r s h l a b = absurd (omega (arith, ints))
not_both n (pos k) (pos r) s h l a b =
    let w = half_way n (pos k) (pos k *ℤ pos r) (pos k *ℤ s) h (apart (pos k) (pos r) s h l) a.nearest b.nearest in
    let size : unsigned_abs n ≤ k * r = a.away w.from_first in
    let above : pos (k * r) <ℤ n = w.above in
    omega (arith, ints)
not_both n (pos k) (negsuc r) s h l a b =
    let w = half_way n (pos k) (pos k *ℤ negsuc r) (pos k *ℤ s) h (apart (pos k) (negsuc r) s h l) a.nearest b.nearest in
    let size : unsigned_abs n ≤ unsigned_abs (pos k *ℤ s) = b.away w.from_second in
    let next : pos k *ℤ s ≡ (pos k *ℤ negsuc r) +ℤ pos k = w.next in
    let first : pos k *ℤ negsuc r ≡ neg_ℤ (pos (k * suc r)) = refl in
    let more : k ≤ k * suc r = omega arith in
    let below : n <ℤ (pos k *ℤ s) = w.below in
    omega (arith, ints)

pub rounded-only : (n d r : ℤ) → pos 0 <ℤ d → IsRounded n d r → r ≡ rounded n d
rounded-only n d r h a =
    by (int_cmp r (rounded n d)) refl
  where
    by : (o : Ordering) → o ≡ int_cmp r (rounded n d) → r ≡ rounded n d
    by Less e = absurd (not_both n d r (rounded n d) h (int_ranked r (rounded n d) Less e) a (rounded-is n d h))
    by Equal e = int_ranked r (rounded n d) Equal e
    by Greater e = absurd (not_both n d (rounded n d) r h (int_ranked r (rounded n d) Greater e) (rounded-is n d h) a)
