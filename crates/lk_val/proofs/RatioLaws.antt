-- Two ratios are in the order of their whole parts, or else of their rests.
use Rattle.std.proofs.Common.{◌≡◌, ℕ, zero, suc, ◌+◌, ◌*◌, ◌/◌, ◌%◌, ◌<◌, ◌≤◌, nat_cmp, is_eq, Ordering, Less, Equal, Greater, false, ◌⊎◌, ⊎_elim, refl, sym, ◌∙◌, subst, arith, div-add-mod', mod-lt, mul-le-mul_right, mul-lt-mul_of_pos_right, mul_comm}
use Rattle.std.proofs.lemmas.Cmp.{ranked}
use Rattle.std.proofs.lemmas.Bool.Decides.{nat_tests}

less : (x y : ℕ) → x < y → nat_cmp x y ≡ Less
less x y h = grind (arith, nat_tests)

equal : (x y : ℕ) → x ≡ y → nat_cmp x y ≡ Equal
equal x y h = grind (arith, nat_tests)

greater : (x y : ℕ) → y < x → nat_cmp x y ≡ Greater
greater x y h = grind (arith, nat_tests)

pub greater_zero : (r s : ℕ) → s ≡ 0 → 0 < r → Greater ≡ nat_cmp r s
greater_zero r s e h = sym (greater r s (omega arith))

below : (q b r p d s : ℕ) → r < b → 0 < d → q < p → (q * b + r) * d < (p * d + s) * b
below q b r p d s h k l =
    let whole : (q + 1) * (b * d) ≤ p * (b * d) = mul-le-mul_right (b * d) (omega arith) in
    let rest : r * d < b * d = mul-lt-mul_of_pos_right h k in
    omega arith

module _ (a b c d : ℕ) (pb : 0 < b) (pd : 0 < d) where
  whole_less : a / b < c / d → a * d < c * b
  whole_less h =
      subst (λ n. n * d < c * b) (div-add-mod' a b)
      (subst (λ n. (a / b * b + a % b) * d < n * b) (div-add-mod' c d)
      (below (a / b) b (a % b) (c / d) d (c % d) (mod-lt a pb) pd h))

  whole_greater : c / d < a / b → c * b < a * d
  whole_greater h =
      subst (λ n. n * b < a * d) (div-add-mod' c d)
      (subst (λ n. (c / d * d + c % d) * b < n * d) (div-add-mod' a b)
      (below (c / d) d (c % d) (a / b) b (a % b) (mod-lt c pd) pb h))

  -- whole parts that differ decide
  pub cmp-whole : (o : Ordering) → o ≡ nat_cmp (a / b) (c / d) → is_eq o ≡ false → o ≡ nat_cmp (a * d) (c * b)
  cmp-whole Less e h = sym (less (a * d) (c * b) (whole_less (ranked (a / b) (c / d) Less e)))
  cmp-whole Equal e h = absurd (cc)
  cmp-whole Greater e h = sym (greater (a * d) (c * b) (whole_greater (ranked (a / b) (c / d) Greater e)))

  same_rest : (q r s : ℕ) → nat_cmp (r * d) (s * b) ≡ nat_cmp ((q * b + r) * d) ((q * d + s) * b)
  same_rest q r s =
      by (nat_cmp (r * d) (s * b)) refl
    where
      by : (o : Ordering) → o ≡ nat_cmp (r * d) (s * b) → o ≡ nat_cmp ((q * b + r) * d) ((q * d + s) * b)
      by Less e = let h : r * d < s * b = ranked (r * d) (s * b) Less e in sym (less ((q * b + r) * d) ((q * d + s) * b) (omega arith))
      by Equal e = let h : r * d ≡ s * b = ranked (r * d) (s * b) Equal e in sym (equal ((q * b + r) * d) ((q * d + s) * b) (omega arith))
      by Greater e = let h : s * b < r * d = ranked (r * d) (s * b) Greater e in sym (greater ((q * b + r) * d) ((q * d + s) * b) (omega arith))

  -- where they are equal the rests decide
  pub cmp-rest : a / b ≡ c / d → nat_cmp (a % b * d) (c % d * b) ≡ nat_cmp (a * d) (c * b)
  cmp-rest e =
      same_rest (a / b) (a % b) (c % d)
      ∙ (λ i. nat_cmp (div-add-mod' a b i * d) ((e i * d + c % d) * b))
      ∙ (λ i. nat_cmp (a * d) (div-add-mod' c d i * b))

  -- a rest of 0 is less than another
  pub cmp-zero : (r s : ℕ) → (r ≡ 0) ⊎ (s ≡ 0) → nat_cmp r s ≡ nat_cmp (r * d) (s * b)
  cmp-zero zero zero h = sym (equal (0 * d) (0 * b) (omega arith))
  cmp-zero zero (suc s) h =
      let p : 0 * b < suc s * b = mul-lt-mul_of_pos_right (omega arith) pb in
      less 0 (suc s) (omega arith) ∙ sym (less (0 * d) (suc s * b) (omega arith))
  cmp-zero (suc r) zero h =
      let p : 0 * d < suc r * d = mul-lt-mul_of_pos_right (omega arith) pd in
      greater (suc r) 0 (omega arith) ∙ sym (greater (suc r * d) (0 * b) (omega arith))
  cmp-zero (suc r) (suc s) h = absurd (⊎_elim (λ e. omega arith) (λ e. omega arith) h)

  -- the rests turned over, the other way round
  pub cmp-turned : (r s : ℕ) → nat_cmp (d * r) (b * s) ≡ nat_cmp (r * d) (s * b)
  cmp-turned r s = λ i. nat_cmp (mul_comm d r i) (mul_comm b s i)
