-- Products of signed numbers: identities by way of differences of naturals, and a positive factor that is left out.
use Rattle.std.proofs.Common.{◌≡◌, ℕ, ◌+◌, ◌*◌, ◌<◌, ℤ, pos, negsuc, neg_ℤ, ◌+ℤ◌, ◌-ℤ◌, ◌*ℤ◌, ◌<ℤ◌, Ordering, Less, Equal, Greater, int_cmp, refl, sym, ap, ◌∙◌, arith, mul-lt-mul_of_pos_right}
use Rattle.std.proofs.lemmas.Int.{ints}
use Rattle.std.proofs.lemmas.Cmp.{int_ranked}
use borrow.Author.Differences.{up, down, product_is}
use Rattle.lk_val.proofs.FractionOrder.{less_int, equal_int, greater_int}

-- z is u - v
pub record Is (z : ℤ) (u v : ℕ) : Type 0 where
  pub gap : up z + v ≡ down z + u

pub is : (z : ℤ) → Is z (up z) (down z)
is z = record { gap = omega arith }

pub is_sum : {a b : ℤ} {u v x y : ℕ} → Is a u v → Is b x y → Is (a +ℤ b) (u + x) (v + y)
is_sum p q = record { gap = omega (arith, ints) }

pub is_neg : {a : ℤ} {u v : ℕ} → Is a u v → Is (neg_ℤ a) v u
is_neg p = record { gap = omega (arith, ints) }

pub is_difference : {a b : ℤ} {u v x y : ℕ} → Is a u v → Is b x y → Is (a -ℤ b) (u + y) (v + x)
is_difference p q = is_sum p (is_neg q)

multiplied : (a b c d u v x y : ℕ) → a + v ≡ b + u → c + y ≡ d + x → (a * c + b * d) + (u * y + v * x) ≡ (a * d + b * c) + (u * x + v * y)
multiplied a b c d u v x y p q =
    let e : (a + v) * c ≡ (b + u) * c = ap (λ n. n * c) p in
    let f : (a + v) * d ≡ (b + u) * d = ap (λ n. n * d) p in
    let g : u * (c + y) ≡ u * (d + x) = ap (λ n. u * n) q in
    let h : v * (c + y) ≡ v * (d + x) = ap (λ n. v * n) q in
    omega arith

pub is_product : {a b : ℤ} {u v x y : ℕ} → Is a u v → Is b x y → Is (a *ℤ b) (u * x + v * y) (u * y + v * x)
is_product {a} {b} {u} {v} {x} {y} p q =
    let product = product_is a b in
    record { gap = (λ i. product.0 i + (u * y + v * x)) ∙ multiplied (up a) (down a) (up b) (down b) u v x y p.gap q.gap ∙ (λ i. sym product.1 i + (u * x + v * y)) }

pub same_is : {a b : ℤ} {u v x y : ℕ} → Is a u v → Is b x y → u + y ≡ v + x → a ≡ b
same_is p q e = omega (arith, ints)

-- ---- laws

pub product_assoc : (a b c : ℤ) → (a *ℤ b) *ℤ c ≡ a *ℤ (b *ℤ c)
product_assoc a b c = same_is (is_product (is_product (is a) (is b)) (is c)) (is_product (is a) (is_product (is b) (is c))) (omega arith)

pub product_comm : (a b : ℤ) → a *ℤ b ≡ b *ℤ a
product_comm a b = same_is (is_product (is a) (is b)) (is_product (is b) (is a)) (omega arith)

-- the last two factors change places
pub product_turned : (a b c : ℤ) → (a *ℤ b) *ℤ c ≡ (a *ℤ c) *ℤ b
product_turned a b c = same_is (is_product (is_product (is a) (is b)) (is c)) (is_product (is_product (is a) (is c)) (is b)) (omega arith)

pub product_over_sum : (a b c : ℤ) → (a +ℤ b) *ℤ c ≡ (a *ℤ c) +ℤ (b *ℤ c)
product_over_sum a b c = same_is (is_product (is_sum (is a) (is b)) (is c)) (is_sum (is_product (is a) (is c)) (is_product (is b) (is c))) (omega arith)

-- ---- a positive factor

less_product : (a b k : ℤ) → pos 0 <ℤ k → a <ℤ b → (a *ℤ k) <ℤ (b *ℤ k)
less_product a b (pos k) h l =
    let kp : 0 < k = omega (arith, ints) in
    let gap : up a + down b < down a + up b = omega (arith, ints) in
    let more : (up a + down b) * k < (down a + up b) * k = mul-lt-mul_of_pos_right gap kp in
    let first = product_is a (pos k) in
    let second = product_is b (pos k) in
    let one : up (a *ℤ pos k) ≡ up a * k = first.0 ∙ omega arith in
    let two : down (a *ℤ pos k) ≡ down a * k = first.1 ∙ omega arith in
    let three : up (b *ℤ pos k) ≡ up b * k = second.0 ∙ omega arith in
    let four : down (b *ℤ pos k) ≡ down b * k = second.1 ∙ omega arith in
    omega (arith, ints)
less_product a b (negsuc k) h l = absurd (omega (arith, ints))

-- it does not change the order
pub cmp_product : (a b k : ℤ) → pos 0 <ℤ k → int_cmp (a *ℤ k) (b *ℤ k) ≡ int_cmp a b
cmp_product a b k h = by (int_cmp a b) refl
  where
    by : (o : Ordering) → o ≡ int_cmp a b → int_cmp (a *ℤ k) (b *ℤ k) ≡ o
    by Less e = less_int (a *ℤ k) (b *ℤ k) (less_product a b k h (int_ranked a b Less e))
    by Equal e = equal_int (a *ℤ k) (b *ℤ k) (ap (λ z. z *ℤ k) (int_ranked a b Equal e))
    by Greater e = greater_int (a *ℤ k) (b *ℤ k) (less_product b a k h (int_ranked a b Greater e))

pub cancelled : (a b k : ℤ) → pos 0 <ℤ k → a *ℤ k ≡ b *ℤ k → a ≡ b
cancelled a b k h e = int_ranked a b Equal (sym (sym (cmp_product a b k h) ∙ equal_int (a *ℤ k) (b *ℤ k) e))
