-- Fractions are the rational numbers: lowest terms, order and arithmetic.
use Rattle.std.proofs.Common.{◌≡◌, ℕ, zero, suc, ◌*◌, ◌%◌, ◌<◌, Bool, true, false, cond, not, ◌&&◌, [], ◌∷◌, Some, None, ℤ, pos, negsuc, neg_ℤ, ◌+ℤ◌, ◌-ℤ◌, ◌*ℤ◌, ◌<ℤ◌, Ordering, Less, Equal, Greater, int_cmp, int_eq, int_lt, unsigned_abs, int_div, int_rem, refl, sym, ap, ap₂, ◌∙◌, subst, arith}
use Rattle.std.proofs.Math.IntN.{zero-*ℤ}
use Rattle.std.specs.List.{list_all}
use Rattle.std.specs.Int.{◌∣◌}
use Rattle.std.specs.Ordering.{ordering_reverse}
use Rattle.std.proofs.lemmas.Int.{ints, quot-rem, unsigned_abs-mul}
use Rattle.std.proofs.lemmas.Nat.Gcd.{mod-eq-zero_of_dvd}
use Rattle.std.proofs.lemmas.Cmp.{int_ranked, int_cmp_total, tied_itself}
use Rattle.lk_val.specs.Fractions.{Fraction, IsReduced, gcd, reduced, fits_128, fraction, frac_add, frac_sub, frac_mul, frac_div, frac_neg, frac_cmp, frac_of_sum}
use Rattle.lk_val.proofs.GcdLaws.{gcd-is, same-below}
use Rattle.lk_val.proofs.FractionOrder.{less_int, equal_int, greater_int}
use Rattle.lk_val.proofs.FractionSteps.{both, reduced-is, positive-product}
use Rattle.lk_val.proofs.IntRing.{is, is_neg, is_sum, is_difference, is_product, same_is, product_assoc, product_comm, product_turned, cmp_product, cancelled}

-- ---- lowest terms keep the value

no_rest : (n : ℤ) (g : ℕ) → unsigned_abs n % g ≡ 0 → int_rem n (pos g) ≡ pos 0
no_rest (pos n) g e = ap pos e
no_rest (negsuc n) g e = ap (λ r. neg_ℤ (pos r)) e

divided : (n : ℤ) (g : ℕ) → g ∣ unsigned_abs n → int_div n (pos g) *ℤ pos g ≡ n
divided n g d =
    let rest : int_rem n (pos g) ≡ pos 0 = no_rest n g (mod-eq-zero_of_dvd g d) in
    let whole : (int_div n (pos g) *ℤ pos g) +ℤ int_rem n (pos g) ≡ n = quot-rem n (pos g) in
    omega (arith, ints)

pub reduced-value : (n d : ℤ) → (reduced n d).n *ℤ d ≡ n *ℤ (reduced n d).d
unfolding reduced
reduced-value n d =
    let g = gcd (unsigned_abs n) (unsigned_abs d) in
    let common = gcd-is (unsigned_abs n) (unsigned_abs d) in
    let q = int_div n (pos g) in
    let r = int_div d (pos g) in
    ap (λ z. q *ℤ z) (sym (divided d g common.1) ∙ product_comm r (pos g))
    ∙ sym (product_assoc q (pos g) r)
    ∙ ap (λ z. z *ℤ r) (divided n g common.0)

-- ---- one fraction in lowest terms for each value

pub reduced-unique : (a b : Fraction) → IsReduced a → IsReduced b → a.n *ℤ b.d ≡ b.n *ℤ a.d → a ≡ b
reduced-unique a b ra rb e =
    let pa = ra.positive in
    let pb = rb.positive in
    let sizes : unsigned_abs a.n * unsigned_abs b.d ≡ unsigned_abs b.n * unsigned_abs a.d =
    sym (unsigned_abs-mul a.n b.d) ∙ ap unsigned_abs e ∙ unsigned_abs-mul b.n a.d in
    let pad : 0 < unsigned_abs a.d = omega (arith, ints) in
    let pbd : 0 < unsigned_abs b.d = omega (arith, ints) in
    let below : unsigned_abs a.d ≡ unsigned_abs b.d = same-below (unsigned_abs a.n) (unsigned_abs a.d) (unsigned_abs b.n) (unsigned_abs b.d) pad pbd ra.lowest rb.lowest sizes in
    let same_d : a.d ≡ b.d = omega (arith, ints) in
    let same_n : a.n ≡ b.n = cancelled a.n b.n b.d pb (e ∙ ap (λ z. b.n *ℤ z) same_d) in
    λ i. record { n = same_n i; d = same_d i }

-- ---- values: two ratios with denominators other than 0 are one value where their cross products are equal

pub record IsSame (a b : Fraction) : Type 0 where
  pub cross : a.n *ℤ b.d ≡ b.n *ℤ a.d

pub same_back : {a b : Fraction} → IsSame a b → IsSame b a
same_back s = record { cross = sym s.cross }

pub same_trans : {a b c : Fraction} → pos 0 <ℤ b.d → IsSame a b → IsSame b c → IsSame a c
same_trans {a} {b} {c} h s t = record {
  cross = cancelled (a.n *ℤ c.d) (c.n *ℤ a.d) b.d h
      (product_turned a.n c.d b.d
      ∙ ap (λ z. z *ℤ c.d) s.cross
      ∙ product_turned b.n a.d c.d
      ∙ ap (λ z. z *ℤ a.d) t.cross
      ∙ product_turned c.n b.d a.d);
}

pub same_equal : {a b : Fraction} → a ≡ b → IsSame a b
same_equal {a} {b} e = record { cross = λ i. (e i).n *ℤ (sym e i).d }

-- the sum, difference and product of two ratios as ratios
abbrev pub ratio_sum : Fraction → Fraction → Fraction
ratio_sum a b = record { n = (a.n *ℤ b.d) +ℤ (b.n *ℤ a.d); d = a.d *ℤ b.d }

abbrev pub ratio_difference : Fraction → Fraction → Fraction
ratio_difference a b = record { n = (a.n *ℤ b.d) -ℤ (b.n *ℤ a.d); d = a.d *ℤ b.d }

abbrev pub ratio_product : Fraction → Fraction → Fraction
ratio_product a b = record { n = a.n *ℤ b.n; d = a.d *ℤ b.d }

pub ratio_sum-comm : (a b : Fraction) → ratio_sum a b ≡ ratio_sum b a
ratio_sum-comm a b =
    let above : (a.n *ℤ b.d) +ℤ (b.n *ℤ a.d) ≡ (b.n *ℤ a.d) +ℤ (a.n *ℤ b.d) = omega (arith, ints) in
    λ i. record { n = above i; d = product_comm a.d b.d i }

pub ratio_product-comm : (a b : Fraction) → ratio_product a b ≡ ratio_product b a
ratio_product-comm a b = λ i. record { n = product_comm a.n b.n i; d = product_comm a.d b.d i }

pub ratio_sum-assoc : (a b c : Fraction) → ratio_sum (ratio_sum a b) c ≡ ratio_sum a (ratio_sum b c)
ratio_sum-assoc a b c =
    let above : (((a.n *ℤ b.d) +ℤ (b.n *ℤ a.d)) *ℤ c.d) +ℤ (c.n *ℤ (a.d *ℤ b.d)) ≡ (a.n *ℤ (b.d *ℤ c.d)) +ℤ (((b.n *ℤ c.d) +ℤ (c.n *ℤ b.d)) *ℤ a.d) =
    same_is
    (is_sum (is_product (is_sum (is_product (is a.n) (is b.d)) (is_product (is b.n) (is a.d))) (is c.d)) (is_product (is c.n) (is_product (is a.d) (is b.d))))
    (is_sum (is_product (is a.n) (is_product (is b.d) (is c.d))) (is_product (is_sum (is_product (is b.n) (is c.d)) (is_product (is c.n) (is b.d))) (is a.d)))
    (omega arith) in
    λ i. record { n = above i; d = product_assoc a.d b.d c.d i }

pub ratio_product-assoc : (a b c : Fraction) → ratio_product (ratio_product a b) c ≡ ratio_product a (ratio_product b c)
ratio_product-assoc a b c = λ i. record { n = product_assoc a.n b.n c.n i; d = product_assoc a.d b.d c.d i }

-- equal values have equal sums and products
pub ratio_sum-same : (a b c : Fraction) → IsSame a b → IsSame (ratio_sum a c) (ratio_sum b c)
ratio_sum-same a b c s = record {
  cross =
      let middle : ℤ = (c.n *ℤ a.d) *ℤ (b.d *ℤ c.d) in
      let left : ((a.n *ℤ c.d) +ℤ (c.n *ℤ a.d)) *ℤ (b.d *ℤ c.d) ≡ ((a.n *ℤ b.d) *ℤ (c.d *ℤ c.d)) +ℤ ((c.n *ℤ a.d) *ℤ (b.d *ℤ c.d)) =
      same_is
      (is_product (is_sum (is_product (is a.n) (is c.d)) (is_product (is c.n) (is a.d))) (is_product (is b.d) (is c.d)))
      (is_sum (is_product (is_product (is a.n) (is b.d)) (is_product (is c.d) (is c.d))) (is_product (is_product (is c.n) (is a.d)) (is_product (is b.d) (is c.d))))
      (omega arith) in
      let right : ((b.n *ℤ c.d) +ℤ (c.n *ℤ b.d)) *ℤ (a.d *ℤ c.d) ≡ ((b.n *ℤ a.d) *ℤ (c.d *ℤ c.d)) +ℤ ((c.n *ℤ a.d) *ℤ (b.d *ℤ c.d)) =
      same_is
      (is_product (is_sum (is_product (is b.n) (is c.d)) (is_product (is c.n) (is b.d))) (is_product (is a.d) (is c.d)))
      (is_sum (is_product (is_product (is b.n) (is a.d)) (is_product (is c.d) (is c.d))) (is_product (is_product (is c.n) (is a.d)) (is_product (is b.d) (is c.d))))
      (omega arith) in
      left ∙ ap (λ z. (z *ℤ (c.d *ℤ c.d)) +ℤ ((c.n *ℤ a.d) *ℤ (b.d *ℤ c.d))) s.cross ∙ sym right;
}

pub ratio_product-same : (a b c : Fraction) → IsSame a b → IsSame (ratio_product a c) (ratio_product b c)
ratio_product-same a b c s = record {
  cross =
      let left : (a.n *ℤ c.n) *ℤ (b.d *ℤ c.d) ≡ (a.n *ℤ b.d) *ℤ (c.n *ℤ c.d) =
      same_is (is_product (is_product (is a.n) (is c.n)) (is_product (is b.d) (is c.d))) (is_product (is_product (is a.n) (is b.d)) (is_product (is c.n) (is c.d))) (omega arith) in
      let right : (b.n *ℤ c.n) *ℤ (a.d *ℤ c.d) ≡ (b.n *ℤ a.d) *ℤ (c.n *ℤ c.d) =
      same_is (is_product (is_product (is b.n) (is c.n)) (is_product (is a.d) (is c.d))) (is_product (is_product (is b.n) (is a.d)) (is_product (is c.n) (is c.d))) (omega arith) in
      left ∙ ap (λ z. z *ℤ (c.n *ℤ c.d)) s.cross ∙ sym right;
}

-- a factor of both numerator and denominator changes no value
widened : (p r : Fraction) (k : ℤ) → r.n ≡ p.n *ℤ k → r.d ≡ p.d *ℤ k → IsSame p r
widened p r k en ed = record {
  cross = ap (λ z. p.n *ℤ z) ed ∙ sym (product_assoc p.n p.d k) ∙ product_turned p.n p.d k ∙ ap (λ z. z *ℤ p.d) (sym en);
}

pub ratio-distributive : (a b c : Fraction) → IsSame (ratio_product a (ratio_sum b c)) (ratio_sum (ratio_product a b) (ratio_product a c))
ratio-distributive a b c =
    let above : ((a.n *ℤ b.n) *ℤ (a.d *ℤ c.d)) +ℤ ((a.n *ℤ c.n) *ℤ (a.d *ℤ b.d)) ≡ (a.n *ℤ ((b.n *ℤ c.d) +ℤ (c.n *ℤ b.d))) *ℤ a.d =
    same_is
    (is_sum (is_product (is_product (is a.n) (is b.n)) (is_product (is a.d) (is c.d))) (is_product (is_product (is a.n) (is c.n)) (is_product (is a.d) (is b.d))))
    (is_product (is_product (is a.n) (is_sum (is_product (is b.n) (is c.d)) (is_product (is c.n) (is b.d)))) (is a.d))
    (omega arith) in
    let below : (a.d *ℤ b.d) *ℤ (a.d *ℤ c.d) ≡ (a.d *ℤ (b.d *ℤ c.d)) *ℤ a.d =
    same_is
    (is_product (is_product (is a.d) (is b.d)) (is_product (is a.d) (is c.d)))
    (is_product (is_product (is a.d) (is_product (is b.d) (is c.d))) (is a.d))
    (omega arith) in
    widened (ratio_product a (ratio_sum b c)) (ratio_sum (ratio_product a b) (ratio_product a c)) a.d above below

-- ---- what the operations give

-- f is in lowest terms, and its value is that of the ratio
pub record IsValue (f ratio : Fraction) : Type 0 where
  pub reduced : IsReduced f
  pub same : IsSame f ratio

value : (f r : Fraction) → pos 0 <ℤ r.d → f ≡ reduced r.n r.d → IsValue f r
value f r h e = record {
  reduced = subst IsReduced (sym e) (reduced-is r.n r.d h);
  same = record { cross = subst (λ x. x.n *ℤ r.d ≡ r.n *ℤ x.d) (sym e) (reduced-value r.n r.d) };
}

given : (b : Bool) (r f : Fraction) → cond b (Some r) None ≡ Some f → f ≡ r
given true r f e = cc
given false r f e = absurd (cc)

pub sum-value : (a b f : Fraction) → IsReduced a → IsReduced b → frac_add a b ≡ Some f → IsValue f (ratio_sum a b)
unfolding frac_add
sum-value a b f ra rb e =
    value f (ratio_sum a b) (positive-product a.d b.d ra.positive rb.positive)
    (given (list_all fits_128 ((a.n *ℤ b.d) ∷ (b.n *ℤ a.d) ∷ ((a.n *ℤ b.d) +ℤ (b.n *ℤ a.d)) ∷ (a.d *ℤ b.d) ∷ []) && not (int_eq (a.d *ℤ b.d) (pos 0)))
    (reduced ((a.n *ℤ b.d) +ℤ (b.n *ℤ a.d)) (a.d *ℤ b.d)) f e)

pub difference-value : (a b f : Fraction) → IsReduced a → IsReduced b → frac_sub a b ≡ Some f → IsValue f (ratio_difference a b)
unfolding frac_sub
difference-value a b f ra rb e =
    value f (ratio_difference a b) (positive-product a.d b.d ra.positive rb.positive)
    (given (list_all fits_128 ((a.n *ℤ b.d) ∷ (b.n *ℤ a.d) ∷ ((a.n *ℤ b.d) -ℤ (b.n *ℤ a.d)) ∷ (a.d *ℤ b.d) ∷ []) && not (int_eq (a.d *ℤ b.d) (pos 0)))
    (reduced ((a.n *ℤ b.d) -ℤ (b.n *ℤ a.d)) (a.d *ℤ b.d)) f e)

pub product-value : (a b f : Fraction) → IsReduced a → IsReduced b → frac_mul a b ≡ Some f → IsValue f (ratio_product a b)
unfolding frac_mul
product-value a b f ra rb e =
    value f (ratio_product a b) (positive-product a.d b.d ra.positive rb.positive)
    (given (list_all fits_128 ((a.n *ℤ b.n) ∷ (a.d *ℤ b.d) ∷ []) && not (int_eq (a.d *ℤ b.d) (pos 0))) (reduced (a.n *ℤ b.n) (a.d *ℤ b.d)) f e)

-- ---- the laws of the field

and_turned : (a b c : Bool) → (a && (b && c)) ≡ (b && (a && c))
and_turned true true c = refl
and_turned true false c = refl
and_turned false true c = refl
and_turned false false c = refl

pub frac_add-comm : (a b : Fraction) → frac_add a b ≡ frac_add b a
unfolding frac_add
frac_add-comm a b =
    let left = a.n *ℤ b.d in
    let right = b.n *ℤ a.d in
    let above : left +ℤ right ≡ right +ℤ left = omega (arith, ints) in
    let below = product_comm a.d b.d in
    (λ i. fraction (left ∷ right ∷ above i ∷ below i ∷ []) (above i) (below i))
    ∙ ap (λ t. cond (t && not (int_eq (b.d *ℤ a.d) (pos 0))) (Some (reduced (right +ℤ left) (b.d *ℤ a.d))) None)
    (and_turned (fits_128 left) (fits_128 right) (fits_128 (right +ℤ left) && (fits_128 (b.d *ℤ a.d) && true)))

pub frac_mul-comm : (a b : Fraction) → frac_mul a b ≡ frac_mul b a
unfolding frac_mul
frac_mul-comm a b = λ i. fraction (product_comm a.n b.n i ∷ product_comm a.d b.d i ∷ []) (product_comm a.n b.n i) (product_comm a.d b.d i)

-- two fractions of values that are one
same_fractions : (x y r s : Fraction) → pos 0 <ℤ r.d → pos 0 <ℤ s.d → IsValue x r → IsValue y s → IsSame r s → x ≡ y
same_fractions x y r s pr ps vx vy e =
    reduced-unique x y vx.reduced vy.reduced (same_trans ps (same_trans pr vx.same e) (same_back vy.same)).cross

pub frac_add-assoc : (a b c ab bc x y : Fraction) → IsReduced a → IsReduced b → IsReduced c → frac_add a b ≡ Some ab → frac_add ab c ≡ Some x → frac_add b c ≡ Some bc → frac_add a bc ≡ Some y → x ≡ y
frac_add-assoc a b c ab bc x y ra rb rc eab ex ebc ey =
    let vab = sum-value a b ab ra rb eab in
    let vbc = sum-value b c bc rb rc ebc in
    let pab : pos 0 <ℤ (a.d *ℤ b.d) = positive-product a.d b.d ra.positive rb.positive in
    let pbc : pos 0 <ℤ (b.d *ℤ c.d) = positive-product b.d c.d rb.positive rc.positive in
    let right : IsSame (ratio_sum a (ratio_sum b c)) (ratio_sum a bc) =
    same_trans (positive-product (b.d *ℤ c.d) a.d pbc ra.positive)
    (same_equal (ratio_sum-comm a (ratio_sum b c)))
    (same_trans (positive-product bc.d a.d vbc.reduced.positive ra.positive) (ratio_sum-same (ratio_sum b c) bc a (same_back vbc.same)) (same_equal (ratio_sum-comm bc a))) in
    same_fractions x y (ratio_sum ab c) (ratio_sum a bc)
    (positive-product ab.d c.d vab.reduced.positive rc.positive) (positive-product a.d bc.d ra.positive vbc.reduced.positive)
    (sum-value ab c x vab.reduced rc ex) (sum-value a bc y ra vbc.reduced ey)
    (same_trans (positive-product (a.d *ℤ b.d) c.d pab rc.positive) (ratio_sum-same ab (ratio_sum a b) c vab.same)
    (same_trans (positive-product a.d (b.d *ℤ c.d) ra.positive pbc) (same_equal (ratio_sum-assoc a b c)) right))

pub frac_mul-assoc : (a b c ab bc x y : Fraction) → IsReduced a → IsReduced b → IsReduced c → frac_mul a b ≡ Some ab → frac_mul ab c ≡ Some x → frac_mul b c ≡ Some bc → frac_mul a bc ≡ Some y → x ≡ y
frac_mul-assoc a b c ab bc x y ra rb rc eab ex ebc ey =
    let vab = product-value a b ab ra rb eab in
    let vbc = product-value b c bc rb rc ebc in
    let pab : pos 0 <ℤ (a.d *ℤ b.d) = positive-product a.d b.d ra.positive rb.positive in
    let pbc : pos 0 <ℤ (b.d *ℤ c.d) = positive-product b.d c.d rb.positive rc.positive in
    let right : IsSame (ratio_product a (ratio_product b c)) (ratio_product a bc) =
    same_trans (positive-product (b.d *ℤ c.d) a.d pbc ra.positive)
    (same_equal (ratio_product-comm a (ratio_product b c)))
    (same_trans (positive-product bc.d a.d vbc.reduced.positive ra.positive) (ratio_product-same (ratio_product b c) bc a (same_back vbc.same)) (same_equal (ratio_product-comm bc a))) in
    same_fractions x y (ratio_product ab c) (ratio_product a bc)
    (positive-product ab.d c.d vab.reduced.positive rc.positive) (positive-product a.d bc.d ra.positive vbc.reduced.positive)
    (product-value ab c x vab.reduced rc ex) (product-value a bc y ra vbc.reduced ey)
    (same_trans (positive-product (a.d *ℤ b.d) c.d pab rc.positive) (ratio_product-same ab (ratio_product a b) c vab.same)
    (same_trans (positive-product a.d (b.d *ℤ c.d) ra.positive pbc) (same_equal (ratio_product-assoc a b c)) right))

pub frac-distributive : (a b c s p q x y : Fraction) → IsReduced a → IsReduced b → IsReduced c → frac_add b c ≡ Some s → frac_mul a s ≡ Some x → frac_mul a b ≡ Some p → frac_mul a c ≡ Some q → frac_add p q ≡ Some y → x ≡ y
frac-distributive a b c s p q x y ra rb rc es ex ep eq ey =
    let vs = sum-value b c s rb rc es in
    let vp = product-value a b p ra rb ep in
    let vq = product-value a c q ra rc eq in
    let pbc : pos 0 <ℤ (b.d *ℤ c.d) = positive-product b.d c.d rb.positive rc.positive in
    let pab : pos 0 <ℤ (a.d *ℤ b.d) = positive-product a.d b.d ra.positive rb.positive in
    let pac : pos 0 <ℤ (a.d *ℤ c.d) = positive-product a.d c.d ra.positive rc.positive in
    let left : IsSame (ratio_product a s) (ratio_product a (ratio_sum b c)) =
    same_trans (positive-product s.d a.d vs.reduced.positive ra.positive) (same_equal (ratio_product-comm a s))
    (same_trans (positive-product (b.d *ℤ c.d) a.d pbc ra.positive) (ratio_product-same s (ratio_sum b c) a vs.same) (same_equal (ratio_product-comm (ratio_sum b c) a))) in
    let right : IsSame (ratio_sum p q) (ratio_sum (ratio_product a b) (ratio_product a c)) =
    same_trans (positive-product (a.d *ℤ b.d) q.d pab vq.reduced.positive) (ratio_sum-same p (ratio_product a b) q vp.same)
    (same_trans (positive-product q.d (a.d *ℤ b.d) vq.reduced.positive pab) (same_equal (ratio_sum-comm (ratio_product a b) q))
    (same_trans (positive-product (a.d *ℤ c.d) (a.d *ℤ b.d) pac pab) (ratio_sum-same q (ratio_product a c) (ratio_product a b) vq.same)
    (same_equal (ratio_sum-comm (ratio_product a c) (ratio_product a b))))) in
    same_fractions x y (ratio_product a s) (ratio_sum p q)
    (positive-product a.d s.d ra.positive vs.reduced.positive) (positive-product p.d q.d vp.reduced.positive vq.reduced.positive)
    (product-value a s x ra vs.reduced ex) (sum-value p q y vp.reduced vq.reduced ey)
    (same_trans (positive-product a.d (b.d *ℤ c.d) ra.positive pbc) left
    (same_trans (positive-product (a.d *ℤ b.d) (a.d *ℤ c.d) pab pac) (ratio-distributive a b c) (same_back right)))

-- ---- the order

pub cmp-same : (a b c : Fraction) → pos 0 <ℤ a.d → pos 0 <ℤ b.d → IsSame a b → frac_cmp a c ≡ frac_cmp b c
cmp-same a b c pa pb s =
    sym (cmp_product (a.n *ℤ c.d) (c.n *ℤ a.d) b.d pb)
    ∙ ap₂ int_cmp (product_turned a.n c.d b.d ∙ ap (λ z. z *ℤ c.d) s.cross ∙ product_turned b.n a.d c.d) (product_turned c.n a.d b.d)
    ∙ cmp_product (b.n *ℤ c.d) (c.n *ℤ b.d) a.d pa

pub cmp-turned : (a b : Fraction) → frac_cmp b a ≡ ordering_reverse (frac_cmp a b)
cmp-turned a b = int_cmp_total.antisymm (b.n *ℤ a.d) (a.n *ℤ b.d)

-- the order of the values, however they are written
pub cmp-value : (n d m e : ℤ) → pos 0 <ℤ d → pos 0 <ℤ e → frac_cmp (reduced n d) (reduced m e) ≡ int_cmp (n *ℤ e) (m *ℤ d)
cmp-value n d m e pd pe =
    let first : Fraction = record { n = n; d = d } in
    let second : Fraction = record { n = m; d = e } in
    let one : IsSame (reduced n d) (record { n = n; d = d }) = record { cross = reduced-value n d } in
    let two : IsSame (reduced m e) (record { n = m; d = e }) = record { cross = reduced-value m e } in
    cmp-same (reduced n d) (record { n = n; d = d }) (reduced m e) (reduced-is n d pd).positive pd one
    ∙ cmp-turned (reduced m e) (record { n = n; d = d })
    ∙ ap ordering_reverse (cmp-same (reduced m e) (record { n = m; d = e }) (record { n = n; d = d }) (reduced-is m e pe).positive pe two)
    ∙ sym (cmp-turned (record { n = m; d = e }) (record { n = n; d = d }))

-- numbers, as fractions over 10,000, compare as their counts
pub cmp-counts : (a b : ℤ) → frac_cmp (frac_of_sum a) (frac_of_sum b) ≡ int_cmp a b
cmp-counts a b =
    let above : pos 0 <ℤ pos 10000 = omega (arith, ints) in
    cmp-value a (pos 10000) b (pos 10000) above above ∙ cmp_product a b (pos 10000) above

pub cmp-equal : (a b : Fraction) → IsReduced a → IsReduced b → frac_cmp a b ≡ Equal → a ≡ b
cmp-equal a b ra rb e = reduced-unique a b ra rb (int_ranked (a.n *ℤ b.d) (b.n *ℤ a.d) Equal (sym e))

pub cmp-itself : (a : Fraction) → frac_cmp a a ≡ Equal
cmp-itself a = tied_itself int_cmp_total (a.n *ℤ a.d)

pub positive-less : (a b c : Fraction) → pos 0 <ℤ a.d → pos 0 <ℤ b.d → pos 0 <ℤ c.d → frac_cmp a b ≡ Less → frac_cmp b c ≡ Less → frac_cmp a c ≡ Less
positive-less a b c pa pb pc ab bc =
    let first : int_cmp ((a.n *ℤ c.d) *ℤ b.d) ((b.n *ℤ c.d) *ℤ a.d) ≡ Less =
    ap₂ int_cmp (product_turned a.n c.d b.d) (product_turned b.n c.d a.d) ∙ cmp_product (a.n *ℤ b.d) (b.n *ℤ a.d) c.d pc ∙ ab in
    let second : int_cmp ((b.n *ℤ c.d) *ℤ a.d) ((c.n *ℤ a.d) *ℤ b.d) ≡ Less =
    ap (λ z. int_cmp ((b.n *ℤ c.d) *ℤ a.d) z) (product_turned c.n a.d b.d) ∙ cmp_product (b.n *ℤ c.d) (c.n *ℤ b.d) a.d pa ∙ bc in
    sym (cmp_product (a.n *ℤ c.d) (c.n *ℤ a.d) b.d pb)
    ∙ int_cmp_total.trans ((a.n *ℤ c.d) *ℤ b.d) ((b.n *ℤ c.d) *ℤ a.d) ((c.n *ℤ a.d) *ℤ b.d) first second

pub cmp-less : (a b c : Fraction) → IsReduced a → IsReduced b → IsReduced c → frac_cmp a b ≡ Less → frac_cmp b c ≡ Less → frac_cmp a c ≡ Less
cmp-less a b c ra rb rc ab bc = positive-less a b c ra.positive rb.positive rc.positive ab bc

-- the sign of a difference is the order
pub cmp-difference : (a b f : Fraction) → IsReduced a → IsReduced b → frac_sub a b ≡ Some f → frac_cmp a b ≡ int_cmp f.n (pos 0)
cmp-difference a b f ra rb e =
    let v = difference-value a b f ra rb e in
    let below : pos 0 <ℤ (a.d *ℤ b.d) = positive-product a.d b.d ra.positive rb.positive in
    let above : ℤ = (a.n *ℤ b.d) -ℤ (b.n *ℤ a.d) in
    sym (sym (cmp_product f.n (pos 0) (a.d *ℤ b.d) below)
    ∙ ap₂ int_cmp v.same.cross (zero-*ℤ (a.d *ℤ b.d) ∙ sym (zero-*ℤ f.d))
    ∙ cmp_product ((a.n *ℤ b.d) -ℤ (b.n *ℤ a.d)) (pos 0) f.d v.reduced.positive
    ∙ by_difference (a.n *ℤ b.d) (b.n *ℤ a.d))
  where
    by_difference : (x y : ℤ) → int_cmp (x -ℤ y) (pos 0) ≡ int_cmp x y
    by_difference x y = by (int_cmp x y) refl
      where
        by : (o : Ordering) → o ≡ int_cmp x y → int_cmp (x -ℤ y) (pos 0) ≡ o
        by Less e = let h : x <ℤ y = int_ranked x y Less e in less_int (x -ℤ y) (pos 0) (omega (arith, ints))
        by Equal e = let h : x ≡ y = int_ranked x y Equal e in equal_int (x -ℤ y) (pos 0) (omega (arith, ints))
        by Greater e = let h : y <ℤ x = int_ranked x y Greater e in greater_int (x -ℤ y) (pos 0) (omega (arith, ints))

-- ---- differences, quotients and opposites undo

undone : (x a r : Fraction) → IsReduced a → pos 0 <ℤ r.d → IsValue x r → IsSame r a → x ≡ a
undone x a r ra pr v s = reduced-unique x a v.reduced ra (same_trans pr v.same s).cross

ratio_difference-undone : (a b : Fraction) → IsSame (ratio_sum (ratio_difference a b) b) a
ratio_difference-undone a b =
    let above : (((a.n *ℤ b.d) -ℤ (b.n *ℤ a.d)) *ℤ b.d) +ℤ (b.n *ℤ (a.d *ℤ b.d)) ≡ a.n *ℤ (b.d *ℤ b.d) =
    same_is
    (is_sum (is_product (is_difference (is_product (is a.n) (is b.d)) (is_product (is b.n) (is a.d))) (is b.d)) (is_product (is b.n) (is_product (is a.d) (is b.d))))
    (is_product (is a.n) (is_product (is b.d) (is b.d)))
    (omega arith) in
    same_back (widened a (ratio_sum (ratio_difference a b) b) (b.d *ℤ b.d) above (product_assoc a.d b.d b.d))

pub difference-undone : (a b c x : Fraction) → IsReduced a → IsReduced b → frac_sub a b ≡ Some c → frac_add c b ≡ Some x → x ≡ a
difference-undone a b c x ra rb ec ex =
    let vc = difference-value a b c ra rb ec in
    let below : pos 0 <ℤ (a.d *ℤ b.d) = positive-product a.d b.d ra.positive rb.positive in
    undone x a (ratio_sum c b) ra (positive-product c.d b.d vc.reduced.positive rb.positive) (sum-value c b x vc.reduced rb ex)
    (same_trans (positive-product (a.d *ℤ b.d) b.d below rb.positive) (ratio_sum-same c (ratio_difference a b) b vc.same) (ratio_difference-undone a b))

abbrev ratio_quotient : Fraction → Fraction → Fraction
ratio_quotient a b = record { n = a.n *ℤ b.d; d = a.d *ℤ b.n }

abbrev ratio_turned : Fraction → Fraction → Fraction
ratio_turned a b = record { n = neg_ℤ (a.n *ℤ b.d); d = neg_ℤ (a.d *ℤ b.n) }

quotient_undone : (a b : Fraction) → IsSame (ratio_product (ratio_quotient a b) b) a
quotient_undone a b =
    let above : (a.n *ℤ b.d) *ℤ b.n ≡ a.n *ℤ (b.d *ℤ b.n) = product_assoc a.n b.d b.n in
    let below : (a.d *ℤ b.n) *ℤ b.d ≡ a.d *ℤ (b.d *ℤ b.n) = product_turned a.d b.n b.d ∙ product_assoc a.d b.d b.n in
    same_back (widened a (ratio_product (ratio_quotient a b) b) (b.d *ℤ b.n) above below)

turned_undone : (a b : Fraction) → IsSame (ratio_product (ratio_turned a b) b) a
turned_undone a b =
    let above : neg_ℤ (a.n *ℤ b.d) *ℤ b.n ≡ a.n *ℤ neg_ℤ (b.d *ℤ b.n) =
    same_is (is_product (is_neg (is_product (is a.n) (is b.d))) (is b.n)) (is_product (is a.n) (is_neg (is_product (is b.d) (is b.n)))) (omega arith) in
    let below : neg_ℤ (a.d *ℤ b.n) *ℤ b.d ≡ a.d *ℤ neg_ℤ (b.d *ℤ b.n) =
    same_is (is_product (is_neg (is_product (is a.d) (is b.n))) (is b.d)) (is_product (is a.d) (is_neg (is_product (is b.d) (is b.n)))) (omega arith) in
    same_back (widened a (ratio_product (ratio_turned a b) b) (neg_ℤ (b.d *ℤ b.n)) above below)

not_zero : (z : ℤ) (t : Bool) → (t && not (int_eq z (pos 0))) ≡ true → int_lt z (pos 0) ≡ false → pos 0 <ℤ z
not_zero z t e below =
    let other : not (int_eq z (pos 0)) ≡ true = (both t (not (int_eq z (pos 0))) e).1 in
    int_sign z below other
  where
    int_sign : (z : ℤ) → int_lt z (pos 0) ≡ false → not (int_eq z (pos 0)) ≡ true → pos 0 <ℤ z
    int_sign (pos zero) below other = absurd (cc)
    int_sign (pos (suc k)) below other = omega (arith, ints)
    int_sign (negsuc k) below other = absurd (cc)

given_test : (b : Bool) (r f : Fraction) → cond b (Some r) None ≡ Some f → b ≡ true
given_test true r f e = refl
given_test false r f e = absurd (cc)

-- the divisor is above 0, or below 0 and both signs are changed
pub quotient-undone : (a b c x : Fraction) → IsReduced a → IsReduced b → frac_div a b ≡ Some c → frac_mul c b ≡ Some x → x ≡ a
unfolding frac_div
quotient-undone a b c x ra rb ec ex =
    let above = a.n *ℤ b.d in
    let below = a.d *ℤ b.n in
    let turned_test = list_all fits_128 (above ∷ below ∷ neg_ℤ above ∷ neg_ℤ below ∷ []) in
    let test = list_all fits_128 (above ∷ below ∷ []) in
    elim (int_lt below (pos 0)) as (λ t. int_lt below (pos 0) ≡ t → cond t (fraction (above ∷ below ∷ neg_ℤ above ∷ neg_ℤ below ∷ []) (neg_ℤ above) (neg_ℤ below)) (fraction (above ∷ below ∷ []) above below) ≡ Some c → x ≡ a) [
      | true ↦ λ t e.
          let positive : pos 0 <ℤ neg_ℤ below = omega (arith, ints) in
          let v = value c (ratio_turned a b) positive (given (turned_test && not (int_eq (neg_ℤ below) (pos 0))) (reduced (neg_ℤ above) (neg_ℤ below)) c e) in
          undone x a (ratio_product c b) ra (positive-product c.d b.d v.reduced.positive rb.positive) (product-value c b x v.reduced rb ex)
          (same_trans (positive-product (neg_ℤ below) b.d positive rb.positive) (ratio_product-same c (ratio_turned a b) b v.same) (turned_undone a b))
      | false ↦ λ t e.
          let positive : pos 0 <ℤ below = not_zero below test (given_test (test && not (int_eq below (pos 0))) (reduced above below) c e) t in
          let v = value c (ratio_quotient a b) positive (given (test && not (int_eq below (pos 0))) (reduced above below) c e) in
          undone x a (ratio_product c b) ra (positive-product c.d b.d v.reduced.positive rb.positive) (product-value c b x v.reduced rb ex)
          (same_trans (positive-product below b.d positive rb.positive) (ratio_product-same c (ratio_quotient a b) b v.same) (quotient_undone a b))
    ] refl ec

zero_value : (x r : Fraction) → pos 0 <ℤ r.d → r.n ≡ pos 0 → IsSame x r → x.n ≡ pos 0
zero_value x r pr e s = cancelled x.n (pos 0) r.d pr (s.cross ∙ ap (λ z. z *ℤ x.d) e ∙ zero-*ℤ x.d ∙ sym (zero-*ℤ r.d))

-- a fraction and its opposite are 0 together
pub opposite-undone : (a b x : Fraction) → IsReduced a → frac_neg a ≡ Some b → frac_add a b ≡ Some x → x.n ≡ pos 0
unfolding frac_neg
opposite-undone a b x ra eb ex =
    let opposite : Fraction = record { n = neg_ℤ a.n; d = a.d } in
    let vb = value b (record { n = neg_ℤ a.n; d = a.d }) ra.positive (given (list_all fits_128 (neg_ℤ a.n ∷ []) && not (int_eq a.d (pos 0))) (reduced (neg_ℤ a.n) a.d) b eb) in
    let vx = sum-value a b x ra vb.reduced ex in
    let square : pos 0 <ℤ (a.d *ℤ a.d) = positive-product a.d a.d ra.positive ra.positive in
    let none : (neg_ℤ a.n *ℤ a.d) +ℤ (a.n *ℤ a.d) ≡ pos 0 =
    same_is (is_sum (is_product (is_neg (is a.n)) (is a.d)) (is_product (is a.n) (is a.d))) (is (pos 0)) (omega arith) in
    let same : IsSame (ratio_sum a b) (ratio_sum (record { n = neg_ℤ a.n; d = a.d }) a) =
    same_trans (positive-product b.d a.d vb.reduced.positive ra.positive) (same_equal (ratio_sum-comm a b)) (ratio_sum-same b (record { n = neg_ℤ a.n; d = a.d }) a vb.same) in
    zero_value x (ratio_sum (record { n = neg_ℤ a.n; d = a.d }) a) square none
    (same_trans (positive-product a.d b.d ra.positive vb.reduced.positive) vx.same same)
