-- Steps of the arithmetic of fractions: which numbers are of 128 bits, and what comes of the numbers that are formed.
use Rattle.std.proofs.Common.{List, [], ◌∷◌, to_z, of_z, ◌≡◌, ℕ, zero, suc, ◌<◌, ◌≤◌, ◌/◌, ◌^◌, Bool, true, false, cond, T, ◌&&◌, ℤ, pos, negsuc, neg_ℤ, ◌*ℤ◌, ◌+ℤ◌, ◌-ℤ◌, ◌<ℤ◌, ◌≤ℤ◌, Option, Some, None, SomeIff, FitsSigned, unsigned_abs, int_div, int_lt, int_le, refl, sym, ap, ap₂, ◌∙◌, subst, arith}
use Rattle.std.specs.List.{list_all}
use Rattle.std.specs.Ordering.{int_eq}
use Rattle.std.specs.Int.{w128}
use Rattle.std.proofs.lemmas.Int.{ints, to_z-of_z, to_z_pos, quot_fits}
use Rattle.std.proofs.lemmas.Bool.{false≢true}
use Rattle.std.proofs.lemmas.Bool.Decides.{Decides-int_eq}
use Rattle.lk_val.proofs.GcdLaws.{gcd-is, gcd-divided, positive-quotient}
use Rattle.lk_val.specs.Fractions.{Fraction, IsReduced, gcd, fits_128, fitting, reduced, fraction, frac_add, frac_sub, frac_mul, frac_div}

pub both : (a b : Bool) → (a && b) ≡ true → (a ≡ true) × (b ≡ true)
both true b h = (refl, h)
both false b h = absurd (false≢true h)

pub together : {a b : Bool} → a ≡ true → b ≡ true → (a && b) ≡ true
together p q = ap₂ (λ a b. a && b) p q

T-true : (b : Bool) → T b → b ≡ true
T-true true t = refl
T-true false t = absurd t

pub le-true : (a b : ℤ) → a ≤ℤ b → int_le a b ≡ true
le-true a b h = T-true (int_le a b) h.le

pub lt-true : (a b : ℤ) → a <ℤ b → int_lt a b ≡ true
lt-true a b h = T-true (int_lt a b) h.lt

pub fits_128-true : (z : ℤ) → fits_128 z ≡ true → FitsSigned w128 z
unfolding fits_128
fits_128-true z h =
    let p = both (int_le (neg_ℤ (pos (2 ^ 127))) z) (int_lt z (pos (2 ^ 127))) h in
    let low : int_le (neg_ℤ (pos (2 ^ 127))) z ≡ true = p.0 in
    let high : int_lt z (pos (2 ^ 127)) ≡ true = p.1 in
    omega (arith, ints)

pub true-fits_128 : (z : ℤ) → FitsSigned w128 z → fits_128 z ≡ true
unfolding fits_128
true-fits_128 z f =
    together (le-true (neg_ℤ (pos (2 ^ 127))) z (omega (arith, ints))) (lt-true z (pos (2 ^ 127)) (omega (arith, ints)))

pub fitting-is : (r : Option ℤ) (z : ℤ) → SomeIff r (FitsSigned w128 z) z → r ≡ fitting z
fitting-is None z none =
    elim (fits_128 z) as (λ b. fits_128 z ≡ b → None ≡ cond b (Some z) None) [
      | true ↦ λ e. absurd (none (fits_128-true z e))
      | false ↦ λ e. refl
    ] refl
fitting-is (Some x) z h = ap Some h.1 ∙ ap (λ b. cond b (Some z) None) (sym (true-fits_128 z h.0))

pub Some-fitting : (z x : ℤ) → Some x ≡ fitting z → (fits_128 z ≡ true) × (x ≡ z)
Some-fitting z x e =
    elim (fits_128 z) as (λ b. fits_128 z ≡ b → Some x ≡ cond b (Some z) None → (b ≡ true) × (x ≡ z)) [
      | true ↦ λ f e. (refl, cc)
      | false ↦ λ f e. absurd (cc)
    ] refl e

pub None-fitting : (z : ℤ) → None ≡ fitting z → fits_128 z ≡ false
None-fitting z e =
    elim (fits_128 z) as (λ b. fits_128 z ≡ b → None ≡ cond b (Some z) None → b ≡ false) [
      | true ↦ λ f e. absurd (cc)
      | false ↦ λ f e. refl
    ] refl e

pub ruleset fittings = (fitting-is, to_z-of_z)

-- ---- lowest terms

abs-div : (n : ℤ) (g : ℕ) → unsigned_abs (int_div n (pos g)) ≡ unsigned_abs n / g
abs-div (pos n) g = refl
abs-div (negsuc n) g = omega (arith, ints)

positive-abs : (d : ℤ) → pos 0 <ℤ d → 0 < unsigned_abs d
positive-abs d h = omega (arith, ints)

positive-div : (d : ℤ) (g : ℕ) → pos 0 <ℤ d → 0 < unsigned_abs d / g → pos 0 <ℤ int_div d (pos g)
positive-div (pos d) g h k = omega (arith, ints)
positive-div (negsuc d) g h k = absurd (omega (arith, ints))

pub reduced-is : (n d : ℤ) → pos 0 <ℤ d → IsReduced (reduced n d)
unfolding reduced
reduced-is n d h =
    let a = unsigned_abs n in
    let b = unsigned_abs d in
    let g = gcd a b in
    let pb : 0 < b = positive-abs d h in
    record {
      positive = positive-div d g h (positive-quotient b g pb (gcd-is a b).1);
      lowest = (λ i. gcd (abs-div n g i) (abs-div d g i)) ∙ gcd-divided a b pb;
    }

-- what the code divides is what is divided
pub reduced-made : (n d : ℤ) (g : ℕ) → FitsSigned w128 n → FitsSigned w128 d → pos 0 <ℤ d → g ≡ gcd (unsigned_abs n) (unsigned_abs d) → 0 < g → g ≤ unsigned_abs d
    → record { n = to_z w128 (of_z w128 (int_div (to_z w128 (of_z w128 n)) (to_z w128 g))); d = to_z w128 (of_z w128 (int_div (to_z w128 (of_z w128 d)) (to_z w128 g))) } ≡ reduced n d
unfolding reduced
reduced-made n d g fn fd h e pg small =
    let small_d : unsigned_abs d < 2 ^ 127 = omega (arith, ints) in
    let by : to_z w128 g ≡ pos g = to_z_pos w128 g (omega arith) in
    let positive : pos 0 <ℤ pos g = omega (arith, ints) in
    let first : to_z w128 (of_z w128 (int_div (to_z w128 (of_z w128 n)) (to_z w128 g))) ≡ int_div n (pos g) =
    (λ i. to_z w128 (of_z w128 (int_div (to_z-of_z w128 n fn i) (by i)))) ∙ to_z-of_z w128 (int_div n (pos g)) (quot_fits w128 n (pos g) fn positive) in
    let second : to_z w128 (of_z w128 (int_div (to_z w128 (of_z w128 d)) (to_z w128 g))) ≡ int_div d (pos g) =
    (λ i. to_z w128 (of_z w128 (int_div (to_z-of_z w128 d fd i) (by i)))) ∙ to_z-of_z w128 (int_div d (pos g)) (quot_fits w128 d (pos g) fd positive) in
    (λ i. record { n = first i; d = second i }) ∙ (λ i. record { n = int_div n (pos (e i)); d = int_div d (pos (e i)) })

-- ---- the numbers that are formed

pub fraction-made : (formed : List ℤ) (n d : ℤ) → list_all fits_128 formed ≡ true → int_eq d (pos 0) ≡ false → Some (reduced n d) ≡ fraction formed n d
fraction-made formed n d fits some = rw (fits, some) refl

pub fraction-none : (formed : List ℤ) (n d : ℤ) → list_all fits_128 formed ≡ false → None ≡ fraction formed n d
fraction-none formed n d e = rw e refl

-- a number as the code passes it on
abbrev pub passed : ℤ → ℤ
passed z = to_z w128 (of_z w128 z)

-- a number that fits is passed on as it is
pub passed-fitting : (z x : ℤ) → Some x ≡ fitting z → passed x ≡ z
passed-fitting z x e =
    let p = Some-fitting z x e in
    to_z-of_z w128 x (subst (FitsSigned w128) (sym p.1) (fits_128-true z p.0)) ∙ p.1

pub positive-product : (a b : ℤ) → pos 0 <ℤ a → pos 0 <ℤ b → pos 0 <ℤ (a *ℤ b)
positive-product (pos zero) b h k = absurd (omega (arith, ints))
positive-product (negsuc a) b h k = absurd (omega (arith, ints))
positive-product (pos (suc a)) (pos zero) h k = absurd (omega (arith, ints))
positive-product (pos (suc a)) (negsuc b) h k = absurd (omega (arith, ints))
positive-product (pos (suc a)) (pos (suc b)) h k = omega (arith, ints)

pub not-zero : (d : ℤ) → pos 0 <ℤ d → int_eq d (pos 0) ≡ false
not-zero d h =
    elim (int_eq d (pos 0)) as (λ b. int_eq d (pos 0) ≡ b → b ≡ false) [
      | true ↦ λ e. let zero_is : d ≡ pos 0 = (Decides-int_eq d (pos 0)).0 e in absurd (omega (arith, ints))
      | false ↦ λ e. refl
    ] refl

positive-neg : (z : ℤ) → z <ℤ pos 0 → pos 0 <ℤ neg_ℤ z
positive-neg z h = omega (arith, ints)

not-below : (z : ℤ) → pos 0 <ℤ z → int_lt z (pos 0) ≡ false
not-below z h =
    elim (int_lt z (pos 0)) as (λ b. int_lt z (pos 0) ≡ b → b ≡ false) [
      | true ↦ λ e. absurd (omega (arith, ints))
      | false ↦ λ e. refl
    ] refl

and-false : (a : Bool) → (a && false) ≡ false
and-false true = refl
and-false false = refl

-- what is formed, as far as the code has come
module _ (an ad bn bd : ℤ) where
  abbrev first : Fraction
  first = record { n = an; d = ad }

  abbrev second : Fraction
  second = record { n = bn; d = bd }

  abbrev formed_by : ℤ → List ℤ
  formed_by n = (an *ℤ bd) ∷ (bn *ℤ ad) ∷ n ∷ (ad *ℤ bd) ∷ []

  pub positive-below : (d : ℤ) → Some d ≡ fitting (ad *ℤ bd) → pos 0 <ℤ ad → pos 0 <ℤ bd → pos 0 <ℤ passed d
  positive-below d fd h k = subst (λ z. pos 0 <ℤ z) (sym (passed-fitting _ d fd)) (positive-product ad bd h k)

  pub sum-done : (l r s d : ℤ) → Some l ≡ fitting (an *ℤ bd) → Some r ≡ fitting (bn *ℤ ad) → Some d ≡ fitting (ad *ℤ bd) → Some s ≡ fitting (passed l +ℤ passed r)
      → pos 0 <ℤ ad → pos 0 <ℤ bd → Some (reduced (passed s) (passed d)) ≡ frac_add first second
  unfolding frac_add
  sum-done l r s d fl fr fd fs h k =
      let el : passed l ≡ an *ℤ bd = passed-fitting _ l fl in
      let er : passed r ≡ bn *ℤ ad = passed-fitting _ r fr in
      let ed : passed d ≡ ad *ℤ bd = passed-fitting _ d fd in
      let formed : Some s ≡ fitting ((an *ℤ bd) +ℤ (bn *ℤ ad)) = fs ∙ (λ i. fitting (el i +ℤ er i)) in
      let es : passed s ≡ (an *ℤ bd) +ℤ (bn *ℤ ad) = passed-fitting _ s formed in
      (λ i. Some (reduced (es i) (ed i)))
      ∙ fraction-made (formed_by ((an *ℤ bd) +ℤ (bn *ℤ ad))) ((an *ℤ bd) +ℤ (bn *ℤ ad)) (ad *ℤ bd)
      (together (Some-fitting _ l fl).0 (together (Some-fitting _ r fr).0 (together (Some-fitting _ s formed).0 (together (Some-fitting _ d fd).0 refl))))
      (not-zero (ad *ℤ bd) (positive-product ad bd h k))

  pub sum-none : (l r : ℤ) → Some l ≡ fitting (an *ℤ bd) → Some r ≡ fitting (bn *ℤ ad) → None ≡ fitting (passed l +ℤ passed r) → None ≡ frac_add first second
  unfolding frac_add
  sum-none l r fl fr fs =
      let formed : None ≡ fitting ((an *ℤ bd) +ℤ (bn *ℤ ad)) = fs ∙ (λ i. fitting (passed-fitting _ l fl i +ℤ passed-fitting _ r fr i)) in
      fraction-none (formed_by ((an *ℤ bd) +ℤ (bn *ℤ ad))) ((an *ℤ bd) +ℤ (bn *ℤ ad)) (ad *ℤ bd) (ap₂ (λ b c. b && (c && (fits_128 ((an *ℤ bd) +ℤ (bn *ℤ ad)) && (fits_128 (ad *ℤ bd) && true)))) (Some-fitting _ l fl).0 (Some-fitting _ r fr).0
      ∙ ap (λ b. b && (fits_128 (ad *ℤ bd) && true)) (None-fitting _ formed))

  pub difference-done : (l r s d : ℤ) → Some l ≡ fitting (an *ℤ bd) → Some r ≡ fitting (bn *ℤ ad) → Some d ≡ fitting (ad *ℤ bd) → Some s ≡ fitting (passed l -ℤ passed r)
      → pos 0 <ℤ ad → pos 0 <ℤ bd → Some (reduced (passed s) (passed d)) ≡ frac_sub first second
  unfolding frac_sub
  difference-done l r s d fl fr fd fs h k =
      let el : passed l ≡ an *ℤ bd = passed-fitting _ l fl in
      let er : passed r ≡ bn *ℤ ad = passed-fitting _ r fr in
      let ed : passed d ≡ ad *ℤ bd = passed-fitting _ d fd in
      let formed : Some s ≡ fitting ((an *ℤ bd) -ℤ (bn *ℤ ad)) = fs ∙ (λ i. fitting (el i -ℤ er i)) in
      let es : passed s ≡ (an *ℤ bd) -ℤ (bn *ℤ ad) = passed-fitting _ s formed in
      (λ i. Some (reduced (es i) (ed i)))
      ∙ fraction-made (formed_by ((an *ℤ bd) -ℤ (bn *ℤ ad))) ((an *ℤ bd) -ℤ (bn *ℤ ad)) (ad *ℤ bd)
      (together (Some-fitting _ l fl).0 (together (Some-fitting _ r fr).0 (together (Some-fitting _ s formed).0 (together (Some-fitting _ d fd).0 refl))))
      (not-zero (ad *ℤ bd) (positive-product ad bd h k))

  pub difference-none : (l r : ℤ) → Some l ≡ fitting (an *ℤ bd) → Some r ≡ fitting (bn *ℤ ad) → None ≡ fitting (passed l -ℤ passed r) → None ≡ frac_sub first second
  unfolding frac_sub
  difference-none l r fl fr fs =
      let formed : None ≡ fitting ((an *ℤ bd) -ℤ (bn *ℤ ad)) = fs ∙ (λ i. fitting (passed-fitting _ l fl i -ℤ passed-fitting _ r fr i)) in
      fraction-none (formed_by ((an *ℤ bd) -ℤ (bn *ℤ ad))) ((an *ℤ bd) -ℤ (bn *ℤ ad)) (ad *ℤ bd) (ap₂ (λ b c. b && (c && (fits_128 ((an *ℤ bd) -ℤ (bn *ℤ ad)) && (fits_128 (ad *ℤ bd) && true)))) (Some-fitting _ l fl).0 (Some-fitting _ r fr).0
      ∙ ap (λ b. b && (fits_128 (ad *ℤ bd) && true)) (None-fitting _ formed))

  pub product-done : (n d : ℤ) → Some n ≡ fitting (an *ℤ bn) → Some d ≡ fitting (ad *ℤ bd) → pos 0 <ℤ ad → pos 0 <ℤ bd → Some (reduced (passed n) (passed d)) ≡ frac_mul first second
  unfolding frac_mul
  product-done n d fn fd h k =
      let en : passed n ≡ an *ℤ bn = passed-fitting _ n fn in
      let ed : passed d ≡ ad *ℤ bd = passed-fitting _ d fd in
      (λ i. Some (reduced (en i) (ed i)))
      ∙ fraction-made ((an *ℤ bn) ∷ (ad *ℤ bd) ∷ []) (an *ℤ bn) (ad *ℤ bd) (together (Some-fitting _ n fn).0 (together (Some-fitting _ d fd).0 refl)) (not-zero (ad *ℤ bd) (positive-product ad bd h k))

  -- a quotient whose divisor is below 0
  turned-none : (n d : ℤ) → Some n ≡ fitting (an *ℤ bd) → Some d ≡ fitting (ad *ℤ bn) → d <ℤ pos 0
      → (fits_128 (neg_ℤ (an *ℤ bd)) && (fits_128 (neg_ℤ (ad *ℤ bn)) && true)) ≡ false → None ≡ frac_div first second
  unfolding frac_div
  turned-none n d fn fd h e =
      let below : int_lt (ad *ℤ bn) (pos 0) ≡ true = lt-true (ad *ℤ bn) (pos 0) (subst (λ z. z <ℤ pos 0) (Some-fitting (ad *ℤ bn) d fd).1 h) in
      fraction-none ((an *ℤ bd) ∷ (ad *ℤ bn) ∷ neg_ℤ (an *ℤ bd) ∷ neg_ℤ (ad *ℤ bn) ∷ []) (neg_ℤ (an *ℤ bd)) (neg_ℤ (ad *ℤ bn))
      (ap₂ (λ b c. b && (c && (fits_128 (neg_ℤ (an *ℤ bd)) && (fits_128 (neg_ℤ (ad *ℤ bn)) && true)))) (Some-fitting (an *ℤ bd) n fn).0 (Some-fitting (ad *ℤ bn) d fd).0 ∙ e)
      ∙ ap (λ b. cond b (fraction ((an *ℤ bd) ∷ (ad *ℤ bn) ∷ neg_ℤ (an *ℤ bd) ∷ neg_ℤ (ad *ℤ bn) ∷ []) (neg_ℤ (an *ℤ bd)) (neg_ℤ (ad *ℤ bn))) (fraction ((an *ℤ bd) ∷ (ad *ℤ bn) ∷ []) (an *ℤ bd) (ad *ℤ bn))) (sym below)

  pub turned-none_above : (n d : ℤ) → Some n ≡ fitting (an *ℤ bd) → Some d ≡ fitting (ad *ℤ bn) → d <ℤ pos 0
      → None ≡ fitting (neg_ℤ (passed n)) → None ≡ frac_div first second
  turned-none_above n d fn fd h e =
      turned-none n d fn fd h (ap (λ b. b && (fits_128 (neg_ℤ (ad *ℤ bn)) && true))
      (None-fitting (neg_ℤ (an *ℤ bd)) (e ∙ (λ i. fitting (neg_ℤ (passed-fitting (an *ℤ bd) n fn i))))))

  pub turned-none_below : (n d : ℤ) → Some n ≡ fitting (an *ℤ bd) → Some d ≡ fitting (ad *ℤ bn) → d <ℤ pos 0
      → None ≡ fitting (neg_ℤ (passed d)) → None ≡ frac_div first second
  turned-none_below n d fn fd h e =
      turned-none n d fn fd h (ap (λ b. fits_128 (neg_ℤ (an *ℤ bd)) && (b && true))
      (None-fitting (neg_ℤ (ad *ℤ bn)) (e ∙ (λ i. fitting (neg_ℤ (passed-fitting (ad *ℤ bn) d fd i))))) ∙ and-false (fits_128 (neg_ℤ (an *ℤ bd))))

  pub positive-turned : (d k : ℤ) → Some d ≡ fitting (ad *ℤ bn) → d <ℤ pos 0 → Some k ≡ fitting (neg_ℤ (passed d)) → pos 0 <ℤ passed k
  positive-turned d k fd h fk =
      let below : d ≡ ad *ℤ bn = (Some-fitting (ad *ℤ bn) d fd).1 in
      let same : passed k ≡ neg_ℤ (ad *ℤ bn) = passed-fitting (neg_ℤ (passed d)) k fk ∙ ap neg_ℤ (passed-fitting (ad *ℤ bn) d fd) in
      let negative : (ad *ℤ bn) <ℤ pos 0 = subst (λ z. z <ℤ pos 0) below h in
      subst (λ z. pos 0 <ℤ z) (sym same) (positive-neg (ad *ℤ bn) negative)

  pub turned-done : (n d m k : ℤ) → Some n ≡ fitting (an *ℤ bd) → Some d ≡ fitting (ad *ℤ bn) → d <ℤ pos 0
      → Some m ≡ fitting (neg_ℤ (passed n)) → Some k ≡ fitting (neg_ℤ (passed d)) → Some (reduced (passed m) (passed k)) ≡ frac_div first second
  unfolding frac_div
  turned-done n d m k fn fd h fm fk =
      let above = an *ℤ bd in
      let below = ad *ℤ bn in
      let negative : below <ℤ pos 0 = subst (λ z. z <ℤ pos 0) (Some-fitting (ad *ℤ bn) d fd).1 h in
      let formed_m : Some m ≡ fitting (neg_ℤ (an *ℤ bd)) = fm ∙ (λ i. fitting (neg_ℤ (passed-fitting (an *ℤ bd) n fn i))) in
      let formed_k : Some k ≡ fitting (neg_ℤ (ad *ℤ bn)) = fk ∙ (λ i. fitting (neg_ℤ (passed-fitting (ad *ℤ bn) d fd i))) in
      (λ i. Some (reduced (passed-fitting (neg_ℤ (an *ℤ bd)) m formed_m i) (passed-fitting (neg_ℤ (ad *ℤ bn)) k formed_k i)))
      ∙ fraction-made (above ∷ below ∷ neg_ℤ above ∷ neg_ℤ below ∷ []) (neg_ℤ above) (neg_ℤ below)
      (together (Some-fitting (an *ℤ bd) n fn).0 (together (Some-fitting (ad *ℤ bn) d fd).0 (together (Some-fitting (neg_ℤ (an *ℤ bd)) m formed_m).0 (together (Some-fitting (neg_ℤ (ad *ℤ bn)) k formed_k).0 refl))))
      (not-zero (neg_ℤ below) (positive-neg below negative))
      ∙ ap (λ b. cond b (fraction (above ∷ below ∷ neg_ℤ above ∷ neg_ℤ below ∷ []) (neg_ℤ above) (neg_ℤ below)) (fraction (above ∷ below ∷ []) above below)) (sym (lt-true below (pos 0) negative))

  pub quotient-done : (n d : ℤ) → Some n ≡ fitting (an *ℤ bd) → Some d ≡ fitting (ad *ℤ bn) → pos 0 <ℤ d → Some (reduced (passed n) (passed d)) ≡ frac_div first second
  unfolding frac_div
  quotient-done n d fn fd h =
      let above = an *ℤ bd in
      let below = ad *ℤ bn in
      let positive : pos 0 <ℤ below = subst (λ z. pos 0 <ℤ z) (Some-fitting (ad *ℤ bn) d fd).1 h in
      (λ i. Some (reduced (passed-fitting (an *ℤ bd) n fn i) (passed-fitting (ad *ℤ bn) d fd i)))
      ∙ fraction-made (above ∷ below ∷ []) above below (together (Some-fitting (an *ℤ bd) n fn).0 (together (Some-fitting (ad *ℤ bn) d fd).0 refl)) (not-zero below positive)
      ∙ ap (λ b. cond b (fraction (above ∷ below ∷ neg_ℤ above ∷ neg_ℤ below ∷ []) (neg_ℤ above) (neg_ℤ below)) (fraction (above ∷ below ∷ []) above below)) (sym (not-below below positive))

-- the parts of a fraction, as the code passes them on
abbrev pub handed : ℤ → ℤ → Fraction
handed n d = record { n = passed n; d = passed d }

pub handed-is : (n d : ℤ) (f : Fraction) → FitsSigned w128 n → FitsSigned w128 d → record { n = n; d = d } ≡ f → handed n d ≡ f
handed-is n d f fn fd e = (λ i. record { n = to_z-of_z w128 n fn i; d = to_z-of_z w128 d fd i }) ∙ e

pub positive-passed : (d : ℤ) → FitsSigned w128 d → pos 0 <ℤ d → pos 0 <ℤ passed d
positive-passed d f h = subst (λ z. pos 0 <ℤ z) (sym (to_z-of_z w128 d f)) h
