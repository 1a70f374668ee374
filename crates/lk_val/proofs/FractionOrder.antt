-- The order of two fractions by their signs and sizes.
use Rattle.std.proofs.Common.{◌≡◌, ℕ, suc, ◌*◌, ◌<◌, nat_cmp, int_cmp, Ordering, Less, Equal, Greater, ℤ, pos, negsuc, neg_ℤ, ◌*ℤ◌, ◌<ℤ◌, ◌≤ℤ◌, unsigned_abs, refl, sym, ap, ◌∙◌, arith}
use Rattle.std.proofs.lemmas.Int.{ints}
use Rattle.std.proofs.lemmas.Cmp.{ranked, tied_itself, int_cmp_total}
use Rattle.std.specs.Ordering.{ordering_reverse}
use Rattle.lk_val.proofs.FractionSteps.{lt-true}

pub less_int : (x y : ℤ) → x <ℤ y → int_cmp x y ≡ Less
less_int x y h = rw (lt-true x y h) refl

pub equal_int : (x y : ℤ) → x ≡ y → int_cmp x y ≡ Equal
equal_int x y e = ap (int_cmp x) (sym e) ∙ tied_itself int_cmp_total x

pub greater_int : (x y : ℤ) → y <ℤ x → int_cmp x y ≡ Greater
greater_int x y h = int_cmp_total.antisymm x y ∙ ap ordering_reverse (less_int y x h)

pos_cmp : (x y : ℕ) → nat_cmp x y ≡ int_cmp (pos x) (pos y)
pos_cmp x y = by (nat_cmp x y) refl
  where
    by : (o : Ordering) → o ≡ nat_cmp x y → o ≡ int_cmp (pos x) (pos y)
    by Less e = let h : x < y = ranked x y Less e in sym (less_int (pos x) (pos y) (omega (arith, ints)))
    by Equal e = let h : x ≡ y = ranked x y Equal e in sym (equal_int (pos x) (pos y) (ap pos h))
    by Greater e = let h : y < x = ranked x y Greater e in sym (greater_int (pos x) (pos y) (omega (arith, ints)))

neg_cmp : (x y : ℕ) → nat_cmp y x ≡ int_cmp (neg_ℤ (pos x)) (neg_ℤ (pos y))
neg_cmp x y = by (nat_cmp y x) refl
  where
    by : (o : Ordering) → o ≡ nat_cmp y x → o ≡ int_cmp (neg_ℤ (pos x)) (neg_ℤ (pos y))
    by Less e = let h : y < x = ranked y x Less e in sym (less_int (neg_ℤ (pos x)) (neg_ℤ (pos y)) (omega (arith, ints)))
    by Equal e = let h : y ≡ x = ranked y x Equal e in sym (equal_int (neg_ℤ (pos x)) (neg_ℤ (pos y)) (ap (λ n. neg_ℤ (pos n)) (sym h)))
    by Greater e = let h : x < y = ranked y x Greater e in sym (greater_int (neg_ℤ (pos x)) (neg_ℤ (pos y)) (omega (arith, ints)))

pub both_above : (n d m e : ℤ) → pos 0 ≤ℤ n → pos 0 ≤ℤ m → pos 0 <ℤ d → pos 0 <ℤ e → nat_cmp (unsigned_abs n * unsigned_abs e) (unsigned_abs m * unsigned_abs d) ≡ int_cmp (n *ℤ e) (m *ℤ d)
both_above (pos n) (pos d) (pos m) (pos e) hn hm hd he = pos_cmp (n * e) (m * d)
both_above (negsuc n) d m e hn hm hd he = absurd (omega (arith, ints))
both_above n (negsuc d) m e hn hm hd he = absurd (omega (arith, ints))
both_above n d (negsuc m) e hn hm hd he = absurd (omega (arith, ints))
both_above n d m (negsuc e) hn hm hd he = absurd (omega (arith, ints))

pub both_below : (n d m e : ℤ) → n <ℤ pos 0 → m <ℤ pos 0 → pos 0 <ℤ d → pos 0 <ℤ e → nat_cmp (unsigned_abs m * unsigned_abs d) (unsigned_abs n * unsigned_abs e) ≡ int_cmp (n *ℤ e) (m *ℤ d)
both_below (negsuc n) (pos d) (negsuc m) (pos e) hn hm hd he = neg_cmp (suc n * e) (suc m * d)
both_below (pos n) d m e hn hm hd he = absurd (omega (arith, ints))
both_below n (negsuc d) m e hn hm hd he = absurd (omega (arith, ints))
both_below n d (pos m) e hn hm hd he = absurd (omega (arith, ints))
both_below n d m (negsuc e) hn hm hd he = absurd (omega (arith, ints))
