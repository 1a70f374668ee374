-- An interval by its parts: so many times so many seconds.
use Rattle.std.proofs.Common.{◌≡◌, ◌∙◌, ◌*◌, ◌<◌, ◌≤◌, ◌&&◌, ◌||◌, ◌+◌, ◌*ℤ◌, ℕ, ℤ, suc, pos, not, cond, Bool, true, false, List, [], ◌∷◌, length, nat_le, Some, None, FitsSigned, ap, arith, of_z, refl, subst, sym, to_z, w64}
use Rattle.std.specs.Prelude.{if◌then◌else◌}
use Rattle.std.specs.Char.{is_ascii_digit}
use Rattle.std.specs.List.{after_first, before_first, list_all, list_any, position_or_len}
use Rattle.std.specs.Str.Parse.{digits_value}
use Rattle.std.proofs.lemmas.Int.{fits_signed_from_abs, fits_signed_mul, to_z-of_z}
use Rattle.lk_datagroup.specs.Intervals.{count_of, interval_of, is_space, seconds_in}
use Rattle.lk_datagroup.proofs.CountLaws.{in_range}

one_more : (b : Bool) (any : Bool) (at n : ℕ) → (at < n → any ≡ true) → cond (not b) (1 + at) 0 < suc n → (b || any) ≡ true
one_more true any at n behind h = refl
one_more false any at n behind h = behind (omega (arith, h))

any_within : (p : ℕ → Bool) (xs : List ℕ) → position_or_len p xs < length xs → list_any p xs ≡ true
any_within p [] h = absurd (omega (arith, h))
any_within p (x ∷ xs) h = one_more (p x) (list_any p xs) (position_or_len p xs) (length xs) (any_within p xs) h

-- the parts that stand before and behind the first space
pub interval_is : (text number unit : List ℕ) (count seconds : ℕ) → position_or_len is_space text < length text → number ≡ before_first is_space text → unit ≡ after_first is_space text
    → Some count ≡ count_of number → Some seconds ≡ seconds_in unit → interval_of text ≡ Some (count * seconds)
interval_is text number unit count seconds within before after first second =
    let any = any_within is_space text within in
    let one : count_of (before_first is_space text) ≡ Some count = sym (first ∙ ap count_of before) in
    let two : seconds_in (after_first is_space text) ≡ Some seconds = sym (second ∙ ap seconds_in after) in
    rw (any, one, two) refl

few_in : (digits range : Bool) (v count : ℕ) → Some count ≡ (if digits && range then Some v else None) → (range ≡ true → v ≤ 1000000) → count ≤ 1000000
few_in true true v count e within = let same : v ≡ count = cc in subst (λ n. n ≤ 1000000) same (within refl)
few_in true false v count e within = cc
few_in false range v count e within = cc

count_few : (text : List ℕ) (count : ℕ) → Some count ≡ count_of text → count ≤ 1000000
count_few text count e =
    let v = digits_value 10 text in
    few_in (list_all is_ascii_digit text) (nat_le 1 v && nat_le v 1000000) v count e (λ range. (in_range v range).1)

-- the number of seconds, as the program multiplies them
pub product_is : (text : List ℕ) (count seconds : ℕ) (a b : ℤ) → Some count ≡ count_of text → seconds ≤ 3600 → a ≡ pos count → b ≡ pos seconds
    → to_z w64 (of_z w64 (to_z w64 (of_z w64 a) *ℤ to_z w64 (of_z w64 b))) ≡ pos (count * seconds)
product_is text count seconds a b of few first second =
    let low = count_few text count of in
    let one : FitsSigned w64 (pos count) = fits_signed_from_abs w64 (pos count) (omega (arith, low)) in
    let two : FitsSigned w64 (pos seconds) = fits_signed_from_abs w64 (pos seconds) (omega (arith, few)) in
    let both : FitsSigned w64 (pos count *ℤ pos seconds) = fits_signed_mul w64 (pos count) (pos seconds) 1000000 3600 low few (omega arith) in
    (λ i. to_z w64 (of_z w64 (to_z w64 (of_z w64 (first i)) *ℤ to_z w64 (of_z w64 (second i)))))
    ∙ (λ i. to_z w64 (of_z w64 (to_z-of_z w64 (pos count) one i *ℤ to_z-of_z w64 (pos seconds) two i)))
    ∙ to_z-of_z w64 (pos count *ℤ pos seconds) both
