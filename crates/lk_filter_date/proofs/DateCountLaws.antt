-- The texts of the form of counts are those that are a count.
use Rattle.std.proofs.Common.{◌≡◌, inl, inr, ℕ, ◌+◌, ◌-◌, ◌*◌, ◌≤◌, true, false, not, ◌&&◌, nat_eq, nat_le, List, [], ◌∷◌, ◌++◌, Option, Some, None, if◌then◌else◌, refl, sym, ap, subst, ◌∙◌, arith}
use Rattle.std.proofs.lemmas.Bool.{false≢true, leb-true, le-leb}
use Rattle.std.proofs.lemmas.Bool.Decides.{Decides-eqb}
use Rattle.lk_grammar.specs.Forms.{Form, IsText, seq, optional}
use Rattle.lk_grammar.specs.Numbers.{digit, is_digit}
use Rattle.lk_grammar.proofs.FormLaws.{both}
use Rattle.lk_grammar.proofs.LiteralLaws.{exact_text, text_exact}
use Rattle.lk_grammar.proofs.ReadingLaws.{none_some}
use Rattle.lk_filter_date.specs.DateTexts.{count_from, count_of, count_form}
use Rattle.lk_filter_date.proofs.DateLiteralLaws.{same, is_false, digit_text, is_digit_from, digit_low, digit_high, text_digit}

abbrev IsSomeCount : Option ℕ → Type 0
IsSomeCount found = (n : ℕ) × (found ≡ Some n)

-- one digit more, while the number stays below 10,000
one_more : (value b : ℕ) (text : List ℕ) → is_digit b ≡ true → value ≤ 999 → IsSomeCount (count_from (10 * value + (b - 48)) text) → IsSomeCount (count_from value (b ∷ text))
one_more value b text d small h =
    let high : b ≤ 57 = digit_high b d in
    (h.0, rw (d, le-leb (10 * value + (b - 48)) 10000 (omega (arith, small, high))) h.1)

no_more : (value : ℕ) (text : List ℕ) → text ≡ [] → IsSomeCount (count_from value text)
no_more value text e = subst (λ z. IsSomeCount (count_from value z)) (sym e) (value, refl)

last_digit : (value : ℕ) (text : List ℕ) → value ≤ 999 → IsText (optional digit) text → IsSomeCount (count_from value text)
last_digit value text small (inr none) = no_more value text none
last_digit value text small (inl h) =
    let d = text_digit text h in
    subst (λ z. IsSomeCount (count_from value z)) (sym d.alone) (one_more value d.value [] d.is small (10 * value + (d.value - 48), refl))

last_two : (value : ℕ) (text : List ℕ) → value ≤ 99 → IsText (optional (seq digit (optional digit))) text → IsSomeCount (count_from value text)
last_two value text small (inr none) = no_more value text none
last_two value text small (inl h) =
    let d = text_digit h.front h.first in
    let high : d.value ≤ 57 = digit_high d.value d.is in
    subst (λ z. IsSomeCount (count_from value z)) (sym (h.joined ∙ ap (λ z. z ++ h.back) d.alone)) (one_more value d.value h.back d.is (omega (arith, small)) (last_digit (10 * value + (d.value - 48)) h.back (omega (arith, small, high)) h.second))

last_three : (value : ℕ) (text : List ℕ) → value ≤ 9 → IsText (optional (seq digit (optional (seq digit (optional digit))))) text → IsSomeCount (count_from value text)
last_three value text small (inr none) = no_more value text none
last_three value text small (inl h) =
    let d = text_digit h.front h.first in
    let high : d.value ≤ 57 = digit_high d.value d.is in
    subst (λ z. IsSomeCount (count_from value z)) (sym (h.joined ∙ ap (λ z. z ++ h.back) d.alone)) (one_more value d.value h.back d.is (omega (arith, small)) (last_two (10 * value + (d.value - 48)) h.back (omega (arith, small, high)) h.second))

pub count_read : (text : List ℕ) → IsText count_form text → IsSomeCount (count_of text)
count_read text (inl h) =
    let first = h.first in
    let low : 49 ≤ first.value = first.from in
    let high : first.value ≤ 57 = first.upto in
    let no_zero : nat_eq first.value 48 ≡ false = is_false (nat_eq first.value 48) (λ e. let is : first.value ≡ 48 = same first.value 48 e in omega (arith, low, is)) in
    let rest = last_three (first.value - 48) h.back (omega (arith, high)) h.second in
    subst (λ z. IsSomeCount (count_of z)) (sym (h.joined ∙ ap (λ z. z ++ h.back) first.alone)) (rest.0, rw (is_digit_from first.value (omega (arith, low)) high, no_zero) rest.1)
count_read text (inr h) = subst (λ z. IsSomeCount (count_of z)) (sym (text_exact (49 ∷ 48 ∷ 48 ∷ 48 ∷ 48 ∷ []) text h)) (10000, refl)

-- what was tested of a further digit
record IsMore (value b : ℕ) (text : List ℕ) (n : ℕ) : Type 0 where
  digit : is_digit b ≡ true
  upto : 10 * value + (b - 48) ≤ 10000
  rest : count_from (10 * value + (b - 48)) text ≡ Some n

more_before : (value b : ℕ) (text : List ℕ) (n : ℕ) → count_from value (b ∷ text) ≡ Some n → IsMore value b text n
more_before value b text n e =
    elim (is_digit b && nat_le (10 * value + (b - 48)) 10000) as (λ t. (is_digit b && nat_le (10 * value + (b - 48)) 10000) ≡ t → (if t then count_from (10 * value + (b - 48)) text else None) ≡ Some n → IsMore value b text n) [
      | true ↦ λ t e. let p = both (is_digit b) (nat_le (10 * value + (b - 48)) 10000) t in record { digit = p.0; upto = leb-true (10 * value + (b - 48)) 10000 p.1; rest = e }
      | false ↦ λ t e. absurd (none_some e)
    ] refl e

joined_digit : (F : Form) (b : ℕ) (text : List ℕ) → is_digit b ≡ true → IsText F text → IsText (optional (seq digit F)) (b ∷ text)
joined_digit F b text d h = inl (record { front = b ∷ []; back = text; joined = refl; first = digit_text b d; second = h })

first_digit : (a : ℕ) (text : List ℕ) → 49 ≤ a → a ≤ 57 → IsText (optional (seq digit (optional (seq digit (optional digit))))) text → IsText count_form (a ∷ text)
first_digit a text low high h = inl (record { front = a ∷ []; back = text; joined = refl; first = record { value = a; from = low; upto = high; alone = refl }; second = h })

same_bytes : (a b c d e : ℕ) → a ≡ 49 → b ≡ 48 → c ≡ 48 → d ≡ 48 → e ≡ 48 → IsText count_form (a ∷ b ∷ c ∷ d ∷ e ∷ [])
same_bytes a b c d e p q r s t =
    let is : 49 ∷ 48 ∷ 48 ∷ 48 ∷ 48 ∷ [] ≡ a ∷ b ∷ c ∷ d ∷ e ∷ [] = rw (p, q, r, s, t) refl in
    subst (IsText count_form) is (inr (exact_text (49 ∷ 48 ∷ 48 ∷ 48 ∷ 48 ∷ [])))

-- the digits behind the first one
digits_before : (a : ℕ) (text : List ℕ) (n : ℕ) → 49 ≤ a → a ≤ 57 → count_from (a - 48) text ≡ Some n → IsText count_form (a ∷ text)
digits_before a [] n low high e = first_digit a [] low high (inr refl)
digits_before a (b ∷ []) n low high e =
    let m = more_before (a - 48) b [] n e in
    first_digit a (b ∷ []) low high (joined_digit (optional (seq digit (optional digit))) b [] m.digit (inr refl))
digits_before a (b ∷ c ∷ []) n low high e =
    let m = more_before (a - 48) b (c ∷ []) n e in
    let k = more_before (10 * (a - 48) + (b - 48)) c [] n m.rest in
    first_digit a (b ∷ c ∷ []) low high (joined_digit (optional (seq digit (optional digit))) b (c ∷ []) m.digit (joined_digit (optional digit) c [] k.digit (inr refl)))
digits_before a (b ∷ c ∷ d ∷ []) n low high e =
    let m = more_before (a - 48) b (c ∷ d ∷ []) n e in
    let k = more_before (10 * (a - 48) + (b - 48)) c (d ∷ []) n m.rest in
    let j = more_before (10 * (10 * (a - 48) + (b - 48)) + (c - 48)) d [] n k.rest in
    first_digit a (b ∷ c ∷ d ∷ []) low high (joined_digit (optional (seq digit (optional digit))) b (c ∷ d ∷ []) m.digit (joined_digit (optional digit) c (d ∷ []) k.digit (inl (digit_text d j.digit))))
digits_before a (b ∷ c ∷ d ∷ f ∷ text) n low high e =
    let m = more_before (a - 48) b (c ∷ d ∷ f ∷ text) n e in
    let k = more_before (10 * (a - 48) + (b - 48)) c (d ∷ f ∷ text) n m.rest in
    let j = more_before (10 * (10 * (a - 48) + (b - 48)) + (c - 48)) d (f ∷ text) n k.rest in
    let i = more_before (10 * (10 * (10 * (a - 48) + (b - 48)) + (c - 48)) + (d - 48)) f text n j.rest in
    let lb : 48 ≤ b = digit_low b m.digit in
    let lc : 48 ≤ c = digit_low c k.digit in
    let ld : 48 ≤ d = digit_low d j.digit in
    let lf : 48 ≤ f = digit_low f i.digit in
    let upto : 10 * (10 * (10 * (10 * (a - 48) + (b - 48)) + (c - 48)) + (d - 48)) + (f - 48) ≤ 10000 = i.upto in
    ends text lb lc ld lf upto i.rest
  where
    ends : (text : List ℕ) → 48 ≤ b → 48 ≤ c → 48 ≤ d → 48 ≤ f → 10 * (10 * (10 * (10 * (a - 48) + (b - 48)) + (c - 48)) + (d - 48)) + (f - 48) ≤ 10000 → count_from (10 * (10 * (10 * (10 * (a - 48) + (b - 48)) + (c - 48)) + (d - 48)) + (f - 48)) text ≡ Some n → IsText count_form (a ∷ b ∷ c ∷ d ∷ f ∷ text)
    ends [] lb lc ld lf upto e = same_bytes a b c d f (omega (arith, low, upto)) (omega (arith, low, upto, lb)) (omega (arith, low, upto, lc)) (omega (arith, low, upto, ld)) (omega (arith, low, upto, lf))
    ends (g ∷ text) lb lc ld lf upto e =
        let m = more_before (10 * (10 * (10 * (10 * (a - 48) + (b - 48)) + (c - 48)) + (d - 48)) + (f - 48)) g text n e in
        let over : 10 * (10 * (10 * (10 * (10 * (a - 48) + (b - 48)) + (c - 48)) + (d - 48)) + (f - 48)) + (g - 48) ≤ 10000 = m.upto in
        absurd (omega (arith, low, over))

pub count_spelled : (text : List ℕ) (n : ℕ) → count_of text ≡ Some n → IsText count_form text
count_spelled [] n e = absurd (none_some e)
count_spelled (a ∷ text) n e =
    elim (is_digit a && not (nat_eq a 48)) as (λ t. (is_digit a && not (nat_eq a 48)) ≡ t → (if t then count_from (a - 48) text else None) ≡ Some n → IsText count_form (a ∷ text)) [
      | true ↦ λ t e.
          let p = both (is_digit a) (not (nat_eq a 48)) t in
          let low : 48 ≤ a = digit_low a p.0 in
          let differs : a ≡ 48 → ⊥ = λ is. false≢true (ap not (sym ((Decides-eqb a 48).1 is)) ∙ p.1) in
          digits_before a text n (omega (arith, low, differs)) (digit_high a p.0) e
      | false ↦ λ t e. absurd (none_some e)
    ] refl e
