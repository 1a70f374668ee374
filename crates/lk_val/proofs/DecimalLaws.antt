-- A decimal reads as its number, and what is no decimal as none.
use Rattle.std.proofs.Common.{if◌then◌else◌, codes, ◌≡◌, ℕ, zero, suc, ◌+◌, ◌-◌, ◌*◌, ◌^◌, ◌<◌, Bool, true, false, cond, not, ◌&&◌, ◌||◌, ◌==◌, nat_lt, List, [], ◌∷◌, ◌++◌, length, map, take, drop, get_or, position, Option, Some, None, Result, Err, IfSome, ◌⊎◌, inl, inr, ⊎_elim, refl, sym, ap, ap₂, ◌∙◌, subst, arith, append-nil, take-append-drop, drop-cons, length-append}
use Rattle.std.specs.List.{list_all, list_any, AllByRecursion, position_or_len}
use Rattle.std.specs.Char.{is_ascii_digit}
use Rattle.std.proofs.lemmas.Bool.Decides.{nat_tests}
use Rattle.std.proofs.lemmas.List.Quantifiers.{position-Some}
use Rattle.lk_val.specs.declared.num.Num.{Num}
use Rattle.lk_val.specs.declared.num.NumFault.{NumFault}
use Rattle.lk_val.specs.declared.num.NumFault.TheVariants.{NotNumber, Places}
use Rattle.lk_val.specs.Numbers.{is_dot, is_digits, value_from, magnitude, in_range, is_too_fine, parted_of, decimal_at, decimal_of, num_of}
use Rattle.lk_val.specs.Decimals.{Decimal, AreDigits, IsDecimal, digits_text, behind_text, decimal_text, digits_sum, places_sum, decimal_number, IsDecimalText}
use Rattle.lk_val.proofs.FractionSteps.{both}

-- ---- digits and their text

digit_is : (d : ℕ) → d < 10 → is_ascii_digit (48 + d) ≡ true
digit_is d h = grind (arith, nat_tests)

all_digits : (ds : List ℕ) → AllByRecursion (λ d. d < 10) ds → list_all is_ascii_digit (digits_text ds) ≡ true
all_digits [] a = refl
all_digits (d ∷ ds) a = ap₂ (λ b c. b && c) (digit_is d a.0) (all_digits ds a.1)

length_digits : (ds : List ℕ) → length (digits_text ds) ≡ length ds
length_digits [] = refl
length_digits (d ∷ ds) = ap suc (length_digits ds)

not_none : (n : ℕ) → 0 < n → not (n == 0) ≡ true
not_none n h = grind (arith, nat_tests)

digits_are : (ds : List ℕ) → AreDigits ds → is_digits (digits_text ds) ≡ true
digits_are ds a = ap₂ (λ b c. b && c) (ap (λ n. not (n == 0)) (length_digits ds) ∙ not_none (length ds) a.some) (all_digits ds a.each)

value_is : (n : ℕ) (ds : List ℕ) → value_from n (digits_text ds) ≡ n * 10 ^ length ds + digits_sum ds
value_is n [] = omega arith
value_is n (d ∷ ds) =
    let rest : value_from (10 * n + (48 + d - 48)) (digits_text ds) ≡ (10 * n + (48 + d - 48)) * 10 ^ length ds + digits_sum ds = value_is (10 * n + (48 + d - 48)) ds in
    let digit : 48 + d - 48 ≡ d = omega arith in
    rest ∙ ap (λ m. (10 * n + m) * 10 ^ length ds + digits_sum ds) digit ∙ more n d (10 ^ length ds) (10 ^ suc (length ds)) (digits_sum ds) (omega arith)
  where
    more : (n d p q s : ℕ) → q ≡ 10 * p → (10 * n + d) * p + s ≡ n * q + (d * p + s)
    more n d p q s e =
        let product : n * q ≡ n * (10 * p) = ap (λ q. n * q) e in
        omega arith

pub none_past : (ds : List ℕ) → places_sum 0 ds ≡ 0
none_past [] = refl
none_past (d ∷ ds) =
    let rest : places_sum 0 ds ≡ 0 = none_past ds in
    omega arith

magnitude_is : (whole behind : List ℕ) → magnitude (digits_text whole) (digits_text behind) ≡ 10000 * digits_sum whole + places_sum 1000 behind
magnitude_is whole behind = by behind
  where
    first : value_from 0 (digits_text whole) ≡ digits_sum whole
    first = value_is 0 whole ∙ omega arith

    by : (behind : List ℕ) → magnitude (digits_text whole) (digits_text behind) ≡ 10000 * digits_sum whole + places_sum 1000 behind
    by [] = let f = first in omega arith
    by (a ∷ []) = let f = first in omega arith
    by (a ∷ b ∷ []) = let f = first in omega arith
    by (a ∷ b ∷ c ∷ []) = let f = first in omega arith
    by (a ∷ b ∷ c ∷ d ∷ rest) =
        let f = first in
        let none = none_past rest in
        omega arith

-- ---- places

zero_digit : (d : ℕ) → (48 + d == 48) ≡ (d == 0)
zero_digit d = grind (arith, nat_tests)

not_and : (a b : Bool) → (not a || not b) ≡ not (a && b)
not_and true b = refl
not_and false b = refl

too_fine : (ds : List ℕ) → list_any (λ c. not (c == 48)) (digits_text ds) ≡ not (list_all (λ d. d == 0) ds)
too_fine [] = refl
too_fine (d ∷ ds) = ap₂ (λ a b. not a || b) (zero_digit d) (too_fine ds) ∙ not_and (d == 0) (list_all (λ d. d == 0) ds)

drop_text : (k : ℕ) (ds : List ℕ) → drop k (digits_text ds) ≡ digits_text (drop k ds)
drop_text zero ds = refl
drop_text (suc k) [] = refl
drop_text (suc k) (d ∷ ds) = drop_text k ds

fine_is : (ds : List ℕ) → is_too_fine (digits_text ds) ≡ not (list_all (λ d. d == 0) (drop 4 ds))
fine_is ds = ap (list_any (λ c. not (c == 48))) (drop_text 4 ds) ∙ too_fine (drop 4 ds)

-- ---- the dot

no_dot : (d : ℕ) → is_dot (48 + d) ≡ false
no_dot d = grind (arith, nat_tests)

dot_behind : (ds rest : List ℕ) → position_or_len is_dot (digits_text ds ++ rest) ≡ length ds + position_or_len is_dot rest
dot_behind [] rest = omega arith
dot_behind (d ∷ ds) rest =
    ap (λ b. cond (not b) (1 + position_or_len is_dot (digits_text ds ++ rest)) 0) (no_dot d)
    ∙ ap (λ n. 1 + n) (dot_behind ds rest) ∙ omega arith

dot_none : (ds : List ℕ) → position is_dot (digits_text ds) ≡ None
dot_none ds =
    let at : position_or_len is_dot (digits_text ds) ≡ length (digits_text ds) =
    ap (position_or_len is_dot) (sym (append-nil (digits_text ds))) ∙ dot_behind ds [] ∙ omega (arith, length_digits ds) in
    let test : nat_lt (position_or_len is_dot (digits_text ds)) (length (digits_text ds)) ≡ false = grind (arith, nat_tests) in
    ap (λ b. cond b (Some (position_or_len is_dot (digits_text ds))) None) test

dot_some : (ds rest : List ℕ) → position is_dot (digits_text ds ++ 46 ∷ rest) ≡ Some (length ds)
dot_some ds rest =
    let text = digits_text ds ++ 46 ∷ rest in
    let at : position_or_len is_dot (digits_text ds ++ 46 ∷ rest) ≡ length ds = dot_behind ds (46 ∷ rest) ∙ omega arith in
    let all : length (digits_text ds ++ 46 ∷ rest) ≡ length (digits_text ds) + suc (length rest) = length-append (digits_text ds) (46 ∷ rest) in
    let test : nat_lt (position_or_len is_dot (digits_text ds ++ 46 ∷ rest)) (length (digits_text ds ++ 46 ∷ rest)) ≡ true = grind (arith, nat_tests, length_digits ds) in
    ap (λ b. cond b (Some (position_or_len is_dot (digits_text ds ++ 46 ∷ rest))) None) test ∙ ap Some at

take_front : (xs ys : List ℕ) (n : ℕ) → n ≡ length xs → take n (xs ++ ys) ≡ xs
take_front [] ys zero e = refl
take_front [] ys (suc n) e = absurd (omega arith)
take_front (x ∷ xs) ys zero e = absurd (omega arith)
take_front (x ∷ xs) ys (suc n) e = ap (λ zs. x ∷ zs) (take_front xs ys n (omega arith))

drop_front : (xs ys : List ℕ) (y n : ℕ) → n ≡ length xs → drop (n + 1) (xs ++ y ∷ ys) ≡ ys
drop_front xs ys y n e = ap (λ m. drop m (xs ++ y ∷ ys)) (add n) ∙ at xs ys y n e
  where
    add : (n : ℕ) → n + 1 ≡ suc n
    add n = omega arith

    at : (xs ys : List ℕ) (y n : ℕ) → n ≡ length xs → drop (suc n) (xs ++ y ∷ ys) ≡ ys
    at [] ys y zero e = refl
    at [] ys y (suc n) e = absurd (omega arith)
    at (x ∷ xs) ys y zero e = absurd (omega arith)
    at (x ∷ xs) ys y (suc n) e = at xs ys y n (omega arith)

-- ---- a decimal reads as its number

turned_cond : (b : Bool) (x y : Result Num NumFault) → cond (not b) x y ≡ cond b y x
turned_cond true x y = refl
turned_cond false x y = refl

body_reads : (negative : Bool) (whole : List ℕ) (behind : Option (List ℕ)) → AreDigits whole → IfSome behind AreDigits
    → decimal_of negative (digits_text whole ++ behind_text behind) ≡ decimal_number (record { negative = negative; whole = whole; behind = behind })
body_reads negative whole None w b =
    ap (decimal_of negative) (append-nil (digits_text whole))
    ∙ ap (decimal_at negative (digits_text whole)) (dot_none whole)
    ∙ ap (λ t. cond t (in_range negative (magnitude (digits_text whole) [])) (Err NotNumber)) (digits_are whole w)
    ∙ ap (in_range negative) (magnitude_is whole [])
body_reads negative whole (Some behind) w b =
    ap (decimal_at negative (digits_text whole ++ 46 ∷ digits_text behind)) (dot_some whole (digits_text behind))
    ∙ ap₂ (parted_of negative)
    (take_front (digits_text whole) (46 ∷ digits_text behind) (length whole) (sym (length_digits whole)))
    (drop_front (digits_text whole) (digits_text behind) 46 (length whole) (sym (length_digits whole)))
    ∙ ap₂ (λ s t. cond (s && t) (cond (is_too_fine (digits_text behind)) (Err Places) (in_range negative (magnitude (digits_text whole) (digits_text behind)))) (Err NotNumber)) (digits_are whole w) (digits_are behind b)
    ∙ ap₂ (λ t m. cond t (Err Places) (in_range negative m)) (fine_is behind) (magnitude_is whole behind)
    ∙ turned_cond (list_all (λ d. d == 0) (drop 4 behind)) (Err Places) (in_range negative (10000 * digits_sum whole + places_sum 1000 behind))

no_minus : (d : ℕ) → (48 + d == 45) ≡ false
no_minus d = grind (arith, nat_tests)

pub decimal-reads : (d : Decimal) → IsDecimal d → num_of (decimal_text d) ≡ decimal_number d
unfolding num_of
decimal-reads d is = by d.negative d.whole d.behind is.whole is.behind
  where
    by : (negative : Bool) (whole : List ℕ) (behind : Option (List ℕ)) → AreDigits whole → IfSome behind AreDigits
        → num_of (decimal_text (record { negative = negative; whole = whole; behind = behind })) ≡ decimal_number (record { negative = negative; whole = whole; behind = behind })
    by true whole behind w b = body_reads true whole behind w b
    by false [] behind w b = absurd (let none : 0 < 0 = w.some in omega arith)
    by false (d ∷ ds) behind w b =
        ap (λ t. cond t (decimal_of true (digits_text ds ++ behind_text behind)) (decimal_of false ((48 + d) ∷ (digits_text ds ++ behind_text behind)))) (no_minus d)
        ∙ body_reads false (d ∷ ds) behind w b

-- ---- and what is none

abbrev digits_of : List ℕ → List ℕ
digits_of cs = map (λ c. c - 48) cs

code_back : (c : ℕ) → is_ascii_digit c ≡ true → (48 + (c - 48) ≡ c) × (c - 48 < 10)
code_back c h = grind (arith, nat_tests)

text_back : (cs : List ℕ) → list_all is_ascii_digit cs ≡ true → (digits_text (digits_of cs) ≡ cs) × AllByRecursion (λ d. d < 10) (digits_of cs)
text_back [] h = (refl, tt)
text_back (c ∷ cs) h =
    let parts = both (is_ascii_digit c) (list_all is_ascii_digit cs) h in
    let here = code_back c parts.0 in
    let rest = text_back cs parts.1 in
    (ap₂ (λ d ds. d ∷ ds) here.0 rest.0, (here.1, rest.1))

length_back : (cs : List ℕ) → length (digits_of cs) ≡ length cs
length_back [] = refl
length_back (c ∷ cs) = ap suc (length_back cs)

some_back : (n : ℕ) → not (n == 0) ≡ true → 0 < n
some_back n h = grind (arith, nat_tests)

digits_back : (cs : List ℕ) → is_digits cs ≡ true → (digits_text (digits_of cs) ≡ cs) × AreDigits (digits_of cs)
digits_back cs h =
    let parts = both (not (length cs == 0)) (list_all is_ascii_digit cs) h in
    let back = text_back cs parts.1 in
    (back.0, record { some = subst (λ n. 0 < n) (sym (length_back cs)) (some_back (length cs) parts.0); each = back.1 })

split_at_dot : (body : List ℕ) (dot : ℕ) → position is_dot body ≡ Some dot → take dot body ++ 46 ∷ drop (dot + 1) body ≡ body
split_at_dot body dot e =
    let at = position-Some is_dot body dot 0 e in
    let dot_is : get_or body dot 0 ≡ 46 = is_46 (get_or body dot 0) at.1 in
    let rest : drop dot body ≡ get_or body dot 0 ∷ drop (suc dot) body = drop-cons body dot 0 at.0 in
    ap₂ (λ c ds. take dot body ++ c ∷ ds) (sym dot_is) (ap (λ n. drop n body) (one dot)) ∙ ap (λ ds. take dot body ++ ds) (sym rest) ∙ take-append-drop dot body
  where
    is_46 : (c : ℕ) → is_dot c ≡ true → c ≡ 46
    is_46 c h = grind (arith, nat_tests)

    one : (n : ℕ) → n + 1 ≡ suc n
    one n = omega arith

abbrev sign : Bool → List ℕ
sign negative = if negative then codes "-" else []

body_decides : (negative : Bool) (body : List ℕ) → IsDecimalText (sign negative ++ body) ⊎ (decimal_of negative body ≡ Err NotNumber)
body_decides negative body = by (position is_dot body) refl
  where
    whole_only : (b : Bool) → is_digits body ≡ b → position is_dot body ≡ None → IsDecimalText (sign negative ++ body) ⊎ (decimal_of negative body ≡ Err NotNumber)
    whole_only true h e =
        let back = digits_back body h in
        inl (record {
          decimal = record { negative = negative; whole = digits_of body; behind = None };
          valid = record { whole = back.1; behind = tt };
          same = ap (λ t. sign negative ++ t) (append-nil (digits_text (digits_of body)) ∙ back.0);
        })
    whole_only false h e = inr (ap (decimal_at negative body) e ∙ ap (λ t. cond t (in_range negative (magnitude body [])) (Err NotNumber)) h)

    parted : (dot : ℕ) (b : Bool) → (is_digits (take dot body) && is_digits (drop (dot + 1) body)) ≡ b → position is_dot body ≡ Some dot → IsDecimalText (sign negative ++ body) ⊎ (decimal_of negative body ≡ Err NotNumber)
    parted dot true h e =
        let parts = both (is_digits (take dot body)) (is_digits (drop (dot + 1) body)) h in
        let front = digits_back (take dot body) parts.0 in
        let back = digits_back (drop (dot + 1) body) parts.1 in
        inl (record {
          decimal = record { negative = negative; whole = digits_of (take dot body); behind = Some (digits_of (drop (dot + 1) body)) };
          valid = record { whole = front.1; behind = back.1 };
          same = ap (λ t. sign negative ++ t) (ap₂ (λ xs ys. xs ++ 46 ∷ ys) front.0 back.0 ∙ split_at_dot body dot e);
        })
    parted dot false h e =
        inr (ap (decimal_at negative body) e
        ∙ ap (λ t. cond t (cond (is_too_fine (drop (dot + 1) body)) (Err Places) (in_range negative (magnitude (take dot body) (drop (dot + 1) body)))) (Err NotNumber)) h)

    by : (o : Option ℕ) → position is_dot body ≡ o → IsDecimalText (sign negative ++ body) ⊎ (decimal_of negative body ≡ Err NotNumber)
    by None e = whole_only (is_digits body) refl e
    by (Some dot) e = parted dot (is_digits (take dot body) && is_digits (drop (dot + 1) body)) refl e

pub decimal-or-none : (text : List ℕ) → IsDecimalText text ⊎ (num_of text ≡ Err NotNumber)
unfolding num_of
decimal-or-none [] = body_decides false []
decimal-or-none (c ∷ cs) = by (c == 45) refl
  where
    is_minus : (c : ℕ) → (c == 45) ≡ true → 45 ≡ c
    is_minus c h = grind (arith, nat_tests)

    by : (b : Bool) → (c == 45) ≡ b → IsDecimalText (c ∷ cs) ⊎ (cond (c == 45) (decimal_of true cs) (decimal_of false (c ∷ cs)) ≡ Err NotNumber)
    by true h = ⊎_elim (λ d. inl (subst (λ m. IsDecimalText (m ∷ cs)) (is_minus c h) d)) (λ e. inr (ap (λ b. cond b (decimal_of true cs) (decimal_of false (c ∷ cs))) h ∙ e)) (body_decides true cs)
    by false h = ⊎_elim (λ d. inl d) (λ e. inr (ap (λ b. cond b (decimal_of true cs) (decimal_of false (c ∷ cs))) h ∙ e)) (body_decides false (c ∷ cs))

pub other-reads : (text : List ℕ) → (IsDecimalText text → ⊥) → num_of text ≡ Err NotNumber
other-reads text none = ⊎_elim (λ d. absurd (none d)) (λ e. e) (decimal-or-none text)
