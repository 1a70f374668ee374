-- A printed number is read from its text.
use Rattle.std.proofs.Common.{◌≡◌, ℕ, zero, suc, ◌+◌, ◌/◌, ◌%◌, ◌^◌, ◌<◌, Bool, true, false, if◌then◌else◌, List, [], ◌∷◌, ◌++◌, length, take, drop, Some, ℤ, pos, neg_ℤ, int_lt, unsigned_abs, FitsSigned, codes, decimal, w64, refl, ap, ap₂, ◌∙◌, arith, append_assoc}
use Rattle.std.specs.Prelude.{◌==◌, ◌&&◌, int_le, option_map}
use Rattle.std.specs.List.{list_all}
use Rattle.std.proofs.lemmas.List.Folds.{list_all-append}
use Rattle.std.proofs.lemmas.Int.{ints}
use Rattle.std.proofs.lemmas.Fmt.{decimal_digit, decimal_by_steps}
use Rattle.std.proofs.lemmas.Bool.Decides.{nat_tests}
use Rattle.std.proofs.Math.Seq.{take-append_seam, drop-append_seam}
use Rattle.lk_val.specs.Numbers.{number_text, places_text, sign_text}
use Rattle.lk_val.specs.declared.num.Num.{Num}
use Rattle.lk_val.specs.declared.value.Value.TheVariants as value
use Rattle.lk_val.proofs.PrintLaws.{printed-reads}
use Rattle.lk_cell.specs.CellValues.{number_cell, number_or_none}
use Rattle.lk_sql_read.specs.Tokens.{first_number, first_token, is_of_number, number_length, literal_token}
use Rattle.lk_sql_read.specs.declared.token.Token.TheVariants as token

-- ---- the first digit

-- a digit, and then bytes that numbers have
pub record IsDigits (text : List ℕ) : Type 0 where
  pub first : ℕ
  pub small : first < 10
  pub further : List ℕ
  pub same : text ≡ (48 + first) ∷ further
  pub each : list_all is_of_number further ≡ true

digit_of_number : (d : ℕ) → d < 10 → is_of_number (48 + d) ≡ true
digit_of_number d h = grind (arith, nat_tests)

all_of : (xs ys : List ℕ) → list_all is_of_number xs ≡ true → list_all is_of_number ys ≡ true → list_all is_of_number (xs ++ ys) ≡ true
all_of xs ys h k = list_all-append is_of_number xs ys ∙ (λ i. h i && k i)

one_of : (d : ℕ) → d < 10 → list_all is_of_number ((48 + d) ∷ []) ≡ true
one_of d h = ap (λ b. b && true) (digit_of_number d h)

more_digits : (ds : List ℕ) (d : ℕ) → IsDigits ds → d < 10 → IsDigits (ds ++ (48 + d) ∷ [])
more_digits ds d is h = record {
  first = is.first;
  small = is.small;
  further = is.further ++ (48 + d) ∷ [];
  same = ap (λ t. t ++ (48 + d) ∷ []) is.same;
  each = all_of is.further ((48 + d) ∷ []) is.each (one_of d h);
}

digits : (n : ℕ) → n < 2 ^ 64 → IsDigits (decimal n)
digits = decimal_by_steps (λ n ds. IsDigits ds)
    (λ n h. record { first = n; small = h; further = []; same = refl; each = refl })
    (λ n ds h is. more_digits ds (n % 10) is (omega arith))

-- ---- the places

digit_all : (d : ℕ) → d < 10 → list_all is_of_number (decimal d) ≡ true
digit_all d h = ap (list_all is_of_number) (decimal_digit d h) ∙ one_of d h

places_all : (p : ℕ) → list_all is_of_number (places_text p) ≡ true
places_all p =
    let a : list_all is_of_number (decimal (p / 1000 % 10)) ≡ true = digit_all (p / 1000 % 10) (omega arith) in
    let b : list_all is_of_number (decimal (p / 100 % 10)) ≡ true = digit_all (p / 100 % 10) (omega arith) in
    let c : list_all is_of_number (decimal (p / 10 % 10)) ≡ true = digit_all (p / 10 % 10) (omega arith) in
    let d : list_all is_of_number (decimal (p % 10)) ≡ true = digit_all (p % 10) (omega arith) in
    let t1 = all_of (codes ".") (decimal (p / 1000 % 10)) refl a in
    let t2 = all_of (codes "." ++ decimal (p / 1000 % 10)) (decimal (p / 100 % 10)) t1 b in
    let t3 = all_of (codes "." ++ decimal (p / 1000 % 10) ++ decimal (p / 100 % 10)) (decimal (p / 10 % 10)) t2 c in
    let t4 = all_of (codes "." ++ decimal (p / 1000 % 10) ++ decimal (p / 100 % 10) ++ decimal (p / 10 % 10)) (decimal (p % 10)) t3 d in
    elim (p == 0) as (λ t. list_all is_of_number (if t then [] else (if p % 1000 == 0 then codes "." ++ decimal (p / 1000 % 10) else (if p % 100 == 0 then codes "." ++ decimal (p / 1000 % 10) ++ decimal (p / 100 % 10) else (if p % 10 == 0 then codes "." ++ decimal (p / 1000 % 10) ++ decimal (p / 100 % 10) ++ decimal (p / 10 % 10) else codes "." ++ decimal (p / 1000 % 10) ++ decimal (p / 100 % 10) ++ decimal (p / 10 % 10) ++ decimal (p % 10))))) ≡ true) [
      | true ↦ refl
      | false ↦ elim (p % 1000 == 0) as (λ t. list_all is_of_number (if t then codes "." ++ decimal (p / 1000 % 10) else (if p % 100 == 0 then codes "." ++ decimal (p / 1000 % 10) ++ decimal (p / 100 % 10) else (if p % 10 == 0 then codes "." ++ decimal (p / 1000 % 10) ++ decimal (p / 100 % 10) ++ decimal (p / 10 % 10) else codes "." ++ decimal (p / 1000 % 10) ++ decimal (p / 100 % 10) ++ decimal (p / 10 % 10) ++ decimal (p % 10)))) ≡ true) [
        | true ↦ t1
        | false ↦ elim (p % 100 == 0) as (λ t. list_all is_of_number (if t then codes "." ++ decimal (p / 1000 % 10) ++ decimal (p / 100 % 10) else (if p % 10 == 0 then codes "." ++ decimal (p / 1000 % 10) ++ decimal (p / 100 % 10) ++ decimal (p / 10 % 10) else codes "." ++ decimal (p / 1000 % 10) ++ decimal (p / 100 % 10) ++ decimal (p / 10 % 10) ++ decimal (p % 10))) ≡ true) [
          | true ↦ t2
          | false ↦ elim (p % 10 == 0) as (λ t. list_all is_of_number (if t then codes "." ++ decimal (p / 1000 % 10) ++ decimal (p / 100 % 10) ++ decimal (p / 10 % 10) else codes "." ++ decimal (p / 1000 % 10) ++ decimal (p / 100 % 10) ++ decimal (p / 10 % 10) ++ decimal (p % 10)) ≡ true) [ true ↦ t3 | false ↦ t4 ]
        ]
      ]
    ]

-- ---- where a number ends

-- no byte of a number comes first
abbrev pub is_unnumbered : List ℕ → Bool
is_unnumbered [] = true
is_unnumbered (b ∷ rest) = if is_of_number b then false else true

stops : (rest : List ℕ) → is_unnumbered rest ≡ true → number_length rest ≡ 0
stops [] h = refl
stops (b ∷ rest) h = by (is_of_number b) h
  where
    by : (t : Bool) → (if t then false else true) ≡ true → (if t then suc (number_length rest) else 0) ≡ 0
    by true h = cc
    by false h = refl

long : (text rest : List ℕ) → list_all is_of_number text ≡ true → is_unnumbered rest ≡ true → number_length (text ++ rest) ≡ length text
long [] rest h e = stops rest e
long (b ∷ text) rest h e =
    elim (is_of_number b) as (λ t. (t && list_all is_of_number text) ≡ true → (if t then suc (number_length (text ++ rest)) else 0) ≡ suc (length text)) [
      | true ↦ λ h. ap suc (long text rest h e)
      | false ↦ λ h. cc
    ] h

-- ---- a number

-- no word begins with a digit, nor with a sign and a digit
no_word : (d : ℕ) (text : List ℕ) → d < 10 → first_token ((48 + d) ∷ text) ≡ first_number ((48 + d) ∷ text)
no_word zero text h = refl
no_word (suc zero) text h = refl
no_word (suc (suc zero)) text h = refl
no_word (suc (suc (suc zero))) text h = refl
no_word (suc (suc (suc (suc zero)))) text h = refl
no_word (suc (suc (suc (suc (suc zero))))) text h = refl
no_word (suc (suc (suc (suc (suc (suc zero)))))) text h = refl
no_word (suc (suc (suc (suc (suc (suc (suc zero))))))) text h = refl
no_word (suc (suc (suc (suc (suc (suc (suc (suc zero)))))))) text h = refl
no_word (suc (suc (suc (suc (suc (suc (suc (suc (suc zero))))))))) text h = refl
no_word (suc (suc (suc (suc (suc (suc (suc (suc (suc (suc d)))))))))) text h = absurd (omega (arith, h))

no_sign : (d : ℕ) (text : List ℕ) → d < 10 → first_token (45 ∷ (48 + d) ∷ text) ≡ first_number (45 ∷ (48 + d) ∷ text)
no_sign zero text h = refl
no_sign (suc zero) text h = refl
no_sign (suc (suc zero)) text h = refl
no_sign (suc (suc (suc zero))) text h = refl
no_sign (suc (suc (suc (suc zero)))) text h = refl
no_sign (suc (suc (suc (suc (suc zero))))) text h = refl
no_sign (suc (suc (suc (suc (suc (suc zero)))))) text h = refl
no_sign (suc (suc (suc (suc (suc (suc (suc zero))))))) text h = refl
no_sign (suc (suc (suc (suc (suc (suc (suc (suc zero)))))))) text h = refl
no_sign (suc (suc (suc (suc (suc (suc (suc (suc (suc zero))))))))) text h = refl
no_sign (suc (suc (suc (suc (suc (suc (suc (suc (suc (suc d)))))))))) text h = absurd (omega (arith, h))

-- what is behind the sign of a number
abbrev pub body_text : ℤ → List ℕ
body_text z = decimal (unsigned_abs z / 10000) ++ places_text (unsigned_abs z % 10000)

pub text_is : (z : ℤ) → number_text z ≡ sign_text z ++ body_text z
text_is z = append_assoc (sign_text z) (decimal (unsigned_abs z / 10000)) (places_text (unsigned_abs z % 10000))

pub body_is : (z : ℤ) → FitsSigned w64 z → IsDigits (body_text z)
body_is z f =
    let is = digits (unsigned_abs z / 10000) (omega (arith, ints)) in
    let places = places_text (unsigned_abs z % 10000) in
    record {
      first = is.first;
      small = is.small;
      further = is.further ++ places;
      same = ap (λ t. t ++ places) is.same;
      each = all_of is.further places is.each (places_all (unsigned_abs z % 10000));
    }

all_body : (z : ℤ) → FitsSigned w64 z → list_all is_of_number (body_text z) ≡ true
all_body z f =
    let is = body_is z f in
    ap (list_all is_of_number) is.same ∙ (λ i. digit_of_number is.first is.small i && is.each i)

sign_all : (b : Bool) → list_all is_of_number (if b then codes "-" else []) ≡ true
sign_all true = refl
sign_all false = refl

all_number : (z : ℤ) → FitsSigned w64 z → list_all is_of_number (number_text z) ≡ true
all_number z f = ap (list_all is_of_number) (text_is z) ∙ all_of (sign_text z) (body_text z) (sign_all (int_lt z (pos 0))) (all_body z f)

begins_number : (negative : Bool) (body rest : List ℕ) → IsDigits body → first_token (((if negative then codes "-" else []) ++ body) ++ rest) ≡ first_number (((if negative then codes "-" else []) ++ body) ++ rest)
begins_number true body rest is = rw is.same (no_sign is.first (is.further ++ rest) is.small)
begins_number false body rest is = rw is.same (no_word is.first (is.further ++ rest) is.small)

is_number : (z : ℤ) (rest : List ℕ) → FitsSigned w64 z → first_token (number_text z ++ rest) ≡ first_number (number_text z ++ rest)
is_number z rest f =
    let same = text_is z in
    rw same (begins_number (int_lt z (pos 0)) (body_text z) rest (body_is z f))

pub fits : (z : ℤ) → (int_le (neg_ℤ (pos (2 ^ 63))) z && int_lt z (pos (2 ^ 63))) ≡ true → FitsSigned w64 z
fits z h = grind (arith, ints)

-- a number is read, where no byte of a number is behind it
pub number_reads : (n : Num) (rest : List ℕ) → (int_le (neg_ℤ (pos (2 ^ 63))) n.0 && int_lt n.0 (pos (2 ^ 63))) ≡ true → is_unnumbered rest ≡ true
    → first_token (number_text n.0 ++ rest) ≡ Some (token.Literal (value.Num n), rest)
number_reads n rest h e =
    let f = fits n.0 h in
    let text = number_text n.0 in
    let count : number_length (text ++ rest) ≡ length text = long text rest (all_number n.0 f) e in
    is_number n.0 rest f
    ∙ ap (λ k. literal_token (drop k (text ++ rest)) (option_map value.Num (number_cell (take k (text ++ rest))))) count
    ∙ ap₂ (λ (d t : List ℕ). literal_token d (option_map value.Num (number_cell t))) (drop-append_seam text rest) (take-append_seam text rest)
    ∙ ap (λ r. literal_token rest (option_map value.Num (number_or_none r))) (printed-reads n.0 f)
