-- What is printed for a number is a decimal of that number.
use Rattle.std.proofs.Common.{Bool, Result, neg_ℤ, mul-le-mul_right, length-append, ◌≡◌, ℕ, suc, ◌+◌, ◌*◌, ◌/◌, ◌%◌, ◌^◌, ◌<◌, ◌≤◌, true, false, cond, if◌then◌else◌, ◌==◌, nat_le, nat_lt, List, [], ◌∷◌, ◌++◌, length, drop, Option, Some, None, Ok, Err, IfSome, ℤ, pos, negsuc, int_lt, unsigned_abs, FitsSigned, codes, decimal, w64, refl, sym, ap, ap₂, ◌∙◌, subst, arith, append_assoc}
use Rattle.std.specs.List.{list_all, AllByRecursion}
use Rattle.std.proofs.lemmas.Int.{ints}
use Rattle.std.proofs.lemmas.Fmt.{decimal_digit, decimal_by_steps, length-decimal-le}
use Rattle.std.proofs.lemmas.Bool.Decides.{nat_tests}
use Rattle.lk_val.specs.declared.num.NumFault.TheVariants.{Range, Places}
use Rattle.lk_val.specs.declared.num.Num.{Num}
use Rattle.lk_val.specs.declared.num.NumFault.{NumFault}
use Rattle.lk_val.specs.Numbers.{in_range, num_of, places_text, sign_text, number_text}
use Rattle.lk_val.specs.Decimals.{Decimal, IsDecimal, AreDigits, digits_text, behind_text, decimal_text, digits_sum, places, places_sum, decimal_size, has_four_places, decimal_number}
use Rattle.lk_val.proofs.DecimalLaws.{decimal-reads, none_past}
use Rattle.lk_val.proofs.RoundingSteps.{not-negative}

-- ---- the whole part

-- the text is that of digits whose sum is n
record IsPrinted (n : ℕ) (text : List ℕ) : Type 0 where
  pub digits : List ℕ
  pub valid : AreDigits digits
  pub same : digits_text digits ≡ text
  pub sum : digits_sum digits ≡ n

text_push : (ds : List ℕ) (d : ℕ) → digits_text (ds ++ d ∷ []) ≡ digits_text ds ++ (48 + d) ∷ []
text_push [] d = refl
text_push (e ∷ ds) d = ap (λ t. (48 + e) ∷ t) (text_push ds d)

each_push : (ds : List ℕ) (d : ℕ) → AllByRecursion (λ d. d < 10) ds → d < 10 → AllByRecursion (λ d. d < 10) (ds ++ d ∷ [])
each_push [] d a h = (h, tt)
each_push (e ∷ ds) d a h = (a.0, each_push ds d a.1 h)

length_push : (ds : List ℕ) (d : ℕ) → length (ds ++ d ∷ []) ≡ suc (length ds)
length_push [] d = refl
length_push (e ∷ ds) d = ap suc (length_push ds d)

sum_push : (ds : List ℕ) (d : ℕ) → digits_sum (ds ++ d ∷ []) ≡ 10 * digits_sum ds + d
sum_push [] d = omega arith
sum_push (e ∷ ds) d =
    ap₂ (λ k s. e * 10 ^ k + s) (length_push ds d) (sum_push ds d) ∙ more e d (10 ^ length ds) (10 ^ suc (length ds)) (digits_sum ds) (omega arith)
  where
    more : (e d p q s : ℕ) → q ≡ 10 * p → e * q + (10 * s + d) ≡ 10 * (e * p + s) + d
    more e d p q s h =
        let product : e * q ≡ e * (10 * p) = ap (λ q. e * q) h in
        omega arith

printed : (n : ℕ) → n < 2 ^ 64 → IsPrinted n (decimal n)
printed = decimal_by_steps IsPrinted
    (λ n h. record { digits = n ∷ []; valid = record { some = omega arith; each = (h, tt) }; same = refl; sum = omega arith })
    (λ n ds h p. record {
      digits = p.digits ++ n % 10 ∷ [];
      valid = record { some = subst (λ k. 0 < k) (sym (length_push p.digits (n % 10))) (omega arith); each = each_push p.digits (n % 10) p.valid.each (omega arith) };
      same = text_push p.digits (n % 10) ∙ ap (λ t. t ++ (48 + n % 10) ∷ []) p.same;
      sum = sum_push p.digits (n % 10) ∙ omega (arith, p.sum);
    })

-- ---- the places

record IsPlaces (p : ℕ) (text : List ℕ) : Type 0 where
  pub behind : Option (List ℕ)
  pub valid : IfSome behind AreDigits
  pub same : behind_text behind ≡ text
  pub sum : places_sum 1000 (places behind) ≡ p
  pub fine : list_all (λ d. d == 0) (drop 4 (places behind)) ≡ true

zero_is : (n : ℕ) → (n == 0) ≡ true → n ≡ 0
zero_is n h = grind (arith, nat_tests)

module _ (p : ℕ) (small : p < 10000) where
  abbrev a : ℕ
  a = p / 1000 % 10

  abbrev b : ℕ
  b = p / 100 % 10

  abbrev c : ℕ
  c = p / 10 % 10

  abbrev d : ℕ
  d = p % 10

  one : p % 1000 ≡ 0 → IsPlaces p (codes "." ++ decimal a)
  one e = record {
    behind = Some (a ∷ []);
    valid = record { some = omega arith; each = (omega arith, tt) };
    same = ap (λ s. codes "." ++ s) (sym (decimal_digit a (omega arith)));
    sum = omega arith;
    fine = refl;
  }

  two : p % 100 ≡ 0 → IsPlaces p (codes "." ++ decimal a ++ decimal b)
  two e = record {
    behind = Some (a ∷ b ∷ []);
    valid = record { some = omega arith; each = (omega arith, (omega arith, tt)) };
    same = ap₂ (λ s t. codes "." ++ s ++ t) (sym (decimal_digit a (omega arith))) (sym (decimal_digit b (omega arith)));
    sum = omega arith;
    fine = refl;
  }

  three : p % 10 ≡ 0 → IsPlaces p (codes "." ++ decimal a ++ decimal b ++ decimal c)
  three e = record {
    behind = Some (a ∷ b ∷ c ∷ []);
    valid = record { some = omega arith; each = (omega arith, (omega arith, (omega arith, tt))) };
    same = (λ i. codes "." ++ sym (decimal_digit a (omega arith)) i ++ sym (decimal_digit b (omega arith)) i ++ sym (decimal_digit c (omega arith)) i);
    sum = omega arith;
    fine = refl;
  }

  four : IsPlaces p (codes "." ++ decimal a ++ decimal b ++ decimal c ++ decimal d)
  four = record {
    behind = Some (a ∷ b ∷ c ∷ d ∷ []);
    valid = record { some = omega arith; each = (omega arith, (omega arith, (omega arith, (omega arith, tt)))) };
    same = (λ i. codes "." ++ sym (decimal_digit a (omega arith)) i ++ sym (decimal_digit b (omega arith)) i ++ sym (decimal_digit c (omega arith)) i ++ sym (decimal_digit d (omega arith)) i);
    sum = omega arith;
    fine = refl;
  }

  printed_places : IsPlaces p (places_text p)
  printed_places =
      elim (p == 0) as (λ t. (p == 0) ≡ t → IsPlaces p (if t then [] else (if p % 1000 == 0 then codes "." ++ decimal a else (if p % 100 == 0 then codes "." ++ decimal a ++ decimal b else (if p % 10 == 0 then codes "." ++ decimal a ++ decimal b ++ decimal c else codes "." ++ decimal a ++ decimal b ++ decimal c ++ decimal d))))) [
        | true ↦ λ e. record { behind = None; valid = tt; same = refl; sum = sym (zero_is p e); fine = refl }
        | false ↦ λ _. elim (p % 1000 == 0) as (λ t. (p % 1000 == 0) ≡ t → IsPlaces p (if t then codes "." ++ decimal a else (if p % 100 == 0 then codes "." ++ decimal a ++ decimal b else (if p % 10 == 0 then codes "." ++ decimal a ++ decimal b ++ decimal c else codes "." ++ decimal a ++ decimal b ++ decimal c ++ decimal d)))) [
          | true ↦ λ e. one (zero_is (p % 1000) e)
          | false ↦ λ _. elim (p % 100 == 0) as (λ t. (p % 100 == 0) ≡ t → IsPlaces p (if t then codes "." ++ decimal a ++ decimal b else (if p % 10 == 0 then codes "." ++ decimal a ++ decimal b ++ decimal c else codes "." ++ decimal a ++ decimal b ++ decimal c ++ decimal d))) [
            | true ↦ λ e. two (zero_is (p % 100) e)
            | false ↦ λ _. elim (p % 10 == 0) as (λ t. (p % 10 == 0) ≡ t → IsPlaces p (if t then codes "." ++ decimal a ++ decimal b ++ decimal c else codes "." ++ decimal a ++ decimal b ++ decimal c ++ decimal d)) [
              | true ↦ λ e. three (zero_is (p % 10) e)
              | false ↦ λ _. four
            ] refl
          ] refl
        ] refl
      ] refl

-- ---- the number

in_range-is : (count : ℤ) → FitsSigned w64 count → in_range (int_lt count (pos 0)) (unsigned_abs count) ≡ Ok (record { 0 = count })
in_range-is (negsuc n) f =
    let test : nat_le (suc n) (2 ^ 63) ≡ true = le_is (suc n) (omega (arith, ints)) in
    ap (λ t. cond t (Ok (record { 0 = negsuc n })) (Err Range)) test
  where
    le_is : (n : ℕ) → n ≤ 2 ^ 63 → nat_le n (2 ^ 63) ≡ true
    le_is n h = grind (arith, nat_tests)
in_range-is (pos n) f =
    let test : nat_lt n (2 ^ 63) ≡ true = lt_is n (omega (arith, ints)) in
    ap (λ b. in_range b n) (not-negative n) ∙ ap (λ t. cond t (Ok (record { 0 = pos n })) (Err Range)) test
  where
    lt_is : (n : ℕ) → n < 2 ^ 63 → nat_lt n (2 ^ 63) ≡ true
    lt_is n h = grind (arith, nat_tests)

pub printed-reads : (count : ℤ) → FitsSigned w64 count → num_of (number_text count) ≡ Ok (record { 0 = count })
printed-reads count f =
    let size = unsigned_abs count in
    let bound : size ≤ 2 ^ 63 = omega (arith, ints) in
    let w = printed (size / 10000) (omega arith) in
    let b = printed_places (size % 10000) (omega arith) in
    let number : Decimal = record { negative = int_lt count (pos 0); whole = w.digits; behind = b.behind } in
    let text : decimal_text (record { negative = int_lt count (pos 0); whole = w.digits; behind = b.behind }) ≡ number_text count =
    ap₂ (λ s t. sign_text count ++ (s ++ t)) w.same b.same ∙ sym (append_assoc (sign_text count) (decimal (size / 10000)) (places_text (size % 10000))) in
    let all : 10000 * digits_sum w.digits + places_sum 1000 (places b.behind) ≡ size = ap₂ (λ s t. 10000 * s + t) w.sum b.sum ∙ omega arith in
    ap num_of (sym text)
    ∙ decimal-reads (record { negative = int_lt count (pos 0); whole = w.digits; behind = b.behind }) (record { whole = w.valid; behind = b.valid })
    ∙ ap₂ (λ t n. cond t (in_range (int_lt count (pos 0)) n) (Err Places)) b.fine all
    ∙ in_range-is count f

-- ---- no decimal of the number is shorter

sum_below : (ds : List ℕ) → AllByRecursion (λ d. d < 10) ds → digits_sum ds < 10 ^ length ds
sum_below [] a = omega arith
sum_below (d ∷ ds) a = below d (10 ^ length ds) (10 ^ suc (length ds)) (digits_sum ds) a.0 (omega arith) (sum_below ds a.1)
  where
    below : (d p q s : ℕ) → d < 10 → q ≡ 10 * p → s < p → d * p + s < q
    below d p q s h e l =
        let more : d * p ≤ 9 * p = mul-le-mul_right p (omega arith) in
        omega arith

length_text : (ds : List ℕ) → length (digits_text ds) ≡ length ds
length_text [] = refl
length_text (d ∷ ds) = ap suc (length_text ds)

one_long : (a : ℕ) → a < 10 → length (decimal a) ≡ 1
one_long a h = ap length (decimal_digit a h)

not_zero : (n : ℕ) → (n == 0) ≡ false → n ≡ 0 → ⊥
not_zero n f e = absurd (grind (arith, nat_tests))

-- how long the places are at most
record IsShort (p n : ℕ) : Type 0 where
  pub one : p % 1000 ≡ 0 → n ≤ 2
  pub two : p % 100 ≡ 0 → n ≤ 3
  pub three : p % 10 ≡ 0 → n ≤ 4
  pub four : n ≤ 5

module _ (p : ℕ) (small : p < 10000) where
  la : length (decimal (p / 1000 % 10)) ≡ 1
  la = one_long (p / 1000 % 10) (omega arith)

  lb : length (decimal (p / 100 % 10)) ≡ 1
  lb = one_long (p / 100 % 10) (omega arith)

  lc : length (decimal (p / 10 % 10)) ≡ 1
  lc = one_long (p / 10 % 10) (omega arith)

  ld : length (decimal (p % 10)) ≡ 1
  ld = one_long (p % 10) (omega arith)

  abbrev t1 : List ℕ
  t1 = codes "." ++ decimal (p / 1000 % 10)

  abbrev t2 : List ℕ
  t2 = t1 ++ decimal (p / 100 % 10)

  abbrev t3 : List ℕ
  t3 = t2 ++ decimal (p / 10 % 10)

  abbrev t4 : List ℕ
  t4 = t3 ++ decimal (p % 10)

  l1 : length t1 ≡ 2
  l1 = length-append (codes ".") (decimal (p / 1000 % 10)) ∙ ap (λ n. 1 + n) la

  l2 : length t2 ≡ 3
  l2 = length-append t1 (decimal (p / 100 % 10)) ∙ ap₂ (λ m n. m + n) l1 lb

  l3 : length t3 ≡ 4
  l3 = length-append t2 (decimal (p / 10 % 10)) ∙ ap₂ (λ m n. m + n) l2 lc

  l4 : length t4 ≡ 5
  l4 = length-append t3 (decimal (p % 10)) ∙ ap₂ (λ m n. m + n) l3 ld

  short_places : IsShort p (length (places_text p))
  short_places =
      elim (p == 0) as (λ t. (p == 0) ≡ t → IsShort p (length (if t then [] else (if p % 1000 == 0 then t1 else (if p % 100 == 0 then t2 else (if p % 10 == 0 then t3 else t4)))))) [
        | true ↦ λ e. record { one = λ _. omega arith; two = λ _. omega arith; three = λ _. omega arith; four = omega arith }
        | false ↦ λ _. elim (p % 1000 == 0) as (λ t. (p % 1000 == 0) ≡ t → IsShort p (length (if t then t1 else (if p % 100 == 0 then t2 else (if p % 10 == 0 then t3 else t4))))) [
          | true ↦ λ e. record { one = λ _. omega (arith, l1); two = λ _. omega (arith, l1); three = λ _. omega (arith, l1); four = omega (arith, l1) }
          | false ↦ λ f1. elim (p % 100 == 0) as (λ t. (p % 100 == 0) ≡ t → IsShort p (length (if t then t2 else (if p % 10 == 0 then t3 else t4)))) [
            | true ↦ λ e. record { one = λ h. absurd (not_zero (p % 1000) f1 h); two = λ _. omega (arith, l2); three = λ _. omega (arith, l2); four = omega (arith, l2) }
            | false ↦ λ f2. elim (p % 10 == 0) as (λ t. (p % 10 == 0) ≡ t → IsShort p (length (if t then t3 else t4))) [
              | true ↦ λ e. record { one = λ h. absurd (not_zero (p % 1000) f1 h); two = λ h. absurd (not_zero (p % 100) f2 h); three = λ _. omega (arith, l3); four = omega (arith, l3) }
              | false ↦ λ f3. record { one = λ h. absurd (not_zero (p % 1000) f1 h); two = λ h. absurd (not_zero (p % 100) f2 h); three = λ h. absurd (not_zero (p % 10) f3 h); four = omega (arith, l4) }
            ] refl
          ] refl
        ] refl
      ] refl

places_below : (behind : Option (List ℕ)) → IfSome behind AreDigits → places_sum 1000 (places behind) < 10000
places_below None v = omega arith
places_below (Some []) v = omega arith
places_below (Some (a ∷ [])) v = let e = v.each.0 in omega arith
places_below (Some (a ∷ b ∷ [])) v = let e = v.each.0 in let f = v.each.1.0 in omega arith
places_below (Some (a ∷ b ∷ c ∷ [])) v = let e = v.each.0 in let f = v.each.1.0 in let g = v.each.1.1.0 in omega arith
places_below (Some (a ∷ b ∷ c ∷ d ∷ rest)) v =
    let e = v.each.0 in
    let f = v.each.1.0 in
    let g = v.each.1.1.0 in
    let h = v.each.1.1.1.0 in
    let none = none_past rest in
    omega arith

places_longer : (behind : Option (List ℕ)) (p : ℕ) → IfSome behind AreDigits → p ≡ places_sum 1000 (places behind) → IsShort p (length (places_text p)) → length (places_text p) ≤ length (behind_text behind)
places_longer None p v e s = omega (arith, ap (λ n. length (places_text n)) e)
places_longer (Some []) p v e s = absurd (let none : 0 < 0 = v.some in omega arith)
places_longer (Some (a ∷ [])) p v e s = s.one (omega arith)
places_longer (Some (a ∷ b ∷ [])) p v e s = s.two (omega arith)
places_longer (Some (a ∷ b ∷ c ∷ [])) p v e s = s.three (omega arith)
places_longer (Some (a ∷ b ∷ c ∷ d ∷ rest)) p v e s =
    let five = s.four in
    let long : length (digits_text rest) ≡ length rest = length_text rest in
    omega arith

-- what is known of a decimal of a number
record IsOf (negative : Bool) (size : ℕ) (count : ℤ) : Type 0 where
  pub same : size ≡ unsigned_abs count
  pub bound : size ≤ 2 ^ 63
  pub sign : length (sign_text count) ≤ length (if negative then codes "-" else [])

sign_short : (count : ℤ) → length (sign_text count) ≤ 1
sign_short count = elim (int_lt count (pos 0)) as (λ b. length (if b then codes "-" else []) ≤ 1) [ true ↦ omega arith | false ↦ omega arith ]

held : (b : Bool) (x n : Num) → ◌≡◌ {A = Result Num NumFault} (cond b (Ok x) (Err Range)) (Ok n) → (b ≡ true) × (x ≡ n)
held true x n e = (refl, cc)
held false x n e = absurd (cc)

at_most : (n : ℕ) → nat_le n (2 ^ 63) ≡ true → n ≤ 2 ^ 63
at_most n h = grind (arith, nat_tests)

less_than : (n : ℕ) → nat_lt n (2 ^ 63) ≡ true → n ≤ 2 ^ 63
less_than n h = grind (arith, nat_tests)

of_range : (negative : Bool) (size : ℕ) (count : ℤ) → in_range negative size ≡ Ok (record { 0 = count }) → IsOf negative size count
of_range true size count e =
    let p = held (nat_le size (2 ^ 63)) (record { 0 = neg_ℤ (pos size) }) (record { 0 = count }) e in
    let is : neg_ℤ (pos size) ≡ count = ap (λ (x : Num). x.0) p.1 in
    record { same = omega (arith, ints); bound = at_most size p.0; sign = sign_short count }
of_range false size count e =
    let p = held (nat_lt size (2 ^ 63)) (record { 0 = pos size }) (record { 0 = count }) e in
    let is : pos size ≡ count = ap (λ (x : Num). x.0) p.1 in
    record {
      same = omega (arith, ints);
      bound = less_than size p.0;
      sign = subst (λ z. length (sign_text z) ≤ 0) is (subst (λ b. length (if b then codes "-" else []) ≤ 0) (sym (not-negative size)) (omega arith));
    }

given : (b : Bool) (x : Result Num NumFault) (n : Num) → cond b x (Err Places) ≡ Ok n → x ≡ Ok n
given true x n e = e
given false x n e = absurd (cc)

pub printed-shortest : (d : Decimal) (count : ℤ) → IsDecimal d → decimal_number d ≡ Ok (record { 0 = count }) → length (number_text count) ≤ length (decimal_text d)
printed-shortest d count is e =
    let w = digits_sum d.whole in
    let p = places_sum 1000 (places d.behind) in
    let o = of_range d.negative (decimal_size d) count (given (has_four_places d) (in_range d.negative (decimal_size d)) (record { 0 = count }) e) in
    let small : places_sum 1000 (places d.behind) < 10000 = places_below d.behind is.behind in
    let size : 10000 * digits_sum d.whole + places_sum 1000 (places d.behind) ≡ unsigned_abs count = o.same in
    let bound : 10000 * digits_sum d.whole + places_sum 1000 (places d.behind) ≤ 2 ^ 63 = o.bound in
    let whole : unsigned_abs count / 10000 ≡ digits_sum d.whole = omega arith in
    let rest : unsigned_abs count % 10000 ≡ places_sum 1000 (places d.behind) = omega arith in
    let first : length (decimal (unsigned_abs count / 10000)) ≤ length d.whole =
    length-decimal-le (length d.whole) (unsigned_abs count / 10000) is.whole.some (subst (λ n. n < 10 ^ length d.whole) (sym whole) (sum_below d.whole is.whole.each)) (omega arith) in
    let second : length (places_text (unsigned_abs count % 10000)) ≤ length (behind_text d.behind) =
    places_longer d.behind (unsigned_abs count % 10000) is.behind rest (short_places (unsigned_abs count % 10000) (omega arith)) in
    let sign : length (sign_text count) ≤ length (if d.negative then codes "-" else []) = o.sign in
    let left : length (number_text count) ≡ length (sign_text count) + length (decimal (unsigned_abs count / 10000)) + length (places_text (unsigned_abs count % 10000)) =
    length-append (sign_text count ++ decimal (unsigned_abs count / 10000)) (places_text (unsigned_abs count % 10000))
    ∙ ap (λ n. n + length (places_text (unsigned_abs count % 10000))) (length-append (sign_text count) (decimal (unsigned_abs count / 10000))) in
    let right : length (decimal_text d) ≡ length (if d.negative then codes "-" else []) + (length (digits_text d.whole) + length (behind_text d.behind)) =
    length-append (if d.negative then codes "-" else []) (digits_text d.whole ++ behind_text d.behind)
    ∙ ap (λ n. length (if d.negative then codes "-" else []) + n) (length-append (digits_text d.whole) (behind_text d.behind)) in
    let digits : length (digits_text d.whole) ≡ length d.whole = length_text d.whole in
    sums (length (number_text count)) (length (decimal_text d)) (length (sign_text count)) (length (decimal (unsigned_abs count / 10000))) (length (places_text (unsigned_abs count % 10000)))
    (length (if d.negative then codes "-" else [])) (length (digits_text d.whole)) (length (behind_text d.behind)) left right sign (subst (λ n. length (decimal (unsigned_abs count / 10000)) ≤ n) (sym digits) first) second
  where
    sums : (a b s w p s' w' p' : ℕ) → a ≡ s + w + p → b ≡ s' + (w' + p') → s ≤ s' → w ≤ w' → p ≤ p' → a ≤ b
    sums a b s w p s' w' p' e f g h k = omega arith
