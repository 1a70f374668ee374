-- Tests over fields that are seen as pairs, and the numbers that digits write.
use Rattle.std.proofs.Common.{◌≡◌, ℕ, ◌+◌, ◌-◌, ◌*◌, ◌<◌, ◌≤◌, Bool, true, List, [], ◌∷◌, length, take, map, refl, ap, rules, arith, get_or, zero, suc}
use Rattle.std.proofs.lemmas.Str.{digit_value_digit}
use Rattle.std.specs.Prelude.{◌||◌}
use Rattle.std.specs.Char.{is_ascii_digit}
use Rattle.std.specs.List.{list_all, list_any}
use Rattle.std.specs.Str.Parse.{digits_value}
use Rattle.std.proofs.lemmas.Int.Digits.{digits_value_more}
use Rattle.std.proofs.lemmas.List.Folds.{list_all-map}
use Rattle.std.proofs.lemmas.Str.Parse.{IsDigitsTest, IsNumeralModel, numerals_by_value, digits_value_short, digits_value-take-le}

-- a test of what is made of each element
pub list_any_map : {X Y : Type 0} (p : Y → Bool) (f : X → Y) (xs : List X) → list_any p (map f xs) ≡ list_any (λ x. p (f x)) xs
list_any_map p f [] = refl
list_any_map p f (x ∷ xs) = ap (λ b. p (f x) || b) (list_any_map p f xs)

pub list_all_map : {X Y : Type 0} (p : Y → Bool) (f : X → Y) (xs : List X) → list_all p (map f xs) ≡ list_all (λ x. p (f x)) xs
list_all_map p f xs = list_all-map p f xs

told : IsDigitsTest (λ ds. list_all is_ascii_digit ds ≡ true)
told = search rules

own : IsNumeralModel (λ ds. list_all is_ascii_digit ds ≡ true) (digits_value 10)
own = numerals_by_value _ told

-- ten digits write a number below ten thousand millions
pub small_number : (ds : List ℕ) → list_all is_ascii_digit ds ≡ true → length ds ≤ 10 → digits_value 10 ds < 10000000000
small_number ds h l = digits_value_short own ds 10 h l

-- and so do the first of them
pub number_so_far : (ds : List ℕ) (i : ℕ) → list_all is_ascii_digit ds ≡ true → length ds ≤ 10 → digits_value 10 (take i ds) < 10000000000
number_so_far ds i h l = omega (arith, small_number ds h l, digits_value-take-le 10 ds i (omega arith))

-- a digit's byte
pub digit_at : (ds : List ℕ) (i : ℕ) → list_all is_ascii_digit ds ≡ true → i < length ds → (48 ≤ get_or ds i 0) × (get_or ds i 0 ≤ 57)
digit_at [] i h l = absurd (omega arith)
digit_at (d ∷ ds) zero h l = let d' = (told.parts d ds h).0 in (omega arith, omega arith)
digit_at (d ∷ ds) (suc i) h l = digit_at ds i (told.parts d ds h).1 (omega arith)

-- one digit more
pub number_more : (ds : List ℕ) (i : ℕ) → list_all is_ascii_digit ds ≡ true → i < length ds → digits_value 10 (take (i + 1) ds) ≡ digits_value 10 (take i ds) * 10 + (get_or ds i 0 - 48)
number_more ds i h l = let d = digit_at ds i h l in omega (arith, digits_value_more 10 ds i l, digit_value_digit (get_or ds i 0) (d.0, d.1))
