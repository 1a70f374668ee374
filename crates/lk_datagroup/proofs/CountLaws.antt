-- Digits that are no number of 32 bits are no count.
use Rattle.std.proofs.Common.{◌≡◌, ◌≤◌, ◌<◌, ◌^◌, ◌&&◌, ℕ, Bool, true, false, List, [], ◌∷◌, length, nat_le, Some, None, Result, Err, refl, rules, arith}
use Rattle.std.specs.Prelude.{if◌then◌else◌}
use Rattle.std.specs.Char.{is_ascii_digit}
use Rattle.std.specs.List.{list_all}
use Rattle.std.specs.Str.Parse.{digits_value, ParsesUnsigned}
use Rattle.std.proofs.lemmas.Bool.{leb-true, false≢true}
use Rattle.std.proofs.lemmas.Result.{OkIff-at_err}
use Rattle.std.proofs.lemmas.Str.Parse.{IsNumeralModel, numerals_by_value, parse_digits}
use Rattle.lk_datagroup.specs.Intervals.{count_of}

own : IsNumeralModel (λ ds. list_all is_ascii_digit ds ≡ true) (digits_value 10)
own = numerals_by_value _ (search rules)

given : (ds : List ℕ) → 1 ≤ digits_value 10 ds → 0 < length ds
given [] h = absurd (omega (arith, h))
given (d ∷ ds) h = omega arith

pub in_range : (v : ℕ) → (nat_le 1 v && nat_le v 1000000) ≡ true → (1 ≤ v) × (v ≤ 1000000)
in_range v e = parts (nat_le 1 v) (nat_le v 1000000) refl refl e where
  parts : (low high : Bool) → nat_le 1 v ≡ low → nat_le v 1000000 ≡ high → (low && high) ≡ true → (1 ≤ v) × (v ≤ 1000000)
  parts true true a b e = (leb-true 1 v a, leb-true v 1000000 b)
  parts true false a b e = absurd (false≢true e)
  parts false high a b e = absurd (false≢true e)

unless : (digits range : Bool) (v : ℕ) → (digits ≡ true → range ≡ true → ⊥) → (if digits && range then Some v else None) ≡ None
unless false range v n = refl
unless true false v n = refl
unless true true v n = absurd (n refl refl)

pub no_count : {E : Type 0} (ds : List ℕ) (r : Result ℕ E) (e : E) → ParsesUnsigned 32 10 ds r → r ≡ Err e → count_of ds ≡ None
no_count ds r e h fault =
    unless (list_all is_ascii_digit ds) (nat_le 1 (digits_value 10 ds) && nat_le (digits_value 10 ds) 1000000) (digits_value 10 ds)
    (λ digits range.
    let both = in_range (digits_value 10 ds) range in
    OkIff-at_err r ((0 < length ds) × (digits_value 10 ds < 2 ^ 32)) (digits_value 10 ds) e
    (parse_digits own 32 ds r h digits) fault (given ds both.0, omega (arith, both.1)))
