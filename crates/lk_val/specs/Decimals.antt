-- Decimals: the texts that a cell can write a number by, and the count of 1/10,000 that each stands for.
use Rattle.std.specs.Prelude.{ℕ, Bool, ◌≡◌, ◌+◌, ◌*◌, ◌/◌, ◌^◌, ◌<◌, ◌==◌, if◌then◌else◌, List, [], ◌∷◌, ◌++◌, length, map, drop, Option, None, Some, Result, Err, codes, IfSome}
use Rattle.std.specs.List.{list_all, AllByRecursion}
use Rattle.lk_val.specs.declared.num.Num.{Num}
use Rattle.lk_val.specs.declared.num.NumFault.{NumFault}
use Rattle.lk_val.specs.declared.num.NumFault.TheVariants.{Places}
use Rattle.lk_val.specs.Numbers.{in_range}

-- a `-` or none, the digits before the dot, and those behind it, if there is a dot
pub record Decimal : Type 0 where
  pub negative : Bool
  pub whole : List ℕ
  pub behind : Option (List ℕ)

-- one or more digits, from 0 to 9
pub record AreDigits (digits : List ℕ) : Type 0 where
  pub some : 0 < length digits
  pub each : AllByRecursion (λ d. d < 10) digits

-- digits stand before the dot, and behind it, if there is a dot (lookd)
pub record IsDecimal (d : Decimal) : Type 0 where
  pub whole : AreDigits d.whole
  pub behind : IfSome d.behind AreDigits

-- ---- its text

abbrev pub digits_text : List ℕ → List ℕ
digits_text digits = map (λ d. 48 + d) digits

abbrev pub behind_text : Option (List ℕ) → List ℕ
behind_text None = []
behind_text (Some digits) = 46 ∷ digits_text digits

abbrev pub decimal_text : Decimal → List ℕ
decimal_text d = (if d.negative then codes "-" else []) ++ (digits_text d.whole ++ behind_text d.behind)

-- ---- its count

-- the sum of the digits, each times the power of ten of its place
abbrev pub digits_sum : List ℕ → ℕ
digits_sum [] = 0
digits_sum (d ∷ ds) = d * 10 ^ length ds + digits_sum ds

-- the digits behind the dot
abbrev pub places : Option (List ℕ) → List ℕ
places None = []
places (Some digits) = digits

-- the sum of the places, each times its unit, a tenth of the one before
abbrev pub places_sum : ℕ → List ℕ → ℕ
places_sum unit [] = 0
places_sum unit (d ∷ ds) = d * unit + places_sum (unit / 10) ds

-- the size, as a count of 1/10,000
abbrev pub decimal_size : Decimal → ℕ
decimal_size d = 10000 * digits_sum d.whole + places_sum 1000 (places d.behind)

-- no digit but 0 past the fourth place
abbrev pub has_four_places : Decimal → Bool
has_four_places d = list_all (λ digit. digit == 0) (drop 4 (places d.behind))

-- the number that it stands for, where 64 bits hold it
abbrev pub decimal_number : Decimal → Result Num NumFault
decimal_number d = if has_four_places d then in_range d.negative (decimal_size d) else Err Places

-- ---- which texts are decimals

pub record IsDecimalText (text : List ℕ) : Type 0 where
  pub decimal : Decimal
  pub valid : IsDecimal decimal
  pub same : decimal_text decimal ≡ text
