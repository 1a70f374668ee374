-- A moment of the years 1 to 9999.
use Rattle.std.proofs.Common.{◌≡◌, ℤ, true, refl, arith}
use Rattle.std.specs.Prelude.{pos, int_le, ◌≤ℤ◌}
use Rattle.std.proofs.lemmas.Int.{ints}
use Rattle.lk_val.specs.Years.{IsMomentInYears, first_second, last_second}

test_le : (a b : ℤ) → int_le a b ≡ true → a ≤ℤ b
test_le a b h = grind (arith, ints)

-- the first second of 1970 is of the years 1 to 9999
pub in_1970 : IsMomentInYears (pos 0)
in_1970 = (test_le first_second (pos 0) refl, test_le (pos 0) last_second refl)
