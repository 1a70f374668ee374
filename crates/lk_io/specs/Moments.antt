-- The moments that a clock tells, in seconds from 1970-01-01 00:00:00 UTC.
use Rattle.std.specs.Prelude.{ℤ, nat_lt, if◌then◌else◌, List, drop, length}
use Rattle.std.specs.Int.{int_min, int_max}
use Rattle.lk_val.specs.Years.{first_second, last_second}

-- a moment, or the nearer end of the years 1 to 9999
abbrev pub within_years : ℤ → ℤ
within_years moment = int_max first_second (int_min moment last_second)

-- what is told after the first of these moments: the last one repeats
abbrev pub later : List ℤ → List ℤ
later moments = if nat_lt 1 (length moments) then drop 1 moments else moments
