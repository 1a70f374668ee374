-- That a day lies in its unit.
use Rattle.std.specs.Prelude.{ℕ, ◌+◌, ◌≤◌, ◌<◌}
use Rattle.lk_types.specs.Filters.{unit_of, unit_start}
use Rattle.lk_types.specs.declared.filter.Period.{Period}

-- a day lies in the unit that has its number; both are counted from the first of year 1
pub record IsInItsUnit (p : Period) (day : ℕ) : Type 0 where
  pub from : unit_start p (unit_of p day) ≤ day
  pub before : day < unit_start p (unit_of p day + 1)

-- a day, counted from the first of year 1, is of the years 1 to 9999
abbrev pub IsWithinYears : ℕ → Type 0
IsWithinYears day = day < 3652059
