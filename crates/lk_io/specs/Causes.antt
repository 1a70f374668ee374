-- When a count of faults has risen, and what rises with it.
use Rattle.std.specs.Prelude.{ℕ, ◌+◌, ◌-◌, ◌^◌, ◌≤◌, min, Result, OnErr, IsErrOf}
use Rattle.lk_io.specs.declared.faults.FileFault.{FileFault}
use Rattle.lk_io.specs.declared.faults.FileFault.TheVariants.{Failed}

-- one more, where 64 bits hold it
abbrev pub next_count : ℕ → ℕ
next_count count = min (count + 1) (2 ^ 64 - 1)

-- the count rose, or stands at the greatest count
abbrev pub Rose : ℕ → ℕ → Type 0
Rose before now = next_count before ≤ now

-- the count never falls, and an error comes only where it rose
pub record HasCause {T E : Type 0} (before now : ℕ) (result : Result T E) : Type 0 where
  pub later : before ≤ now
  pub rose : OnErr result (Rose before now)

-- the count never falls, and `Failed` comes only where it rose
pub record HasFileCause {T : Type 0} (before now : ℕ) (result : Result T FileFault) : Type 0 where
  pub later : before ≤ now
  pub rose : IsErrOf result Failed → Rose before now
