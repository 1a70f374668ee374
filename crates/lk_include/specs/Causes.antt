-- When gathering may answer that the files failed, and what an answer says.
use Rattle.std.specs.Prelude.{◌≡◌, ℕ, ◌≤◌, Bool, true, false, ⊤, Result, Ok, Err, IsErrOf}
use Rattle.lk_io.specs.Causes.{Rose}
use Rattle.lk_include.specs.declared.project.ProjectFault.{ProjectFault}
use Rattle.lk_include.specs.declared.project.ProjectFault.TheVariants as fault

-- the count never falls, and `Failed` comes only where it rose
pub record HasProjectCause {T : Type 0} (before now : ℕ) (result : Result T ProjectFault) : Type 0 where
  pub later : before ≤ now
  pub rose : IsErrOf result fault.Failed → Rose before now

-- an answer of the outside, and none of the files' content
abbrev pub is_outside : ProjectFault → Bool
is_outside (fault.Model line) = false
is_outside fault.Failed = true
is_outside fault.NoMemory = true

-- an error is one of the outside
abbrev pub IsOutside : {T : Type 0} → Result T ProjectFault → Type 0
IsOutside (Ok value) = ⊤
IsOutside (Err why) = is_outside why ≡ true
