-- What a store's count of faults comes to, and when it has risen.
use Rattle.std.specs.Prelude.{ℕ, ◌≤◌, Result, Ok, Err, IsErrOf}
use Rattle.lk_io.specs.Causes.{Rose, next_count}
use Rattle.lk_ledger.specs.declared.faults.KeepFault.{KeepFault}
use Rattle.lk_ledger.specs.declared.faults.KeepFault.TheVariants.{Failed, NoMemory}

-- the count after a call with this result: one more where it failed, and else the same
abbrev pub count_after : {T : Type 0} → ℕ → Result T KeepFault → ℕ
count_after faults (Ok value) = faults
count_after faults (Err Failed) = next_count faults
count_after faults (Err NoMemory) = faults

-- the count never falls, and `Failed` comes only where it rose
pub record HasKeepCause {T : Type 0} (before now : ℕ) (result : Result T KeepFault) : Type 0 where
  pub later : before ≤ now
  pub rose : IsErrOf result Failed → Rose before now
