-- What a store in memory holds, and which of its calls fail.
use Rattle.lk_io.specs.declared.calls.Calls.{Calls}
use Rattle.lk_ledger.specs.declared.kept.Kept.{Kept}

-- what is held, and the calls so far
pub record Holding : Type 0 where
  pub kept : Kept
  pub calls : Calls
