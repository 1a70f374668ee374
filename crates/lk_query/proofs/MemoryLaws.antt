-- What follows of a result, follows of it unless memory ran out.
use Rattle.std.proofs.Common.{Bool, true, false}
use Rattle.std.specs.Prelude.{Result, Ok, Err}
use Rattle.lk_val.specs.Memory.{Unless, UnlessMemory}

pub unless_weaker : {P Q : Type 0} (b : Bool) → (P → Q) → Unless b P → Unless b Q
unless_weaker true f h = tt
unless_weaker false f h = f h

pub memory_weaker : {T E : Type 0} (is_memory : E → Bool) (r : Result T E) (P Q : Result T E → Type 0) → ((s : Result T E) → P s → Q s) → UnlessMemory is_memory r P → UnlessMemory is_memory r Q
memory_weaker is_memory (Ok value) P Q f h = f (Ok value) h
memory_weaker is_memory (Err fault) P Q f h = unless_weaker (is_memory fault) (f (Err fault)) h

-- a fact holds whatever memory does
pub always : {P : Type 0} (b : Bool) → P → Unless b P
always true h = tt
always false h = h
