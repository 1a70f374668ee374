-- Why what is computed fails: the fault has a property, whatever comes before it.
use Rattle.std.proofs.Common.{Bool, true, false, List, Result, Ok, Err, if◌then◌else◌}
use Rattle.lk_table.specs.Batches.{and_then, in_front}

-- a fault has the property, where there is one
abbrev pub FailsBy : {A E : Type 0} → (E → Type 0) → Result A E → Type 0
FailsBy Has (Ok value) = Unit {0}
FailsBy Has (Err fault) = Has fault

module _ {E : Type 0} (Has : E → Type 0) where
  pub fails_if : {A : Type 0} (b : Bool) (r s : Result A E) → FailsBy Has r → FailsBy Has s → FailsBy Has (if b then r else s)
  fails_if true r s h k = h
  fails_if false r s h k = k

  pub fails_then : {A B : Type 0} (r : Result A E) (next : A → Result B E) → FailsBy Has r → ((a : A) → FailsBy Has (next a)) → FailsBy Has (and_then r next)
  fails_then (Ok a) next h k = k a
  fails_then (Err fault) next h k = h

  pub fails_behind : {A : Type 0} (front : List A) (rest : Result (List A) E) → FailsBy Has rest → FailsBy Has (in_front front rest)
  fails_behind front (Ok rest) h = tt
  fails_behind front (Err fault) h = h
