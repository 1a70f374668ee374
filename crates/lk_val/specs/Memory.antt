-- Facts that hold of a result unless memory ran out.
use Rattle.std.specs.Prelude.{◌≡◌, Bool, true, false, ⊤, Result, Ok, Err}
use Rattle.lk_val.specs.declared.fault.ModelFault.{ModelFault}
use Rattle.lk_val.specs.declared.fault.ModelFault.TheVariants.{Fault, NoMemory}

-- the fault of a model's reader that is want of memory
abbrev pub is_no_memory : ModelFault → Bool
is_no_memory (Fault line) = false
is_no_memory NoMemory = true

-- the fact, where memory did not run out
abbrev pub Unless : Bool → Type 0 → Type 0
Unless true fact = ⊤
Unless false fact = fact

-- the relation holds of the result, or its error is the one that is want of memory
abbrev pub UnlessMemory : {T E : Type 0} → (E → Bool) → Result T E → (Result T E → Type 0) → Type 0
UnlessMemory is_memory (Ok value) Holds = Holds (Ok value)
UnlessMemory is_memory (Err fault) Holds = Unless (is_memory fault) (Holds (Err fault))

-- the result is the wanted one, or its error is the one that is want of memory
abbrev pub IsUnlessMemory : {T E : Type 0} → (E → Bool) → Result T E → Result T E → Type 0
IsUnlessMemory is_memory result wanted = UnlessMemory is_memory result (λ r. r ≡ wanted)
