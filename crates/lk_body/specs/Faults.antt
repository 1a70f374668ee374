-- Results of looking at a query: a value, a refusal, or want of memory.
use Rattle.std.specs.Prelude.{Bool, true, false}
use Rattle.lk_body.specs.declared.fault.QueryFault.{QueryFault}
use Rattle.lk_body.specs.declared.fault.QueryFault.TheVariants.{NoMemory}

-- the fault is want of memory, and no refusal
abbrev pub is_no_memory : QueryFault → Bool
is_no_memory NoMemory = true
is_no_memory refusal = false
