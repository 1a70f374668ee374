-- Which fault of a batch is want of memory.
use Rattle.std.specs.Prelude.{Bool, true, false}
use Rattle.lk_table.specs.declared.fault.BatchFault.{BatchFault}
use Rattle.lk_table.specs.declared.fault.BatchFault.TheVariants.{L3, L4, L5, NoMemory}

abbrev pub is_no_memory : BatchFault → Bool
is_no_memory NoMemory = true
is_no_memory (L3 row column) = false
is_no_memory (L4 key) = false
is_no_memory (L5 row) = false
