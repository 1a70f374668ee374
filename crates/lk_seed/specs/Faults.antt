-- The fault of a table's data file. (lookd)
use Rattle.std.specs.Prelude.{List, ℕ, [], codes}
use Rattle.lk_val.specs.declared.fault.ModelFault.{ModelFault}
use Rattle.lk_val.specs.declared.fault.ModelFault.TheVariants as model
use Rattle.lk_include.specs.Gathering.{file_line}
use Rattle.lk_types.specs.Printing.{value_text}
use Rattle.lk_table.specs.declared.fault.BatchFault.{BatchFault}
use Rattle.lk_table.specs.declared.fault.BatchFault.TheVariants as batch

-- the fault of a data file: its place is the row, and its name the column or the printed key
abbrev pub seed_fault : List ℕ → BatchFault → ModelFault
seed_fault path (batch.L3 row column) = model.Fault (file_line (codes "L3") path row column)
seed_fault path (batch.L4 key) = model.Fault (file_line (codes "L4") path 0 (value_text key))
seed_fault path (batch.L5 row) = model.Fault (file_line (codes "L5") path row [])
seed_fault path batch.NoMemory = model.NoMemory
