use Rattle.std.proofs.Common.{map, take}
use Rattle.lk_table.specs.KeySets.{HasRepeated, row_key}
use Rattle.lk_table.proofs.keys.repeated_keys.Given as goal

abbrev pub invariant-loop-i : goal.invariant-loop-i
invariant-loop-i l = HasRepeated l.again (take l.i (map (row_key l.column l.block.rows) l.order))
