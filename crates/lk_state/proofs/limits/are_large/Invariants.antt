use Rattle.std.proofs.Common.{◌≡◌, ◌-◌, ◌^◌, min, take}
use Rattle.std.specs.List.{sum_by}
use Rattle.lk_state.specs.Limits.{cells_of, text_of}
use Rattle.lk_state.proofs.limits.are_large.Given as goal

abbrev pub invariant-loop-table : goal.invariant-loop-table
invariant-loop-table l = record {
  cells : l.cells ≡ min (sum_by cells_of (take l.table-index l.tables)) (2 ^ 64 - 1);
  text : l.text ≡ min (sum_by text_of (take l.table-index l.tables)) (2 ^ 64 - 1);
}
