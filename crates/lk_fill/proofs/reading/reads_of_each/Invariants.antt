use Rattle.std.proofs.Common.{◌≡◌, ◌++◌, drop, map}
use Rattle.lk_fill.specs.Orders.{reads_of_each}
use Rattle.lk_fill.proofs.OrderLaws.{read_from}
use Rattle.lk_fill.proofs.reading.reads_of_each.Given as goal

abbrev pub invariant-loop-table : goal.invariant-loop-table
invariant-loop-table l = l.reads ++ map (read_from l.m) (drop l.table l.m.derived) ≡ reads_of_each l.m
