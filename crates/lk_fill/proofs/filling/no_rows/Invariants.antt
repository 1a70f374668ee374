use Rattle.std.proofs.Common.{◌≡◌, ◌++◌, [], drop, map}
use Rattle.lk_fill.specs.Fills.{no_rows}
use Rattle.lk_fill.proofs.filling.no_rows.Given as goal

abbrev pub invariant-loop-table : goal.invariant-loop-table
invariant-loop-table l = l.rows ++ map (λ table. []) (drop l._table-index l.m.derived) ≡ no_rows l.m
