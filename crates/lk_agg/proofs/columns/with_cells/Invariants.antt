use Rattle.std.proofs.Common.{◌≡◌, ◌++◌, drop, take, length}
use Rattle.lk_agg.specs.Columns.{with_cells}
use Rattle.lk_agg.specs.Given.{given_cells}
use Rattle.lk_agg.proofs.columns.with_cells.Given as goal

abbrev pub invariant-loop-i : goal.invariant-loop-i
invariant-loop-i l = record {
  all : length l.all.items ≡ l.i-end;
  rest : take l.i l.all.items ++ with_cells l.i l.place (given_cells l.cells) (drop l.i l.all.items) ≡ with_cells 0 l.place (given_cells l.cells) l.fn.columns;
}
