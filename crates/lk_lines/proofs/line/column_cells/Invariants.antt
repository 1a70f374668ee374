use Rattle.std.proofs.Common.{◌≡◌, ◌++◌, drop, All}
use Rattle.lk_lines.specs.Lines.{IsPositiveCell}
use Rattle.lk_lines.specs.Sources.{column_cells}
use Rattle.lk_lines.proofs.line.column_cells.Given as goal

abbrev pub invariant-loop-column : goal.invariant-loop-column
invariant-loop-column l = record {
  rest : l.picked ++ column_cells l.components l.cells (drop l.column-index l.columns) l.left ≡ column_cells l.components l.cells l.columns l.group;
  positive : All IsPositiveCell l.picked;
}
