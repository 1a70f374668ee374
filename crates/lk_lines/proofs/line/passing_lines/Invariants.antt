use Rattle.std.proofs.Common.{◌≡◌, ◌++◌, map, All}
use Rattle.std.specs.Prelude.{filter}
use Rattle.std.specs.Vec.Iter.{into_iter_items}
use Rattle.lk_lines.specs.Lines.{IsPositiveLine, is_kept, line_by}
use Rattle.lk_lines.proofs.line.passing_lines.Given as goal

abbrev pub invariant-loop-row : goal.invariant-loop-row
invariant-loop-row l = record {
  can_go_on : goal.iterator-loop-row.can_next l.row-iterator;
  will_end : goal.iterator-loop-row.is_finite l.row-iterator;
  rest : l.lines ++ map (line_by l.components l.columns) (filter (is_kept l.components l.filters) (into_iter_items l.row-iterator))
      ≡ map (line_by l.components l.columns) (filter (is_kept l.components l.filters) l.fn.groups);
  positive : All IsPositiveLine l.lines;
}
