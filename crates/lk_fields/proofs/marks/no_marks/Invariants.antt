use Rattle.std.proofs.Common.{◌≡◌, ◌++◌, drop}
use Rattle.lk_fields.specs.Rows.{no_marks}
use Rattle.lk_fields.proofs.marks.no_marks.Given as goal

abbrev pub invariant-loop-row : goal.invariant-loop-row
invariant-loop-row l = l.marks ++ no_marks (drop l._row-index l.rows) ≡ no_marks l.rows
