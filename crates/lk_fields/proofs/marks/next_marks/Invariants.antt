use Rattle.std.proofs.Common.{◌≡◌, ◌≤◌, ◌++◌, length, drop}
use Rattle.lk_fields.specs.Rows.{marks_from, next_marks}
use Rattle.lk_fields.proofs.marks.next_marks.Given as goal

abbrev pub invariant-loop-number : goal.invariant-loop-number
invariant-loop-number l = record {
  begun : l.number ≤ length l.rows;
  rest : l.next ++ marks_from l.rule l.marks l.number (drop l.number l.rows) ≡ next_marks l.rule l.rows l.marks;
}
