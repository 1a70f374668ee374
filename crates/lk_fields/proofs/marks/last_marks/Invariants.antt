use Rattle.std.proofs.Common.{◌≡◌, ◌≤◌, length}
use Rattle.lk_fields.specs.Rows.{marks_after}
use Rattle.lk_fields.proofs.marks.last_marks.Given as goal

abbrev pub invariant-loop-round : goal.invariant-loop-round
invariant-loop-round l = record {
  begun : l._round ≤ length l.rows;
  made : l.marks ≡ marks_after l.rule l._round l.rows;
}
