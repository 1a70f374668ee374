-- The lines so far, and those that are left.
use Rattle.std.proofs.Common.{◌≡◌, ◌≤◌, ◌+◌, length}
use Rattle.lk_http.proofs.HeadLemmas.{lines_in}
use Rattle.lk_http.proofs.head.has_field_over.Given as goal

abbrev pub invariant-loop-line : goal.invariant-loop-line
invariant-loop-line l = record {
  few : l.lines ≤ 65;
  all : l.lines + lines_in l.rest ≡ lines_in l.head;
}

abbrev pub decreases-loop-line : goal.decreases-loop-line
decreases-loop-line l = length l.rest
