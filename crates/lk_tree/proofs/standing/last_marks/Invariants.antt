use Rattle.std.proofs.Common.{◌≡◌}
use Rattle.lk_tree.specs.Standings.{marks_times}
use Rattle.lk_tree.proofs.standing.last_marks.Given as goal

abbrev pub invariant-loop-round : goal.invariant-loop-round
invariant-loop-round l = l.marks ≡ marks_times l.x l.joins l.v l._round
