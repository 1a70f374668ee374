use Rattle.std.proofs.Common.{◌≡◌, map}
use Rattle.lk_semantics.specs.Joins.{numbers_below}
use Rattle.lk_tree.specs.Standings.{is_determined_next, is_present_next}
use Rattle.lk_tree.proofs.standing.next_marks.Given as goal

abbrev pub invariant-loop-w : goal.invariant-loop-w
invariant-loop-w l = l.determined ≡ map (is_determined_next l.x l.joins l.v l.marks) (numbers_below l.w)

abbrev pub invariant-loop-w-2 : goal.invariant-loop-w-2
invariant-loop-w-2 l = l.present ≡ map (is_present_next l.x l.joins l.v l.marks) (numbers_below l.w)
