use Rattle.std.proofs.Common.{◌≡◌, ◌++◌, length}
use Rattle.lk_semantics.specs.Answers.{parts_of_measure}
use Rattle.lk_tree.proofs.StackedLaws.{parts_left, steps_left}
use Rattle.lk_tree.proofs.component.add_parts.Given as goal

abbrev pub invariant-loop-most : goal.invariant-loop-most
invariant-loop-most l = l.parts ++ parts_left l.x l.left.items ≡ l.fn.parts ++ parts_of_measure l.x (length l.x.measures) l.fn.m

abbrev pub decreases-loop-most : goal.decreases-loop-most
decreases-loop-most l = steps_left l.x l.left.items
