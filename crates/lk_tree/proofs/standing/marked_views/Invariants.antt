use Rattle.std.proofs.Common.{◌≡◌}
use Rattle.std.specs.Prelude.{filter}
use Rattle.lk_semantics.specs.Joins.{numbers_below}
use Rattle.lk_tree.specs.Roles.{is_marked}
use Rattle.lk_tree.proofs.standing.marked_views.Given as goal

abbrev pub invariant-loop-w : goal.invariant-loop-w
invariant-loop-w l = l.views ≡ filter (is_marked l.marks) (numbers_below l.w)
