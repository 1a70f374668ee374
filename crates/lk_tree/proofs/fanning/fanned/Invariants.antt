use Rattle.lk_tree.proofs.PartSetLaws.{AreViewsAt}
use Rattle.lk_tree.proofs.fanning.fanned.Given as goal

abbrev pub invariant-loop-j : goal.invariant-loop-j
invariant-loop-j l = AreViewsAt l.x l.joins l.j l.views
