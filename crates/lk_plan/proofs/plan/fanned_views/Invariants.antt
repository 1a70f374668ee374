use Rattle.std.proofs.Common.{◌≡◌, map}
use Rattle.lk_semantics.specs.Joins.{is_fanned, numbers_below}
use Rattle.lk_plan.proofs.plan.fanned_views.Given as goal

abbrev pub invariant-loop-part : goal.invariant-loop-part
invariant-loop-part l = l.all ≡ map (is_fanned l.x l.joins) (numbers_below l.part)
