use Rattle.std.proofs.Common.{◌≡◌, drop, fold}
use Rattle.lk_types.specs.Formula.{And}
use Rattle.lk_plan.specs.Conditions.{filter_conditions}
use Rattle.lk_plan.specs.Joining.{with_next}
use Rattle.lk_plan.proofs.conditions.with_filters.Given as goal

abbrev pub invariant-loop-field : goal.invariant-loop-field
invariant-loop-field l =
    fold (with_next And) l.all (filter_conditions l.x (drop l.field-index l.filters)) ≡ fold (with_next And) l.fn.before (filter_conditions l.x l.filters)
