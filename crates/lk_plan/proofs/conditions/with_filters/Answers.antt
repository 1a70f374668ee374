use Rattle.std.proofs.Common.{fold}
use Rattle.lk_types.specs.Formula.{And}
use Rattle.lk_plan.specs.Conditions.{filter_conditions}
use Rattle.lk_plan.specs.Joining.{with_next}
use Rattle.lk_plan.proofs.ConditionSteps.{next_filter}
use Rattle.lk_plan.proofs.conditions.with_filters.Goals as goal

pub loop-field-preserved : goal.loop-field-preserved
loop-field-preserved c =
    next_filter c.args.x.now c.args.filters.now c.loop-field.field-index c.loop-field-item.result c.loop-field.all c.in_ok-next.next c.in_ok-all.all
    (fold (with_next And) c.args.before (filter_conditions c.args.x.now c.args.filters.now)) c.loop-field-test.true c.loop-field-item.is c.in_ok-next.ensures c.in_ok-all.ensures c.loop-field.invariant
