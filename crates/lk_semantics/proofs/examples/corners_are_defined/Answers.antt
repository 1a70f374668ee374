use Rattle.std.proofs.Common.{refl}
use Rattle.lk_semantics.proofs.examples.corners_are_defined.Goals as goal

pub returns-clause-count_with_value : goal.returns-clause-count_with_value
returns-clause-count_with_value c = refl

pub returns-clause-cross_with_condition : goal.returns-clause-cross_with_condition
returns-clause-cross_with_condition c = refl

pub returns-clause-any_order : goal.returns-clause-any_order
returns-clause-any_order c = refl

pub returns-clause-once_each : goal.returns-clause-once_each
returns-clause-once_each c = refl

pub returns-clause-by_name : goal.returns-clause-by_name
returns-clause-by_name c = refl

pub returns-clause-other_view : goal.returns-clause-other_view
returns-clause-other_view c = refl

pub returns-clause-same_view : goal.returns-clause-same_view
returns-clause-same_view c = refl
