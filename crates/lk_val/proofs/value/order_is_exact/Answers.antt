use Rattle.lk_val.specs.ValueOrder.{values_ordered, tuples_ordered}
use Rattle.lk_val.proofs.ValueLaws.{null_last_ordered}
use Rattle.lk_val.proofs.value.order_is_exact.Goals as goal

pub returns-clause-values : goal.returns-clause-values
returns-clause-values c = values_ordered

pub returns-clause-tuples : goal.returns-clause-tuples
returns-clause-tuples c = tuples_ordered

pub returns-clause-null_last : goal.returns-clause-null_last
returns-clause-null_last c = null_last_ordered
