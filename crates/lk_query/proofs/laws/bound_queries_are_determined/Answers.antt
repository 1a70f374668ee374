use Rattle.lk_query.proofs.BindingLaws.{bound_once}
use Rattle.lk_query.proofs.laws.bound_queries_are_determined.Goals as goal

pub returns : goal.returns
returns c = λ m users user explore q now r s a b. bound_once m users user explore q now r s a b
