use Rattle.lk_query.proofs.BindingLaws.{bound_body_once}
use Rattle.lk_query.proofs.laws.bound_bodies_are_determined.Goals as goal

pub returns : goal.returns
returns c = λ m users user explore body now r s a b. bound_body_once m users user explore body now r s a b
