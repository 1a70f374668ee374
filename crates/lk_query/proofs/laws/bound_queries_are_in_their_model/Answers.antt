use Rattle.lk_query.proofs.ModelLaws.{bound_body_in, bound_in}
use Rattle.lk_query.proofs.laws.bound_queries_are_in_their_model.Goals as goal

pub returns-clause-query : goal.returns-clause-query
returns-clause-query c = λ m users user explore q now b is years binds. bound_in m users user explore q now b is years binds

pub returns-clause-body : goal.returns-clause-body
returns-clause-body c = λ m users user explore body now b is years binds. bound_body_in m users user explore body now b is years binds
