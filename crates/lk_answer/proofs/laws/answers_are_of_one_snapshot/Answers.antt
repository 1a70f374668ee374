use Rattle.std.proofs.Common.{◌∙◌, subst}
use Rattle.lk_query.specs.Bindings.{IsBodyBound}
use Rattle.lk_answer.proofs.AnswerLaws.{answered_is}
use Rattle.lk_answer.proofs.laws.answers_are_of_one_snapshot.Goals as goal

pub returns : goal.returns
returns c = λ e past user explore body now csv r stands years is. record {
  bound = is.bound;
  is_bound = is.is_bound;
  is = is.is ∙ answered_is c.answers_alike.ensures c.fitting_queries_depend_on_no_moment.ensures e past stands now csv is.bound
      (λ b binds. c.bound_queries_are_in_their_model.ensures.body e.model e.users user explore body now b stands.resolved years
      (subst (IsBodyBound e.model e.users user explore body now) binds is.is_bound));
}
