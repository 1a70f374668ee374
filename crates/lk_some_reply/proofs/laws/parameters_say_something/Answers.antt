use Rattle.lk_some_reply.proofs.Parameters.{some_code, some_filters}
use Rattle.lk_some_reply.proofs.laws.parameters_say_something.Goals as goal

pub returns-clause-codes : goal.returns-clause-codes
returns-clause-codes c = some_code c.texts_are_expressions_or_refused.ensures

pub returns-clause-filters : goal.returns-clause-filters
returns-clause-filters c = some_filters c.texts_are_filters_or_refused.ensures
