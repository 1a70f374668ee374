use Rattle.lk_some_reply.proofs.Objects.{some_objects}
use Rattle.lk_some_reply.proofs.laws.objects_say_something.Goals as goal

pub returns : goal.returns
returns c = some_objects c.parameters_say_something.ensures.codes c.parameters_say_something.ensures.filters
