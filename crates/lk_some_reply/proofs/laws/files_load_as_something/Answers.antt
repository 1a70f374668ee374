use Rattle.lk_some_reply.proofs.Loads.{some_load}
use Rattle.lk_some_reply.proofs.laws.files_load_as_something.Goals as goal

pub returns : goal.returns
returns c = some_load c.objects_say_something.ensures
