use Rattle.lk_one_reply.proofs.OneProject.{one_declared}
use Rattle.lk_one_reply.proofs.laws.objects_say_one_thing.Goals as goal

pub returns : goal.returns
returns c = one_declared c.texts_say_one_thing.ensures.codes c.texts_say_one_thing.ensures.filters
