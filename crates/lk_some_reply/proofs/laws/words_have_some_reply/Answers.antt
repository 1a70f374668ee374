use Rattle.lk_some_reply.specs.Loads.{IsHanded}
use Rattle.lk_some_reply.proofs.Replies.{some_reply}
use Rattle.lk_some_reply.proofs.laws.words_have_some_reply.Goals as goal

pub returns : goal.returns
returns c words files kept input now =
    some_reply (IsHanded kept) c.files_load_as_something.ensures (λ those moment. c.files_open_as_something.ensures those kept moment)
    c.bodies_bind_or_are_refused.ensures words files input now
