use Rattle.std.proofs.Common.{refl}
use Rattle.lk_complete_laws.proofs.NotNot.{of_this}
use Rattle.lk_some_reply.specs.Loads.{IsHanded}
use Rattle.lk_some_reply.proofs.Openings.{some_opening}
use Rattle.lk_some_reply.proofs.laws.files_open_as_something.Goals as goal

pub returns : goal.returns
returns c files kept now =
    some_opening (IsHanded kept) (of_this {Holds = IsHanded kept} kept refl) now files (c.files_load_as_something.ensures files)
