use Rattle.std.proofs.Common.{◌≡◌, map, take}
use Rattle.lk_model.specs.Models.{resolved}
use Rattle.lk_model.proofs.model.explores.Given as goal

abbrev pub invariant-loop-explore : goal.invariant-loop-explore
invariant-loop-explore l = l.made ≡ map (resolved l.schema l.declared l.kinds) (take l.explore-index l.explore-items)
