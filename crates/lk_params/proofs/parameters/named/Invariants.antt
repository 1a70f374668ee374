use Rattle.std.proofs.Common.{◌≡◌, ◌++◌, drop}
use Rattle.lk_params.specs.Parameters.{named}
use Rattle.lk_params.proofs.parameters.named.Given as goal

abbrev pub invariant-loop-item : goal.invariant-loop-item
invariant-loop-item l = l.found ++ named l.name (drop l.item-index l.items) ≡ named l.name l.items
