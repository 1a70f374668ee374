use Rattle.std.proofs.Common.{◌≡◌, drop}
use Rattle.lk_query.specs.Refusals.{in_front}
use Rattle.lk_query.specs.Names.{picks_of}
use Rattle.lk_query.proofs.names.picks_of.Given as goal

abbrev pub invariant-loop-name : goal.invariant-loop-name
invariant-loop-name l = in_front l.picks (picks_of l.x (drop l.name-index l.names)) ≡ picks_of l.x l.names
