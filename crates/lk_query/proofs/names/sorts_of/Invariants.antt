use Rattle.std.proofs.Common.{◌≡◌, drop}
use Rattle.lk_query.specs.Refusals.{in_front}
use Rattle.lk_query.specs.Names.{sorts_of}
use Rattle.lk_query.proofs.names.sorts_of.Given as goal

abbrev pub invariant-loop-sort : goal.invariant-loop-sort
invariant-loop-sort l = in_front l.made (sorts_of l.fields (drop l.sort-index l.sorts)) ≡ sorts_of l.fields l.sorts
