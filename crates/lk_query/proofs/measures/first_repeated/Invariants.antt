use Rattle.std.proofs.Common.{◌≡◌, drop}
use Rattle.lk_query.specs.Bindings.{first_repeated}
use Rattle.lk_query.proofs.measures.first_repeated.Given as goal

abbrev pub invariant-loop-m : goal.invariant-loop-m
invariant-loop-m l = first_repeated l.x l.joins (drop l.m-index l.measures) ≡ first_repeated l.x l.joins l.measures
