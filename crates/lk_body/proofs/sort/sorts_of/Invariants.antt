use Rattle.std.proofs.Common.{◌≡◌, ◌++◌, map, drop}
use Rattle.lk_body.specs.Sorts.{sort_of}
use Rattle.lk_body.proofs.sort.sorts_of.Given as goal

abbrev pub invariant-loop-text : goal.invariant-loop-text
invariant-loop-text l = l.sorts ++ map sort_of (drop l.text-index l.texts) ≡ map sort_of l.texts
