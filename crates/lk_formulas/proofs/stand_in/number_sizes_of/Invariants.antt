use Rattle.std.proofs.Common.{◌≡◌, ◌++◌, drop, map}
use Rattle.lk_formulas.specs.Referents.{number_size_of}
use Rattle.lk_formulas.proofs.stand_in.number_sizes_of.Given as goal

abbrev pub invariant-loop-referent : goal.invariant-loop-referent
invariant-loop-referent l = l.sizes ++ map (number_size_of l.fields) (drop l.referent-index l.referents) ≡ map (number_size_of l.fields) l.referents
