use Rattle.std.proofs.Common.{◌≡◌, ◌++◌, drop, map}
use Rattle.lk_formulas.specs.Referents.{size_of}
use Rattle.lk_formulas.proofs.stand_in.sizes_of.Given as goal

abbrev pub invariant-loop-referent : goal.invariant-loop-referent
invariant-loop-referent l = l.sizes ++ map (size_of l.fields) (drop l.referent-index l.referents) ≡ map (size_of l.fields) l.referents
