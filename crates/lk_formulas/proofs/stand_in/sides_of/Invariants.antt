use Rattle.std.proofs.Common.{◌≡◌, ◌++◌, drop, map}
use Rattle.lk_formulas.specs.Referents.{side_of_referent}
use Rattle.lk_formulas.proofs.stand_in.sides_of.Given as goal

abbrev pub invariant-loop-referent : goal.invariant-loop-referent
invariant-loop-referent l = l.sides ++ map (side_of_referent l.columns l.unknown l.fields) (drop l.referent-index l.referents) ≡ map (side_of_referent l.columns l.unknown l.fields) l.referents
