use Rattle.std.proofs.Common.{◌≡◌, ◌++◌, drop, map}
use Rattle.lk_formulas.specs.Referents.{kept_side_of}
use Rattle.lk_formulas.proofs.stand_in.kept_sides_of.Given as goal

abbrev pub invariant-loop-referent : goal.invariant-loop-referent
invariant-loop-referent l = l.sides ++ map (kept_side_of l.columns l.unknown l.fields) (drop l.referent-index l.referents) ≡ map (kept_side_of l.columns l.unknown l.fields) l.referents
