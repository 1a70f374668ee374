use Rattle.std.proofs.Common.{◌≡◌, ◌++◌, drop, map}
use Rattle.lk_regroup.specs.ComponentParts.{component_of}
use Rattle.lk_regroup.proofs.component.components_of.Given as goal

abbrev pub invariant-loop-m : goal.invariant-loop-m
invariant-loop-m l = l.components ++ map (component_of l.x l.kept) (drop l.m-index l.wanted) ≡ map (component_of l.x l.kept) l.wanted
