use Rattle.std.proofs.Common.{◌≡◌, ◌++◌, drop, map}
use Rattle.lk_regroup.specs.ComponentParts.{first_parts}
use Rattle.lk_regroup.proofs.component.first_parts.Given as goal

abbrev pub invariant-loop-component : goal.invariant-loop-component
invariant-loop-component l = l.parts ++ map (first_parts l.partials) (drop l.component-index l.components) ≡ map (first_parts l.partials) l.components
