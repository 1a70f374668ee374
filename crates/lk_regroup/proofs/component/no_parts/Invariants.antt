use Rattle.std.proofs.Common.{◌≡◌, ◌++◌, drop, map}
use Rattle.lk_regroup.specs.ComponentParts.{no_parts}
use Rattle.lk_regroup.proofs.component.no_parts.Given as goal

abbrev pub invariant-loop-component : goal.invariant-loop-component
invariant-loop-component l = l.parts ++ map no_parts (drop l.component-index l.components) ≡ map no_parts l.components
