use Rattle.std.proofs.Common.{◌≡◌, ◌++◌, drop, length}
use Rattle.std.specs.Prelude.{flat_map}
use Rattle.lk_semantics.specs.Answers.{parts_of_measure}
use Rattle.lk_tree.proofs.component.components.Given as goal

abbrev pub invariant-loop-m : goal.invariant-loop-m
invariant-loop-m l =
    l.parts ++ flat_map (parts_of_measure l.x (length l.x.measures)) (drop l.m-index l.measures) ≡ flat_map (parts_of_measure l.x (length l.x.measures)) l.measures
