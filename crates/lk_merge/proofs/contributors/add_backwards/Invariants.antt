use Rattle.std.proofs.Common.{◌≡◌, ◌++◌, take}
use Rattle.std.specs.Prelude.{map}
use Rattle.lk_merge.specs.Objects.{handed_on}
use Rattle.lk_merge.specs.Walking.{handed_back}
use Rattle.lk_merge.proofs.contributors.add_backwards.Given as goal

abbrev pub invariant-loop-place : goal.invariant-loop-place
invariant-loop-place l = map handed_on (map (λ d. d.now) (take l.place l.ds)) ++ handed_back l.found.items ≡ map handed_on (map (λ d. d.now) l.ds) ++ handed_back l.fn.found.items
