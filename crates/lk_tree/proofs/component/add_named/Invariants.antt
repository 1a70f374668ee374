use Rattle.std.proofs.Common.{◌≡◌, ◌≤◌, ◌++◌, drop, length}
use Rattle.lk_tree.specs.Components.{stacked}
use Rattle.lk_tree.proofs.component.add_named.Given as goal

abbrev pub invariant-loop-place : goal.invariant-loop-place
invariant-loop-place l = record {
  within : l.place ≤ length l.named;
  stacked : l.left.items ≡ l.fn.left.items ++ stacked l.most (drop l.place l.named);
}

abbrev pub decreases-loop-place : goal.decreases-loop-place
decreases-loop-place l = l.place
