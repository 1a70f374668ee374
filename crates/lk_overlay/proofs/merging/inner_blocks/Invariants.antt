use Rattle.std.proofs.Common.{◌≡◌, ◌++◌, drop}
use Rattle.std.specs.Prelude.{map}
use Rattle.lk_overlay.specs.Overlay.{inner_of}
use Rattle.lk_overlay.proofs.merging.inner_blocks.Given as goal

abbrev pub invariant-loop-child : goal.invariant-loop-child
invariant-loop-child l = l.blocks ++ map (λ item. inner_of item.value) (drop l.child-index l.children) ≡ map (λ item. inner_of item.value) l.children
