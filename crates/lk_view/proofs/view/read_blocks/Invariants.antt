use Rattle.std.proofs.Common.{map, take}
use Rattle.lk_view.specs.Views.{AreFields}
use Rattle.lk_view.proofs.view.read_blocks.Given as goal

abbrev pub invariant-loop-block : goal.invariant-loop-block
invariant-loop-block l = AreFields l.view (map (λ b. b.now) (take l.block-index l.blocks)) l.fields
