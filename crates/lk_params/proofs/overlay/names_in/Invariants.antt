use Rattle.std.proofs.Common.{◌≡◌, ◌++◌, drop}
use Rattle.std.specs.Prelude.{map}
use Rattle.std.specs.List.{flat_map}
use Rattle.lk_params.proofs.overlay.names_in.Given as goal

abbrev pub invariant-loop-block : goal.invariant-loop-block
invariant-loop-block l = l.all ++ flat_map (λ items. map (λ item. item.name) items) (drop l.block-index l.blocks) ≡ flat_map (λ items. map (λ item. item.name) items) l.blocks
