use Rattle.std.proofs.Common.{◌≡◌, drop}
use Rattle.std.specs.Prelude.{map}
use Rattle.lk_params.specs.Parameters.{named}
use Rattle.lk_params.specs.Picking.{last_given, or_list}
use Rattle.lk_params.proofs.overlay.last_with.Given as goal

abbrev pub invariant-loop-block : goal.invariant-loop-block
invariant-loop-block l = or_list (last_given (map (named l.name) (drop l.block-index l.blocks))) l.last ≡ last_given (map (named l.name) l.blocks)
