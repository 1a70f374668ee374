use Rattle.std.proofs.Common.{◌≡◌, ◌++◌, drop}
use Rattle.std.specs.Prelude.{map}
use Rattle.std.specs.List.{flat_map}
use Rattle.lk_params.specs.Parameters.{named}
use Rattle.lk_params.specs.Picking.{last_given}
use Rattle.lk_params.proofs.overlay.overlaid.Given as goal

abbrev pub invariant-loop-name : goal.invariant-loop-name
invariant-loop-name l = l.items ++ flat_map (λ name. last_given (map (named name) l.blocks)) (drop l.name-index l.name-items)
    ≡ flat_map (λ name. last_given (map (named name) l.blocks)) l.name-items
