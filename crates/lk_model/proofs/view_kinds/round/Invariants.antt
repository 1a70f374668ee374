use Rattle.std.proofs.Common.{◌≡◌, map, take}
use Rattle.lk_model.specs.ViewKinds.{view_kinds}
use Rattle.lk_model.proofs.view_kinds.round.Given as goal

abbrev pub invariant-loop-view : goal.invariant-loop-view
invariant-loop-view l = l.views ≡ map (view_kinds l.schema l.declared l.kinds) (take l.view-index l.view-items)
