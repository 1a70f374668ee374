use Rattle.std.proofs.Common.{◌≡◌, ◌++◌, drop}
use Rattle.std.specs.List.{flat_map}
use Rattle.lk_model.specs.Models.{derived_of}
use Rattle.lk_model.proofs.model.derived.Given as goal

abbrev pub invariant-loop-view : goal.invariant-loop-view
invariant-loop-view l =
    l.made ++ flat_map (derived_of l.declared) (drop l.view-index l.view-items) ≡ flat_map (derived_of l.declared) l.declared.views
