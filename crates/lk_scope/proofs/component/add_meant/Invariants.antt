use Rattle.std.proofs.Common.{◌≡◌, drop}
use Rattle.std.specs.List.{flat_map, fold}
use Rattle.lk_scope.specs.Components.{measure_meant, put_behind}
use Rattle.lk_scope.proofs.component.add_meant.Given as goal

abbrev pub invariant-loop-reference : goal.invariant-loop-reference
invariant-loop-reference l =
    let meant = measure_meant l.views l.scope l.part in
    fold put_behind l.made (flat_map meant (drop l.reference-index l.references))
    ≡ fold put_behind l.fn.made (flat_map meant l.references)
