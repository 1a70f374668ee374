use Rattle.std.proofs.Common.{◌≡◌, ◌++◌, drop}
use Rattle.std.specs.List.{flat_map}
use Rattle.lk_fields.specs.Existing.{meant}
use Rattle.lk_fields.proofs.references.add_all.Given as goal

abbrev pub invariant-loop-reference : goal.invariant-loop-reference
invariant-loop-reference l =
    l.found ++ flat_map (meant l.views l.scope l.part l.sort) (drop l.reference-index l.references)
    ≡ l.fn.found ++ flat_map (meant l.views l.scope l.part l.sort) l.references
