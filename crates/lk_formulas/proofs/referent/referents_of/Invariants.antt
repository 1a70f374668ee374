use Rattle.std.proofs.Common.{◌≡◌, ◌++◌, drop, map}
use Rattle.lk_formulas.specs.Referents.{referent_of}
use Rattle.lk_formulas.proofs.referent.referents_of.Given as goal

abbrev pub invariant-loop-reference : goal.invariant-loop-reference
invariant-loop-reference l =
    let one = referent_of l.names.schema.now l.names.views.now l.names.scope.now l.names.places.now l.writer l.sort in
    l.referents ++ map one (drop l.reference-index l.references) ≡ map one l.references
