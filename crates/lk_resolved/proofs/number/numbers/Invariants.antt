use Rattle.std.proofs.Common.{◌≡◌, map, Some, take}
use Rattle.lk_resolved.specs.Fields.{number_named}
use Rattle.lk_resolved.proofs.number.numbers.Given as goal

abbrev pub invariant-loop-reference : goal.invariant-loop-reference
invariant-loop-reference l = l.numbers ≡ map (λ r. number_named l.fields.views.now l.fields.scope.now l.part (Some r)) (take l.reference-index l.references)
