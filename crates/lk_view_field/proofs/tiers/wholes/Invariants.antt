use Rattle.std.proofs.Common.{◌≡◌, drop}
use Rattle.lk_params.specs.Values.{prefixed}
use Rattle.lk_view_field.specs.FieldValues.{wholes}
use Rattle.lk_view_field.proofs.tiers.wholes.Given as goal

abbrev pub invariant-loop-text : goal.invariant-loop-text
invariant-loop-text l = prefixed l.numbers (wholes (drop l.text-index l.texts)) ≡ wholes l.texts
