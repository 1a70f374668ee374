use Rattle.std.proofs.Common.{◌≡◌, drop}
use Rattle.lk_view_field.specs.FieldValues.{ascends}
use Rattle.lk_view_field.proofs.tiers.ascends.Given as goal

abbrev pub invariant-loop-place : goal.invariant-loop-place
invariant-loop-place l = ascends (drop l.place l.numbers) ≡ ascends l.numbers
