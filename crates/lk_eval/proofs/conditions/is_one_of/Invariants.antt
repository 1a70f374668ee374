use Rattle.std.proofs.Common.{◌≡◌, ◌≤◌, length, drop, map}
use Rattle.lk_val.specs.ValueRefs.{value_of_ref}
use Rattle.lk_types.specs.Expressions.{is_one_of}
use Rattle.lk_eval.specs.Operands.{operand_value}
use Rattle.lk_eval.proofs.conditions.is_one_of.Given as goal

abbrev pub invariant-loop-left : goal.invariant-loop-left
invariant-loop-left l = (l.left ≤ length l.items) × (l.found ≡ is_one_of (value_of_ref l.v) (map operand_value (drop l.left l.items)))

abbrev pub decreases-loop-left : goal.decreases-loop-left
decreases-loop-left l = l.left
