use Rattle.std.proofs.Common.{◌≡◌, drop, map}
use Rattle.lk_types.specs.Expressions.{first_known}
use Rattle.lk_eval.specs.Operands.{operand_value}
use Rattle.lk_eval.proofs.choices.first_known.Given as goal

abbrev pub invariant-loop-operand : goal.invariant-loop-operand
invariant-loop-operand l = first_known (map operand_value (drop l.operand-index l.operands)) ≡ first_known (map operand_value l.operands)
