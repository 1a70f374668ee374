use Rattle.std.proofs.Common.{◌≡◌, ◌≤◌, ◌+◌, length, map}
use Rattle.lk_eval.specs.NodeValues.{first_chosen}
use Rattle.lk_eval.specs.Operands.{operand_value}
use Rattle.lk_eval.proofs.choices.first_chosen.Given as goal

abbrev pub invariant-loop-used : goal.invariant-loop-used
invariant-loop-used l = (length l.rest + l._used-index ≤ length l.operands) × (first_chosen (map operand_value l.rest) ≡ first_chosen (map operand_value l.operands))
