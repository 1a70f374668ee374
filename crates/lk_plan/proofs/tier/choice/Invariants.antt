use Rattle.std.proofs.Common.{take}
use Rattle.lk_postfix.specs.Postfix.{Builds}
use Rattle.lk_types.specs.FormulaNodes.{arity, made}
use Rattle.lk_plan.proofs.tier.choice.Given as goal

abbrev pub invariant-loop-operand : goal.invariant-loop-operand
invariant-loop-operand l = Builds arity made l.nodes (take l.operand-index l.operands)
