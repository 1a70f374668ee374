use Rattle.std.proofs.Common.{◌≡◌, [], take}
use Rattle.lk_postfix.specs.Postfix.{after_nodes}
use Rattle.lk_types.specs.CalculationNodes.{arity}
use Rattle.lk_semantics.specs.Answers.{component_cell, frac_of_cell}
use Rattle.lk_lines.specs.Values.{value_made}
use Rattle.lk_lines.proofs.calculating.values.Given as goal

abbrev pub invariant-loop-node : goal.invariant-loop-node
invariant-loop-node l = l.stack ≡ after_nodes arity (value_made (λ m. frac_of_cell (component_cell l.components l.cells m))) [] (take l.node-index l.nodes)
