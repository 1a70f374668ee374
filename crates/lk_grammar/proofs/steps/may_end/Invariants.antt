use Rattle.std.proofs.Common.{◌≡◌, drop}
use Rattle.lk_grammar.specs.Steps.{may_state_end}
use Rattle.lk_grammar.proofs.steps.may_end.Given as goal

abbrev pub invariant-loop-stack : goal.invariant-loop-stack
invariant-loop-stack l = may_state_end (drop l.stack-index l.stacks) ≡ may_state_end l.stacks
