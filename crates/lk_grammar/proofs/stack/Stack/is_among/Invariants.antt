use Rattle.std.proofs.Common.{◌≡◌, drop}
use Rattle.std.specs.List.{list_any}
use Rattle.lk_grammar.specs.Steps.{is_same_stack}
use Rattle.lk_grammar.proofs.stack.Stack.is_among.Given as goal

abbrev pub invariant-loop-stack : goal.invariant-loop-stack
invariant-loop-stack l =
    list_any (is_same_stack l.self) (drop l.stack-index l.found) ≡ list_any (is_same_stack l.self) l.found
