use Rattle.std.proofs.Common.{◌≡◌, [], drop}
use Rattle.lk_grammar.specs.Steps.{state_ways}
use Rattle.lk_grammar.proofs.steps.Search.next.Given as goal

abbrev pub invariant-loop-stack : goal.invariant-loop-stack
invariant-loop-stack l =
    state_ways l.self.rules.now l.self.byte (drop l.stack-index l.stacks) l.found.items
    ≡ state_ways l.self.rules.now l.self.byte l.stacks []
