use Rattle.std.proofs.Common.{arith}
use Rattle.lk_grammar.proofs.StepLemmas.{not_opened, no_such_rule, opened_deeper}
use Rattle.lk_grammar.proofs.steps.Search.opened.Goals as goal

pub returns-then-depth-eq0-clause-none : goal.returns-then-depth-eq0-clause-none
returns-then-depth-eq0-clause-none c rest found = not_opened _ _ _ _ rest found c.if-depth-eq0.true

pub returns-then-self-rule-clause-none : goal.returns-then-self-rule-clause-none
returns-then-self-rule-clause-none c rest found = no_such_rule _ _ _ _ rest found c.if-self-rule.true

pub returns-clause-some : goal.returns-clause-some
returns-clause-some c rest found = opened_deeper _ _ _ _ _ rest found (omega arith) (omega arith)
