use Rattle.std.proofs.Common.{take}
use Rattle.lk_fields.specs.Reaching.{IsVisit}
use Rattle.lk_fields.proofs.reaching.visit_all.Given as goal

abbrev pub invariant-loop-number : goal.invariant-loop-number
invariant-loop-number l = IsVisit (take l.number-index l.names) l.fn.marks l.fn.found l.marks l.found
