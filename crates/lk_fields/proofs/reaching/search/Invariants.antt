use Rattle.lk_fields.specs.Reaching.{IsSearched}
use Rattle.lk_fields.proofs.reaching.search.Given as goal

abbrev pub invariant-loop-next : goal.invariant-loop-next
invariant-loop-next l = IsSearched l.rows l.begun l.next l.marks l.found
