use Rattle.std.proofs.Common.{◌≡◌, ◌+◌, drop}
use Rattle.lk_scope.specs.Pieces.{first_along}
use Rattle.lk_explore_faults.specs.JoinFaults.{join_line}
use Rattle.lk_explore_faults.proofs.join_faults.test_joins.Given as goal

abbrev pub invariant-loop-join : goal.invariant-loop-join
invariant-loop-join l = record {
  counted : l.part ≡ l.join-index + 1;
  rest : first_along (join_line l.fields.schema.now l.fields.views.now l.fields.scope.now l.joins) (l.join-index + 1) (drop l.join-index l.joins) ≡ first_along (join_line l.fields.schema.now l.fields.views.now l.fields.scope.now l.joins) 1 l.joins;
}
