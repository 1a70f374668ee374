use Rattle.std.proofs.Common.{◌≡◌, ◌+◌, ◌++◌, drop}
use Rattle.lk_resolved.specs.Explores.{joins_from}
use Rattle.lk_resolved.proofs.joins.joins.Given as goal

abbrev pub invariant-loop-join : goal.invariant-loop-join
invariant-loop-join l =
    record {
      counted : l.part ≡ l.join-index + 1;
      rest : l.made ++ joins_from l.model.fields.now.schema.now l.model.fields.now.views.now l.model.fields.now.scope.now l.model.fields.now.columns.now l.joins l.part (drop l.join-index l.joins) ≡ joins_from l.model.fields.now.schema.now l.model.fields.now.views.now l.model.fields.now.scope.now l.model.fields.now.columns.now l.joins 1 l.joins;
    }
