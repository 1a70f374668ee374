use Rattle.std.proofs.Common.{◌≡◌, ◌≤◌, ◌-◌}
use Rattle.lk_model.specs.ViewKinds.{rounds}
use Rattle.lk_model.proofs.view_kinds.rounds.Given as goal

abbrev pub invariant-loop-round : goal.invariant-loop-round
invariant-loop-round l = record {
  begun : l._round ≤ l.most;
  rest : rounds l.schema l.declared (l.most - l._round) l.kinds ≡ rounds l.schema l.declared l.most l.fn.kinds;
}
