use Rattle.std.proofs.Common.{◌≡◌, ◌≤◌, ◌-◌}
use Rattle.lk_scope.specs.Components.{components_within}
use Rattle.lk_scope.proofs.component.components_within.Given as goal

abbrev pub invariant-loop-round : goal.invariant-loop-round
invariant-loop-round l = record {
  begun : l._round ≤ l.most;
  rest : components_within l.views l.scope (l.most - l._round) l.places ≡ components_within l.views l.scope l.most l.fn.places;
}
