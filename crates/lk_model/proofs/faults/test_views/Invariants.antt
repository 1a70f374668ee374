use Rattle.std.proofs.Common.{◌≡◌, drop}
use Rattle.lk_scope.specs.Pieces.{first_along}
use Rattle.lk_model.specs.Faults.{view_line}
use Rattle.lk_model.proofs.faults.test_views.Given as goal

abbrev pub invariant-loop-view : goal.invariant-loop-view
invariant-loop-view l = record {
  counted : l.number ≡ l.view-index;
  rest : first_along (view_line l.schema l.declared l.kinds) l.view-index (drop l.view-index l.view-items) ≡ first_along (view_line l.schema l.declared l.kinds) 0 l.declared.views;
}
