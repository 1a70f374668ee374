use Rattle.std.proofs.Common.{◌≡◌, ◌≤◌, length, drop}
use Rattle.lk_fields.specs.Scopes.{first_making, in_view}
use Rattle.lk_fields.proofs.view_names.in_view.Given as goal

abbrev pub invariant-loop-number : goal.invariant-loop-number
invariant-loop-number l = record {
  begun : l.number ≤ length l.fields;
  rest : first_making l.sort l.name l.number (drop l.number l.fields) ≡ in_view l.sort l.name l.view;
}
