use Rattle.std.proofs.Common.{◌≡◌, ◌≤◌, length, drop}
use Rattle.lk_scope.specs.Keys.{key_in}
use Rattle.lk_scope.proofs.scope_fields.ScopeFields.key_in.Given as goal

abbrev pub invariant-loop-number : goal.invariant-loop-number
invariant-loop-number l = record {
  begun : l.number ≤ length l.fields;
  rest : key_in l.self.views.now l.self.scope.now l.part l.number (drop l.number l.fields)
      ≡ key_in l.self.views.now l.self.scope.now l.part 0 l.fields;
}
