use Rattle.std.proofs.Common.{◌≡◌, drop}
use Rattle.std.specs.List.{fold}
use Rattle.lk_scope.specs.Order.{numbers_from, parts_by_name, put_in}
use Rattle.lk_scope.proofs.order.parts_by_name.Given as goal

abbrev pub invariant-loop-part : goal.invariant-loop-part
invariant-loop-part l = record {
  counted : l.number ≡ l._part-index;
  rest : fold (put_in l.scope) l.parts.items (numbers_from l._part-index (drop l._part-index l.scope.parts)) ≡ parts_by_name l.scope;
}
