use Rattle.std.proofs.Common.{◌≡◌, ◌≤◌, false}
use Rattle.std.specs.List.{AllAdjacentBelow}
use Rattle.lk_query.specs.NameOrder.{is_before}
use Rattle.lk_query.proofs.field_names.fields_ascend.Given as goal

abbrev pub invariant-loop-place : goal.invariant-loop-place
invariant-loop-place l = record {
  begun : 1 ≤ l.place;
  order : AllAdjacentBelow (λ a b. is_before b.name a.name ≡ false) l.fields l.place;
}
