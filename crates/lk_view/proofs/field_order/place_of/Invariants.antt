use Rattle.std.proofs.Common.{◌≡◌, ◌≤◌, ◌+◌, length, map, drop}
use Rattle.std.specs.List.{position_or_len}
use Rattle.lk_view.specs.FieldOrder.{goes_before}
use Rattle.lk_view.proofs.field_order.place_of.Given as goal

abbrev pub invariant-loop-place : goal.invariant-loop-place
invariant-loop-place l = record {
  begun : l.place ≤ length l.fields;
  rest : l.place + position_or_len (goes_before l.item) (map (λ f. f.now) (drop l.place l.fields))
      ≡ position_or_len (goes_before l.item) (map (λ f. f.now) l.fields);
}
