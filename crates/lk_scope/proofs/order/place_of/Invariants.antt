use Rattle.std.proofs.Common.{◌≡◌, ◌≤◌, ◌+◌, length, drop}
use Rattle.std.specs.List.{position_or_len}
use Rattle.lk_scope.specs.Order.{goes_before}
use Rattle.lk_scope.proofs.order.place_of.Given as goal

abbrev pub invariant-loop-place : goal.invariant-loop-place
invariant-loop-place l = record {
  begun : l.place ≤ length l.parts;
  rest : l.place + position_or_len (goes_before l.scope l.part) (drop l.place l.parts)
      ≡ position_or_len (goes_before l.scope l.part) l.parts;
}
