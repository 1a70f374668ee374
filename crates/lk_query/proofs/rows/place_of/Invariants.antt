use Rattle.std.proofs.Common.{◌≡◌, ◌≤◌, ◌+◌, length, drop}
use Rattle.std.specs.List.{position_or_len}
use Rattle.lk_query.specs.Rows.{stands_first}
use Rattle.lk_query.proofs.rows.place_of.Given as goal

abbrev pub invariant-loop-place : goal.invariant-loop-place
invariant-loop-place l = record {
  begun : l.place ≤ length l.sorted;
  rest : l.place + position_or_len (stands_first l.x l.field) (drop l.place l.sorted) ≡ position_or_len (stands_first l.x l.field) l.sorted;
}
