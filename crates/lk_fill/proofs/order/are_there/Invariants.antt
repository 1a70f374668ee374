use Rattle.std.proofs.Common.{◌≡◌, drop}
use Rattle.std.specs.List.{list_all}
use Rattle.lk_types.specs.Expressions.{has_number}
use Rattle.lk_fill.proofs.order.are_there.Given as goal

abbrev pub invariant-loop-table : goal.invariant-loop-table
invariant-loop-table l = list_all (λ e. has_number e l.order) (drop l.table-index l.tables) ≡ list_all (λ e. has_number e l.order) l.tables
