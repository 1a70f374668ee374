use Rattle.std.proofs.Common.{◌≡◌, drop}
use Rattle.lk_fill.specs.Reached.{first_reached}
use Rattle.lk_fill.proofs.reached.first_among.Given as goal

abbrev pub invariant-loop-table : goal.invariant-loop-table
invariant-loop-table l = first_reached l.groups (drop l.table-index l.tables) ≡ first_reached l.groups l.tables
