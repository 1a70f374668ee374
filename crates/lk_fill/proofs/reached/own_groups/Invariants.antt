use Rattle.std.proofs.Common.{◌≡◌, ◌++◌, drop, map}
use Rattle.lk_types.specs.declared.model.Derived.{Derived}
use Rattle.lk_fill.proofs.reached.own_groups.Given as goal

abbrev pub invariant-loop-table : goal.invariant-loop-table
invariant-loop-table l = l.groups ++ map (λ (table : Derived). table.datagroup) (drop l.table-index l.tables) ≡ map (λ (table : Derived). table.datagroup) l.tables
