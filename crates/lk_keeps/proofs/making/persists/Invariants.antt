use Rattle.std.proofs.Common.{◌≡◌, ◌∷◌, [], drop}
use Rattle.std.specs.List.{list_any}
use Rattle.lk_types.specs.declared.model.Derived.{Derived}
use Rattle.lk_keeps.specs.Keeps.{is_of, persists}
use Rattle.lk_keeps.proofs.making.persists.Given as goal

abbrev pub invariant-loop-table : goal.invariant-loop-table
invariant-loop-table l = list_any (λ (d : Derived). is_of (l.group ∷ []) d.datagroup) (drop l.table-index l.m.derived) ≡ persists l.m l.group
