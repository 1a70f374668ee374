use Rattle.std.proofs.Common.{◌≡◌, take}
use Rattle.lk_state.specs.Openings.{empty_tables}
use Rattle.lk_state.specs.States.{AreTables}
use Rattle.lk_state.proofs.opening.empty_tables.Given as goal

abbrev pub invariant-loop-def : goal.invariant-loop-def
invariant-loop-def l = record {
  value : l.tables ≡ empty_tables (take l.def-index l.defs);
  are : AreTables (take l.def-index l.defs) l.tables;
}
