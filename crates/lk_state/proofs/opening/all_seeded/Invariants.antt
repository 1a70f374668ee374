use Rattle.std.proofs.Common.{◌≡◌, drop}
use Rattle.lk_state.specs.Openings.{all_seeded}
use Rattle.lk_state.specs.States.{AreTables}
use Rattle.lk_state.proofs.opening.all_seeded.Given as goal

abbrev pub invariant-loop-seed : goal.invariant-loop-seed
invariant-loop-seed l = record {
  so_far : all_seeded l.defs l.tables (drop l.seed-index l.seeds) ≡ all_seeded l.defs l.fn.tables l.seeds;
  tables : AreTables l.defs l.tables;
}
