use Rattle.std.proofs.Common.{◌≡◌, drop}
use Rattle.lk_state.specs.Openings.{all_appended}
use Rattle.lk_state.specs.States.{AreTables}
use Rattle.lk_state.proofs.opening.all_appended.Given as goal

abbrev pub invariant-loop-chunk : goal.invariant-loop-chunk
invariant-loop-chunk l = record {
  so_far : all_appended l.defs l.tables (drop l.chunk-index l.chunks) ≡ all_appended l.defs l.fn.tables l.chunks;
  tables : AreTables l.defs l.tables;
}
