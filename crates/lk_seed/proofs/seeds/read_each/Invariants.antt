use Rattle.std.proofs.Common.{◌≡◌, ◌≤◌, length}
use Rattle.lk_seed.proofs.SeedLaws.{IsSoFar}
use Rattle.lk_seed.proofs.seeds.read_each.Given as goal

abbrev pub invariant-loop-def : goal.invariant-loop-def
invariant-loop-def g l = record {
  seeds : IsSoFar (g.F.Files.told l.fn.files) l.defs l.def-index l.seeds;
  count : length l.seeds ≡ l.def-index;
  same : g.F.Files.told l.files ≡ g.F.Files.told l.fn.files;
  later : g.F.Files.faults l.fn.files ≤ g.F.Files.faults l.files;
}
