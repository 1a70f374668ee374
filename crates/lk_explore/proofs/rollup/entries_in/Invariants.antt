use Rattle.std.proofs.Common.{◌≡◌, ◌≤◌, ◌++◌, length, take, drop}
use Rattle.lk_params.specs.Known.{along}
use Rattle.lk_written.specs.Values.{filters_at}
use Rattle.lk_explore.specs.Rollups.{entries_at, entries_in}
use Rattle.lk_explore.proofs.rollup.entries_in.Given as goal

abbrev pub invariant-loop-place : goal.invariant-loop-place
invariant-loop-place l = record {
  begun : l.place ≤ length l.query;
  numbered : l.filters ≡ length (filters_at (take l.place l.query));
  rest : l.entries ++ along entries_at (take l.place l.query) (drop l.place l.query) ≡ entries_in l.query;
}
