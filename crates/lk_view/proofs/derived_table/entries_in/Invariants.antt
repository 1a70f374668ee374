use Rattle.std.proofs.Common.{◌≡◌, ◌≤◌, ◌++◌, length, take, drop}
use Rattle.lk_written.specs.Values.{filters_at}
use Rattle.lk_view.specs.DerivedTables.{entries_from, entries_in}
use Rattle.lk_view.proofs.derived_table.entries_in.Given as goal

abbrev pub invariant-loop-place : goal.invariant-loop-place
invariant-loop-place l = record {
  within : l.place ≤ length l.source;
  numbered : l.filters ≡ length (filters_at (take l.place l.source));
  rest : l.entries ++ entries_from l.source (take l.place l.source) (drop l.place l.source) ≡ entries_in l.source;
}
