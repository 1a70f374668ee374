use Rattle.std.proofs.Common.{◌≡◌, ◌≤◌, ◌+◌, ◌++◌}
use Rattle.lk_written.specs.Entries.{filter_entries}
use Rattle.lk_written.proofs.entries.add_filter_entries.Given as goal

abbrev pub invariant-loop-done : goal.invariant-loop-done
invariant-loop-done l = record {
  begun : l._done ≤ l.count;
  numbered : l.entries ≡ l.fn.entries ++ filter_entries l.first l._done;
  next : l.number ≡ l.first + l._done;
}
