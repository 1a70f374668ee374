use Rattle.std.proofs.Common.{◌≡◌, ◌+◌, ◌≤◌, drop}
use Rattle.std.specs.List.{count_by}
use Rattle.lk_model.specs.Counts.{is_persisted}
use Rattle.lk_model.proofs.counts.persisted_count.Given as goal

abbrev pub invariant-loop-view : goal.invariant-loop-view
invariant-loop-view l = record {
  small : l.count ≤ l.view-index;
  rest : l.count + count_by is_persisted (drop l.view-index l.views) ≡ count_by is_persisted l.views;
}
