use Rattle.std.proofs.Common.{◌≡◌, ◌≤◌, [], length, take, drop}
use Rattle.std.specs.List.{fold}
use Rattle.lk_params.specs.Findings.{sooner}
use Rattle.lk_explore.specs.Rollups.{item_by_item}
use Rattle.lk_explore.proofs.rollup_findings.find_in_items.Given as goal

abbrev pub invariant-loop-place : goal.invariant-loop-place
invariant-loop-place l = record {
  begun : l.place ≤ length l.items;
  rest : fold sooner l.findings.first (item_by_item l.table (take l.place l.items) (drop l.place l.items))
      ≡ fold sooner l.fn.findings.first (item_by_item l.table [] l.items);
}
