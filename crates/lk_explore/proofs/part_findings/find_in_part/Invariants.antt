use Rattle.std.proofs.Common.{◌≡◌, ◌≤◌, length, take, drop}
use Rattle.std.specs.List.{fold}
use Rattle.lk_params.specs.Findings.{sooner}
use Rattle.lk_explore.specs.PartFindings.{item_findings_in, part_findings}
use Rattle.lk_explore.specs.Values.{within_from}
use Rattle.lk_explore.proofs.part_findings.find_in_part.Given as goal

abbrev pub invariant-loop-place : goal.invariant-loop-place
invariant-loop-place l = record {
  begun : l.place ≤ length l.items;
  rest : fold sooner l.findings.first (within_from l.owner l.object l.at (item_findings_in l.owner l.object l.at) (take l.place l.items) (drop l.place l.items))
      ≡ fold sooner l.fn.findings.first (part_findings l.owner l.object l.at l.items);
}
