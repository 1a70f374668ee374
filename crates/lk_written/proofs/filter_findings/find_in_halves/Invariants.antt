use Rattle.std.proofs.Common.{◌≡◌, ◌≤◌, [], length, take, drop}
use Rattle.std.specs.List.{fold}
use Rattle.lk_params.specs.Findings.{sooner}
use Rattle.lk_params.specs.Known.{along}
use Rattle.lk_written.specs.FilterFindings.{half_findings}
use Rattle.lk_written.proofs.filter_findings.find_in_halves.Given as goal

abbrev pub invariant-loop-place : goal.invariant-loop-place
invariant-loop-place l = record {
  within : l.place ≤ length l.items;
  rest : fold sooner l.findings.first (along (half_findings l.order l.object l.at) (take l.place l.items) (drop l.place l.items))
      ≡ fold sooner l.fn.findings.first (along (half_findings l.order l.object l.at) [] l.items);
}
