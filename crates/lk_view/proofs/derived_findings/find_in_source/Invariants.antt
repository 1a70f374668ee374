use Rattle.std.proofs.Common.{◌≡◌, ◌≤◌, length, take, drop}
use Rattle.std.specs.List.{fold}
use Rattle.lk_params.specs.declared.owner.Owner.TheVariants as owner
use Rattle.lk_params.specs.Findings.{sooner}
use Rattle.lk_view.specs.ViewFindings.{source_findings, within, within_from}
use Rattle.lk_view.proofs.derived_findings.find_in_source.Given as goal

abbrev pub invariant-loop-place : goal.invariant-loop-place
invariant-loop-place l = record {
  begun : l.place ≤ length l.items;
  rest : fold sooner l.findings.first (within_from owner.ExploreSource l.view (source_findings l.view) (take l.place l.items) (drop l.place l.items))
      ≡ fold sooner l.fn.findings.first (within owner.ExploreSource l.view (source_findings l.view) l.items);
}
