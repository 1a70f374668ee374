use Rattle.std.proofs.Common.{◌≡◌, not, codes, drop}
use Rattle.std.specs.List.{flat_map, fold}
use Rattle.lk_read.specs.EntryOutline.{entries_of}
use Rattle.lk_params.specs.Findings.{sooner}
use Rattle.lk_written.specs.Values.{is_pair}
use Rattle.lk_written.specs.ValueFindings.{wrong}
use Rattle.lk_written.proofs.filter_findings.find_in_entries.Given as goal

abbrev pub invariant-loop-entry : goal.invariant-loop-entry
invariant-loop-entry l =
    fold sooner l.findings.first (flat_map (λ e. wrong l.order l.object l.at (codes "filters") (not (is_pair e))) (entries_of (drop l.entry-index l.entries)))
    ≡ fold sooner l.fn.findings.first (flat_map (λ e. wrong l.order l.object l.at (codes "filters") (not (is_pair e))) (entries_of l.entries))
