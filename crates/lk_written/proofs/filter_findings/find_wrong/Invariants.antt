use Rattle.std.proofs.Common.{◌≡◌, [], codes, drop}
use Rattle.std.specs.Prelude.{if◌then◌else◌}
use Rattle.std.specs.List.{flat_map, fold}
use Rattle.lk_val.specs.Texts.{is_same_text}
use Rattle.lk_params.specs.Findings.{sooner}
use Rattle.lk_written.specs.FilterFindings.{filters_wrong}
use Rattle.lk_written.proofs.filter_findings.find_wrong.Given as goal

abbrev pub invariant-loop-item : goal.invariant-loop-item
invariant-loop-item l =
    fold sooner l.findings.first (flat_map (λ item. if is_same_text item.name (codes "filters") then filters_wrong l.order l.object l.at item.value else []) (drop l.item-index l.items))
    ≡ fold sooner l.fn.findings.first (flat_map (λ item. if is_same_text item.name (codes "filters") then filters_wrong l.order l.object l.at item.value else []) l.items)
