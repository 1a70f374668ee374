use Rattle.std.proofs.Common.{◌≡◌, drop}
use Rattle.std.specs.List.{flat_map, fold}
use Rattle.lk_params.specs.Findings.{sooner}
use Rattle.lk_merge.specs.Strays.{wrong_findings}
use Rattle.lk_merge.proofs.strays.find_wrong.Given as goal

-- the first of what is found so far and of what is left to find
abbrev pub invariant-loop-item : goal.invariant-loop-item
invariant-loop-item l =
    fold sooner l.findings.first (flat_map (wrong_findings l.path) (drop l.item-index l.items))
    ≡ fold sooner l.fn.findings.first (flat_map (wrong_findings l.path) l.items)
