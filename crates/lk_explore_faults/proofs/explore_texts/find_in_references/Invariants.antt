use Rattle.std.proofs.Common.{◌≡◌, drop}
use Rattle.std.specs.List.{flat_map, fold}
use Rattle.lk_params.specs.Findings.{sooner}
use Rattle.lk_explore_faults.specs.ExploreTexts.{reference_findings}
use Rattle.lk_explore_faults.proofs.explore_texts.find_in_references.Given as goal

abbrev pub invariant-loop-reference : goal.invariant-loop-reference
invariant-loop-reference l =
    let rule = reference_findings l.fields.schema.now l.fields.views.now l.fields.scope.now l.object l.at in
    fold sooner l.findings.first (flat_map rule (drop l.reference-index l.references))
    ≡ fold sooner l.fn.findings.first (flat_map rule l.references)
