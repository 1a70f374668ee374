use Rattle.std.proofs.Common.{◌≡◌, drop}
use Rattle.std.specs.List.{flat_map, fold}
use Rattle.lk_params.specs.Findings.{sooner}
use Rattle.lk_field_faults.specs.FieldNames.{reference_findings}
use Rattle.lk_field_faults.proofs.field_names.find_in_references.Given as goal

abbrev pub invariant-loop-reference : goal.invariant-loop-reference
invariant-loop-reference l =
    let rule = reference_findings l.fields.schema.now l.fields.views.now l.fields.scope.now l.object l.at l.part l.sort in
    fold sooner l.findings.first (flat_map rule (drop l.reference-index l.references))
    ≡ fold sooner l.fn.findings.first (flat_map rule l.references)
