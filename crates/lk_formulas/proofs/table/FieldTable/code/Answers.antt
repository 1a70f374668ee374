use Rattle.std.proofs.Common.{◌∙◌, ap, map, sym}
use Rattle.lk_formulas.specs.Resolved.{field_told}
use Rattle.lk_formulas.proofs.FillLaws.{all_kept, told_code}
use Rattle.lk_formulas.proofs.table.FieldTable.code.Goals as goal

pub returns : goal.returns
returns c = λ is.
    let schema = c.args.schema.now in
    let views = c.args.views.now in
    let scope = c.args.scope.now in
    let columns = c.args.columns.now in
    let u = c.args.unknown in
    let ps = c.as_slice.result.now in
    let fs = c.as_slice-fields.result.now in
    let places = c.as_slice.ensures ∙ is.places_are in
    let fields = c.as_slice-fields.ensures ∙ is.fields_are ∙ ap (map (field_told schema views scope columns u)) (sym places) in
    c.resolved_code.ensures
    (told_code schema views scope columns u ps fs (all_kept schema views scope columns u ps fs places fields) c.args.writer c.args.code.now)
