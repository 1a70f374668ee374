use Rattle.std.proofs.Common.{◌∙◌, ap, map, sym}
use Rattle.lk_formulas.specs.Resolved.{field_told}
use Rattle.lk_formulas.proofs.FillLaws.{all_kept}
use Rattle.lk_formulas.proofs.table.FieldTable.kept.Goals as goal

pub returns : goal.returns
returns c = λ schema views scope columns u is.
    let places = c.as_slice.ensures ∙ is.places_are in
    c.kept_at.ensures
    ∙ all_kept schema views scope columns u c.as_slice.result.now c.as_slice-2.result.now places
    (c.as_slice-2.ensures ∙ is.fields_are ∙ ap (map (field_told schema views scope columns u)) (sym places)) c.args.place
