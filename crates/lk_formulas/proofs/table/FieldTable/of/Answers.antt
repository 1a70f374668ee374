use Rattle.std.proofs.Common.{◌∙◌, map, ap}
use Rattle.lk_formulas.specs.Resolved.{field_told}
use Rattle.lk_formulas.proofs.table.FieldTable.of.Goals as goal

pub returns : goal.returns
returns c = record {
  set_is = c.in_ok-set.ensures;
  places_are = c.in_ok-places.ensures;
  fields_are =
      c.in_ok-fields.ensures
      ∙ ap (map (field_told c.args.schema.now c.args.views.now c.args.scope.now c.args.columns.now c.args.unknown)) (c.as_slice.ensures ∙ c.in_ok-places.ensures);
}
