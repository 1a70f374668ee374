use Rattle.std.proofs.Common.{◌∙◌, map}
use Rattle.lk_formulas.specs.FormulaKinds.{kinds_at}
use Rattle.lk_formulas.specs.Referents.{formula_of_referent}
use Rattle.lk_formulas.proofs.ToldLaws.{expr_told}
use Rattle.lk_formulas.proofs.code.resolved_with.Goals as goal

pub returns : goal.returns
returns c = λ by read told.
    let columns = c.args.columns.now in
    let e = c.args.expr.now in
    let xs = map (formula_of_referent columns c.args.unknown c.args.fields.now) c.args.referents.now in
    let size = c.nodes_with-size.ensures by (c.as_slice.ensures ∙ c.in_ok-sizes.ensures ∙ told.sizes) in
    let kinds = c.in_ok-kinds.ensures (kinds_at columns) read (c.as_slice-2.ensures ∙ c.in_ok-sides.ensures ∙ told.sides) in
    let expr = c.in_ok-kept.ensures told.kept_sides ∙ expr_told columns by read xs e c.nodes_with-size.result size told.formulas in
    λ i. record { size = size i; kinds = kinds i; is_certain = c.are_certain.ensures i; expr = expr i }
