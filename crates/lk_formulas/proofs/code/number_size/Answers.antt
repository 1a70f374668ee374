use Rattle.std.proofs.Common.{◌≡◌, ◌∙◌, List, map, ap, subst, sym}
use Rattle.lk_objects.specs.declared.code.Code.{Code}
use Rattle.lk_objects.specs.declared.code.Reference.{Reference}
use Rattle.lk_fields.specs.declared.scope.Sort.TheVariants as sort
use Rattle.lk_fields.specs.declared.scope.Writer.TheVariants as writer
use Rattle.lk_formulas.specs.declared.columns.ColumnKinds.{ColumnKinds}
use Rattle.lk_formulas.specs.declared.columns.UnknownColumn.{UnknownColumn}
use Rattle.lk_formulas.specs.NumberSizes.{nodes_meant, nodes_of_code, number_nodes, told}
use Rattle.lk_formulas.specs.Referents.{number_size_of, referent_of}
use Rattle.lk_formulas.specs.Told.{IsCodeTold}
use Rattle.lk_formulas.proofs.ToldLaws.{numbers_told, other_number}
use Rattle.lk_formulas.proofs.code.number_size.Goals as goal

pub returns-in_ok-sizes-in-Number : goal.returns-in_ok-sizes-in-Number
returns-in_ok-sizes-in-Number c =
    let schema = c.args.names.now.schema.now in
    let views = c.args.names.now.views.now in
    let scope = c.args.names.now.scope.now in
    let places = c.args.names.now.places.now in
    let fields = c.args.fields.now in
    let part = c.args.part in
    subst (λ (code : Code). (columns : ColumnKinds) (unknown : UnknownColumn)
    → IsCodeTold schema views scope columns unknown places fields (writer.Field part) code → c.nodes_by.result ≡ told (nodes_of_code views scope (number_nodes views scope) part code))
    (sym c.in-Number.is)
    (λ columns unknown is_told.
    let rs = c.in-Number.written.references in
    let one = referent_of schema views scope places (writer.Field part) sort.Measure in
    let same : c.as_slice.result.now ≡ map one rs =
    c.as_slice.ensures ∙ c.in_ok-referents-in-Number.ensures ∙ ap (λ (t : List Reference). map one t) c.as_slice-references.ensures in
    c.nodes_by.ensures (map (nodes_meant views scope (number_nodes views scope) part) rs)
    (c.as_slice-in-Number.ensures ∙ c.in_ok-sizes-in-Number.ensures ∙ ap (λ t. map (number_size_of fields) t) same
    ∙ numbers_told schema views scope columns unknown places fields part rs is_told))

pub returns-in_default : goal.returns-in_default
returns-in_default c = λ columns unknown is_told. other_number c.args.names.now.views.now c.args.names.now.scope.now c.args.part c.args.code.now c.in_default.not-Number
